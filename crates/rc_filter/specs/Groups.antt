-- What the access groups of an interface let pass (IOS `ip access-group`), in each direction.
use Rattle.std.specs.Prelude.{ℕ, Bool, true, List, []}
use Rattle.std.specs.Option.{option_map_or}
use Rattle.rc_base.specs.declared.header.Header.{Header}
use Rattle.rc_base.specs.declared.position.IfId.{IfId}
use Rattle.rc_config.specs.Interface.{group_of}
use Rattle.rc_config.specs.Members.{interface_at, router_at}
use Rattle.rc_config.specs.declared.access_list.AccessList.{AccessList}
use Rattle.rc_config.specs.declared.interface.Direction.{Direction}
use Rattle.rc_config.specs.declared.network.Network.{Network}
use Rattle.rc_config.specs.declared.router_text.RouterText.{RouterText}
use Rattle.rc_filter.specs.Verdict.{passes}

-- the access lists of a router; none where there is no such router
abbrev pub access_lists_of : Network → ℕ → List (List ℕ × AccessList)
access_lists_of net r = option_map_or (λ (text : RouterText). text.lists.access_lists) (router_at net r) []

-- an interface lets a header pass in a direction by its group there, whose list is its own router's. Whether it is down isn't
-- asked, and an interface that isn't there lets everything pass.
abbrev pub passes_at : Network → Direction → Header → IfId → Bool
passes_at net direction h i = option_map_or (λ e. passes (access_lists_of net i.router) (group_of e.1 direction) h) (interface_at net i) true
