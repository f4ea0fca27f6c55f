-- Networks that are cut between interfaces.
use Rattle.std.specs.Prelude.{ℕ, List, [], ◌∷◌, ◌++◌}
use Rattle.rc_base.specs.declared.position.IfId.{IfId}
use Rattle.rc_config.specs.declared.network.Network.{Network}
use Rattle.rc_config.specs.declared.router_text.RouterText.{RouterText}

-- the network of some routers, which is cut nowhere
abbrev pub uncut : List (List ℕ × RouterText) → Network
uncut routers = record { routers = routers; cuts = [] }

-- the same network, cut between two interfaces more
abbrev pub with_cut : Network → IfId → IfId → Network
with_cut net first second = record { routers = net.routers; cuts = net.cuts ++ record { first = first; second = second } ∷ [] }
