-- Worked cases of access groups at the interfaces of a network, each by computation.
use Rattle.std.specs.Prelude.{◌≡◌, ℕ, true, false, List, [], ◌∷◌, codes, refl}
use Rattle.rc_base.specs.Fields.{zeros}
use Rattle.rc_base.specs.declared.header.Header.{Header}
use Rattle.rc_base.specs.declared.position.IfId.{IfId}
use Rattle.rc_config.specs.AccessList.{any_address, no_lines, standard_line, with_line}
use Rattle.rc_config.specs.Cuts.{uncut}
use Rattle.rc_config.specs.Interface.{fresh, with_group}
use Rattle.rc_config.specs.Lists.{no_lists}
use Rattle.rc_config.specs.Update.{empty}
use Rattle.rc_config.specs.declared.access_list.Action.TheVariants.{Deny, Permit}
use Rattle.rc_config.specs.declared.access_list.AccessList.{AccessList}
use Rattle.rc_config.specs.declared.access_list.AccessListKind.TheVariants.{Standard}
use Rattle.rc_config.specs.declared.interface.Direction.TheVariants.{In, Out}
use Rattle.rc_config.specs.declared.interface.Interface.{Interface}
use Rattle.rc_config.specs.declared.network.Network.{Network}
use Rattle.rc_config.specs.declared.router_text.RouterText.{RouterText}
use Rattle.rc_filter.specs.Groups.{passes_at}
use Rattle.rc_filter.specs.Verdict.{matches, same_bits}

abbrev name : List ℕ
name = codes "LIST"

abbrev router : List (List ℕ × Interface) → List (List ℕ × AccessList) → RouterText
router interfaces access_lists = record empty { interfaces = interfaces; lists = record no_lists { access_lists = access_lists } }

abbrev port : ℕ → ℕ → IfId
port r n = record { router = r; index = n }

abbrev packet : Header
packet = record zeros { dst = 1; src = 2; proto = 6; sport = 40000; dport = 22 }

-- Router A's list denies all, and stands inbound at its first interface and outbound at its second; the third one has none. Router
-- B's list of the same name permits all, and stands both ways at its interface.
abbrev net : Network
net = uncut (
    (codes "A", router ((codes "Vlan1", with_group fresh name In) ∷ (codes "Vlan2", with_group fresh name Out) ∷ (codes "Vlan3", fresh) ∷ []) ((name, with_line (no_lines Standard) (standard_line 10 Deny any_address)) ∷ []))
    ∷ (codes "B", router ((codes "Vlan1", with_group (with_group fresh name In) name Out) ∷ []) ((name, with_line (no_lines Standard) (standard_line 10 Permit any_address)) ∷ [])) ∷ [])

pub denied_in : passes_at net In packet (port 0 0) ≡ false
unfolding matches same_bits
denied_in = refl

pub denied_out : passes_at net Out packet (port 0 1) ≡ false
unfolding matches same_bits
denied_out = refl

-- each direction has a group of its own
pub inbound_alone : passes_at net Out packet (port 0 0) ≡ true
inbound_alone = refl

pub outbound_alone : passes_at net In packet (port 0 1) ≡ true
outbound_alone = refl

pub without_group : passes_at net In packet (port 0 2) ≡ true
without_group = refl

-- the list is the interface's own router's
pub own_list_in : passes_at net In packet (port 1 0) ≡ true
unfolding matches same_bits
own_list_in = refl

pub own_list_out : passes_at net Out packet (port 1 0) ≡ true
unfolding matches same_bits
own_list_out = refl

-- an interface that isn't there filters nothing
pub no_interface : passes_at net In packet (port 0 3) ≡ true
no_interface = refl

pub no_router : passes_at net In packet (port 2 0) ≡ true
no_router = refl

-- one that is down filters like any other
abbrev shut : Network
shut = uncut (
    (codes "A", router ((codes "Vlan1", record (with_group fresh name In) { shutdown = true }) ∷ []) ((name, with_line (no_lines Standard) (standard_line 10 Deny any_address)) ∷ [])) ∷ [])

pub denied_while_down : passes_at shut In packet (port 0 0) ≡ false
unfolding matches same_bits
denied_while_down = refl
