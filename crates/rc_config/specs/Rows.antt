-- Worked cases of the definitions, each by computation.
use Rattle.std.specs.Prelude.{◌≡◌, ℕ, ◌+◌, ◌*◌, true, false, List, [], ◌∷◌, fold, map, Option, Some, None, codes, refl}
use Rattle.rc_config.specs.declared.command.Command.{Command}
use Rattle.rc_config.specs.declared.command.Command.TheVariants.{Passed, Hostname, Interface, StaticRoute, InterfaceLine}
use Rattle.rc_config.specs.declared.interface.InterfaceLine.TheVariants as interface_line
use Rattle.rc_config.specs.declared.if_type.IfType.{IfType}
use Rattle.rc_config.specs.declared.if_type.IfType.TheVariants as types
use Rattle.rc_config.specs.declared.interface.Interface.{Interface as Block}
use Rattle.rc_config.specs.declared.network.Network.{Network}
use Rattle.rc_config.specs.declared.router_text.RouterText.{RouterText}
use Rattle.rc_config.specs.declared.static_route.StaticRoute.{StaticRoute as Route}
use Rattle.rc_config.specs.declared.static_route.Target.{Target}
use Rattle.rc_config.specs.declared.static_route.Target.TheVariants as target
use Rattle.rc_base.specs.Prefix.{prefix_at}
use Rattle.rc_config.specs.Cuts.{uncut}
use Rattle.rc_config.specs.IfType.{type_of}
use Rattle.rc_config.specs.Interface.{fresh, declared_addresses}
use Rattle.rc_config.specs.MaskedAddr.{MaskedAddr}
use Rattle.rc_config.specs.Members.{router_named, interface_named as interface_id}
use Rattle.rc_config.specs.Update.{after, empty, interface_named}

-- the model of a file whose lines say these commands
abbrev file : List Command → RouterText
file commands = fold after empty commands

abbrev first : List ℕ
first = codes "Ethernet0"

abbrev second : List ℕ
second = codes "Serial1"

-- 10.0.0.n with a mask of length 24
abbrev host : ℕ → MaskedAddr
host n = record { addr = 10 * 16777216 + n; len = 24 }

abbrev the_first : List Command → Block
the_first commands = interface_named (file (Interface first 2 ∷ commands)) first

-- a later `ip address` line without `secondary` replaces the primary address
pub primary_replaced : the_first (InterfaceLine first (interface_line.Address (host 1) false) ∷ InterfaceLine first (interface_line.Address (host 2) false) ∷ []) ≡ record fresh { primary = Some (host 2) }
primary_replaced = refl

-- and leaves the secondary ones
pub secondary_left : declared_addresses (the_first (InterfaceLine first (interface_line.Address (host 1) false) ∷ InterfaceLine first (interface_line.Address (host 5) true) ∷ InterfaceLine first (interface_line.Address (host 2) false) ∷ [])) ≡ host 2 ∷ host 5 ∷ []
secondary_left = refl

-- secondary addresses stand as written, the same one twice too
pub secondary_appended : (the_first (InterfaceLine first (interface_line.Address (host 9) true) ∷ InterfaceLine first (interface_line.Address (host 3) true) ∷ InterfaceLine first (interface_line.Address (host 9) true) ∷ [])).secondary ≡ host 9 ∷ host 3 ∷ host 9 ∷ []
secondary_appended = refl

-- a secondary address makes no primary one
pub no_primary : (the_first (InterfaceLine first (interface_line.Address (host 9) true) ∷ [])).primary ≡ None
no_primary = refl

-- the last of `shutdown` and `no shutdown` counts, and so does the last bandwidth
pub up_again : the_first (InterfaceLine first (interface_line.Shutdown true) ∷ InterfaceLine first (interface_line.Bandwidth 64) ∷ InterfaceLine first (interface_line.Shutdown false) ∷ InterfaceLine first (interface_line.Bandwidth 128) ∷ []) ≡ record fresh { bandwidth = Some 128 }
up_again = refl

-- a known name opens its block again: the interface keeps its index and what its block says
pub opened_again : (file (Interface first 2 ∷ InterfaceLine first (interface_line.Shutdown true) ∷ Interface second 4 ∷ Interface first 6 ∷ InterfaceLine first (interface_line.Bandwidth 64) ∷ [])).interfaces
    ≡ (first, record fresh { shutdown = true; bandwidth = Some 64 }) ∷ (second, fresh) ∷ []
opened_again = refl

-- a host name comes with its line, and a line that says nothing here changes nothing
pub host_line : file (Passed ∷ Hostname (codes "r1") 2 ∷ Passed ∷ []) ≡ record empty { host = Some (record { name = codes "r1"; line = 2 }) }
host_line = refl

-- a static route to 10.0.0.0/8
abbrev route : Target → ℕ → Route
route to distance = record { prefix = prefix_at (10 * 16777216) 8; target = to; distance = distance }

-- static routes stand as written: a second one to a prefix, also the same one twice, is one more and replaces nothing
pub routes_as_written : (file (StaticRoute (route (target.Dev second) 250) ∷ StaticRoute (route target.Null 1) ∷ StaticRoute (route (target.Dev second) 250) ∷ [])).static_routes
    ≡ route (target.Dev second) 250 ∷ route target.Null 1 ∷ route (target.Dev second) 250 ∷ []
routes_as_written = refl

-- a static route declares no interface, and leaves those that there are
pub no_interface_declared : (file (Interface first 2 ∷ InterfaceLine first (interface_line.Shutdown true) ∷ StaticRoute (route (target.ViaDev 7 second) 1) ∷ [])).interfaces ≡ (first, record fresh { shutdown = true }) ∷ []
no_interface_declared = refl

-- and no other command takes a static route away
pub routes_left : (file (StaticRoute (route (target.Via 7) 1) ∷ Hostname (codes "r1") 2 ∷ Interface first 3 ∷ InterfaceLine first (interface_line.Address (host 1) false) ∷ InterfaceLine first (interface_line.Shutdown true) ∷ InterfaceLine first (interface_line.Bandwidth 64) ∷ Passed ∷ [])).static_routes ≡ route (target.Via 7) 1 ∷ []
routes_left = refl

-- the front of a name is its type, in just these letters, and a subinterface has its parent's
pub front_is_type : type_of (codes "GigabitEthernet0/1") ≡ Some types.GigabitEthernet
unfolding type_of
front_is_type = refl

pub type_of_parent : type_of (codes "GigabitEthernet0/1.20") ≡ Some types.GigabitEthernet
unfolding type_of
type_of_parent = refl

-- also where the parent's name has no digit, whatever stands above it
abbrev all_of : Option IfType → List (List ℕ) → Type 0
all_of type names = map type_of names ≡ map (λ _. type) names

pub no_digit_in_parent : all_of (Some types.Vlan) (codes "Vlan.5" ∷ codes "Vlan.5.6" ∷ codes "Vlan.0" ∷ [])
unfolding type_of
no_digit_in_parent = refl

pub types_of_parents : map type_of (codes "Serial.1.2" ∷ codes "Port-channel.3" ∷ codes "GigabitEthernet0/1.7" ∷ codes "Serial0/0/0:0.16.1" ∷ [])
    ≡ Some types.Serial ∷ Some types.PortChannel ∷ Some types.GigabitEthernet ∷ Some types.Serial ∷ []
unfolding type_of
types_of_parents = refl

-- but a point makes no subinterface where no number follows it, or more than a number
pub no_subinterface : all_of None (codes "Loopback.x" ∷ codes "Vlan." ∷ codes "Vlan.5x" ∷ codes "Vlan..5" ∷ codes "Vlan.5/1" ∷ codes "Vlan.5/1.7" ∷ codes ".5" ∷ codes "Tunnel.5" ∷ [])
unfolding type_of
no_subinterface = refl

pub hyphen_counts : type_of (codes "Port-channel7") ≡ Some types.PortChannel
unfolding type_of
hyphen_counts = refl

pub no_digit_needed : type_of (codes "Vlan") ≡ Some types.Vlan
unfolding type_of
no_digit_needed = refl

pub whole_front : type_of (codes "Ether0") ≡ None
unfolding type_of
whole_front = refl

pub no_more_than_front : type_of (codes "FastEthernetX0") ≡ None
unfolding type_of
no_more_than_front = refl

pub case_counts : type_of (codes "loopback0") ≡ None
unfolding type_of
case_counts = refl

pub other_type : type_of (codes "Tunnel0") ≡ None
unfolding type_of
other_type = refl

-- ids are indexes: routers in the network's order, interfaces in the order of declaration
abbrev pair : Network
pair = uncut ((codes "r1", file (Interface first 1 ∷ [])) ∷ (codes "r2", file (Interface first 1 ∷ Interface second 2 ∷ [])) ∷ [])

pub router_place : router_named pair (codes "r2") ≡ Some 1
router_place = refl

pub no_router : router_named pair (codes "r") ≡ None
no_router = refl

pub interface_place : interface_id pair 1 second ≡ Some (record { router = 1; index = 1 })
interface_place = refl

pub no_interface : interface_id pair 0 second ≡ None
no_interface = refl

pub no_such_router : interface_id pair 2 first ≡ None
no_such_router = refl
