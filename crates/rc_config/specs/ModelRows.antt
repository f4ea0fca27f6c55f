-- Worked cases of a router's model: lists, interfaces, route maps and what stands by number or under a name, each by computation.
use Rattle.std.specs.Prelude.{◌≡◌, ℕ, true, false, List, [], ◌∷◌, fold, map, replicate, Option, Some, None, option_map, codes, refl}
use Rattle.std.specs.Cmp.Lexicographic.{slice_cmp}
use Rattle.std.specs.Ordering.{nat_cmp}
use Rattle.std.specs.declared.cmp.Ordering.TheVariants.{Less, Equal, Greater}
use Rattle.rc_base.specs.Prefix.{prefix_at}
use Rattle.rc_config.specs.AccessList as access
use Rattle.rc_config.specs.AccessList.{any_address, host_address, standard_line}
use Rattle.rc_config.specs.ByNumber.{placed, with_number, without_number, has_number, last_number}
use Rattle.rc_config.specs.Cuts.{uncut}
use Rattle.rc_config.specs.IfType.{nominal_bandwidth, type_of}
use Rattle.rc_config.specs.Interface.{fresh}
use Rattle.rc_config.specs.MaskedAddr.{MaskedAddr}
use Rattle.rc_config.specs.Members.{interface_at, interface_named as interface_id, router_named}
use Rattle.rc_config.specs.Named.{index_of, named, with_value}
use Rattle.rc_config.specs.Ospf.{no_settings}
use Rattle.rc_config.specs.PortLists.{ports_of}
use Rattle.rc_config.specs.PrefixList as prefixes
use Rattle.rc_config.specs.RouteMap as maps
use Rattle.rc_config.specs.Sets.{metric_type_number, no_sets}
use Rattle.rc_config.specs.Update.{after, empty, interface_named}
use Rattle.rc_config.specs.declared.access_list.AccessList.{AccessList}
use Rattle.rc_config.specs.declared.access_list.AccessListKind.TheVariants.{Standard, Extended}
use Rattle.rc_config.specs.declared.access_list.AccessListLine.{AccessListLine}
use Rattle.rc_config.specs.declared.access_list.Action.TheVariants.{Permit, Deny}
use Rattle.rc_config.specs.declared.access_list.FurtherTest.TheVariants as further
use Rattle.rc_config.specs.declared.access_list.PortTest.TheVariants as port
use Rattle.rc_config.specs.declared.access_list.ProtocolTest.TheVariants.{Is}
use Rattle.rc_config.specs.declared.command.Command.{Command}
use Rattle.rc_config.specs.declared.command.Command.TheVariants as command
use Rattle.rc_config.specs.declared.lists.ListLine.TheVariants as list_line
use Rattle.rc_config.specs.declared.interface.InterfaceLine.TheVariants as interface_line
use Rattle.rc_config.specs.declared.interface.Direction.TheVariants.{In, Out}
use Rattle.rc_config.specs.declared.map_line.MapLine.TheVariants.{Match, Set}
use Rattle.rc_config.specs.declared.map_line.MatchKind.TheVariants.{PrefixList}
use Rattle.rc_config.specs.declared.map_line.SetLine.TheVariants.{Metric}
use Rattle.rc_config.specs.declared.network.Network.{Network}
use Rattle.rc_config.specs.declared.prefix_list.PrefixLine.{PrefixLine}
use Rattle.rc_config.specs.declared.route_map.RouteMap.{RouteMap}
use Rattle.rc_config.specs.declared.router_text.RouterText.{RouterText}
use Rattle.rc_config.specs.declared.sets.MetricType.TheVariants.{Type1, Type2}
use Rattle.rc_config.specs.declared.static_route.StaticRoute.{StaticRoute}
use Rattle.rc_config.specs.declared.static_route.Target.{Target}
use Rattle.rc_config.specs.declared.static_route.Target.TheVariants as target

-- ---- lines of access lists

-- a line `permit tcp host 10.0.0.1 any neq ..` of this number
abbrev tcp : ℕ → List ℕ → AccessListLine
tcp n ports = record {
  sequence = n;
  action = Permit;
  protocol = Is 6;
  source = host_address 0x0a000001;
  source_port = port.Any;
  destination = any_address;
  destination_port = port.NotEqual ports;
  further = further.Any;
}

-- a line `deny any` of this number
abbrev deny : ℕ → AccessListLine
deny n = standard_line n Deny any_address

abbrev of_lines : List AccessListLine → AccessList
of_lines lines = record { kind = Extended; lines = lines }

abbrev put : List AccessListLine → AccessList
put lines = fold access.with_line (access.no_lines Extended) lines

abbrev two_ports : List ℕ
two_ports = 22 ∷ 23 ∷ []

abbrev three : AccessList
three = put (tcp 30 two_ports ∷ tcp 10 two_ports ∷ deny 20 ∷ [])

-- lines that were put in as 30, 10 and 20 stand as 10, 20 and 30, each with its ports
pub lines_by_number : three ≡ of_lines (tcp 10 two_ports ∷ deny 20 ∷ tcp 30 two_ports ∷ [])
lines_by_number = refl

pub numbers_there : map (access.has_sequence three.lines) (10 ∷ 15 ∷ 20 ∷ 30 ∷ 31 ∷ []) ≡ true ∷ false ∷ true ∷ true ∷ false ∷ []
numbers_there = refl

pub line_of_a_number : (with_number access.sequence_of 20 three.lines ≡ Some (deny 20)) × (with_number access.sequence_of 15 three.lines ≡ None) × (access.last_sequence three.lines ≡ Some 30)
line_of_a_number = (refl, refl, refl)

-- a line takes the place of the one of its number
pub in_place_of_another : put (tcp 30 two_ports ∷ tcp 10 two_ports ∷ deny 20 ∷ deny 10 ∷ []) ≡ of_lines (deny 10 ∷ deny 20 ∷ tcp 30 two_ports ∷ [])
in_place_of_another = refl

-- ---- one to ten ports, in order of their numbers, then by how many they are
abbrev ten : List ℕ
ten = replicate 10 80

pub ports : (ports_of [] ≡ None) × (ports_of (replicate 11 80) ≡ None) × (ports_of ten ≡ Some ten) × (ports_of two_ports ≡ Some two_ports)
ports = (refl, refl, refl, refl)

pub ports_in_order : (slice_cmp nat_cmp two_ports ten ≡ Less) × (slice_cmp nat_cmp (22 ∷ []) two_ports ≡ Less)
ports_in_order = (refl, refl)

-- ---- lists under names
abbrev named_101 : List ℕ
named_101 = codes "101"

abbrev web : List ℕ
web = codes "WEB"

abbrev with_full : List (List ℕ × AccessList)
with_full = with_value [] named_101 three

abbrev with_empty : List (List ℕ × AccessList)
with_empty = with_value with_full named_101 (access.no_lines Standard)

-- a list that is put under a name takes the place of the one that stood there
pub under_names :
    (named {V = AccessList} [] named_101 ≡ None)
    × (named with_full named_101 ≡ Some three)
    × (named with_empty named_101 ≡ Some (access.no_lines Standard))
    × (with_empty ≡ (named_101, access.no_lines Standard) ∷ [])
under_names = (refl, refl, refl, refl)

-- the model of a file whose lines say these commands
abbrev file : List Command → RouterText
file commands = fold after empty commands

abbrev serial : List ℕ
serial = codes "Serial1"

abbrev line_101 : ℕ → Command
line_101 n = command.ListLine named_101 (list_line.AccessListLine Extended (tcp n (22 ∷ [])))

-- a list of two lines and one without, and three groups, the last in place of the first
abbrev filters : RouterText
filters = file (line_101 20 ∷ line_101 10 ∷ command.ListLine web (list_line.AccessListOpened Extended) ∷ command.ListLine named_101 (list_line.AccessListOpened Extended)
    ∷ command.InterfaceLine serial (interface_line.AccessGroup named_101 In) ∷ command.InterfaceLine serial (interface_line.AccessGroup named_101 Out) ∷ command.InterfaceLine serial (interface_line.AccessGroup web In) ∷ [])

pub lists_of_a_router : filters.lists.access_lists ≡ (named_101, of_lines (tcp 10 (22 ∷ []) ∷ tcp 20 (22 ∷ []) ∷ [])) ∷ (web, access.no_lines Extended) ∷ []
lists_of_a_router = refl

pub second_list : index_of filters.lists.access_lists web ≡ Some 1
second_list = refl

pub groups_of_a_router : interface_named filters serial ≡ record fresh { access_group_in = Some web; access_group_out = Some named_101 }
groups_of_a_router = refl

-- ---- interfaces
abbrev ethernet : List ℕ
ethernet = codes "Ethernet0"

-- 10.0.0.1/24 and 10.0.1.1/32
abbrev primary : MaskedAddr
primary = record { addr = 167772161; len = 24 }

abbrev other : MaskedAddr
other = record { addr = 167772417; len = 32 }

-- a file with two interfaces, the first of them opened twice
abbrev two_interfaces : RouterText
two_interfaces = file (command.Hostname (codes "r1") 1
    ∷ command.Interface ethernet 2 ∷ command.InterfaceLine ethernet (interface_line.Address other false) ∷ command.InterfaceLine ethernet (interface_line.Address other true) ∷ command.InterfaceLine ethernet (interface_line.Shutdown true)
    ∷ command.Interface serial 6 ∷ command.InterfaceLine serial (interface_line.Bandwidth 64)
    ∷ command.Interface ethernet 8 ∷ command.InterfaceLine ethernet (interface_line.Address primary false) ∷ command.Passed ∷ [])

pub commands_change_a_model : two_interfaces ≡ record empty {
  host = Some (record { name = codes "r1"; line = 1 });
  interfaces = (ethernet, record fresh { primary = Some primary; secondary = other ∷ []; shutdown = true }) ∷ (serial, record fresh { bandwidth = Some 64 }) ∷ [];
}
commands_change_a_model = refl

abbrev net : Network
net = uncut ((codes "r1", two_interfaces) ∷ [])

-- a router is found by its host name, and an interface by its router and its own name
pub names_are_looked_up :
    (router_named net (codes "r1") ≡ Some 0)
    × (router_named net serial ≡ None)
    × (interface_id net 0 serial ≡ Some (record { router = 0; index = 1 }))
    × (interface_id net 0 (codes "r1") ≡ None)
    × (interface_id net 1 serial ≡ None)
    × (interface_at net (record { router = 0; index = 1 }) ≡ Some (serial, record fresh { bandwidth = Some 64 }))
    × (interface_at net (record { router = 0; index = 2 }) ≡ None)
names_are_looked_up = (refl, refl, refl, refl, refl, refl, refl)

-- the bandwidth in kbit/s by the type of an interface's name
abbrev bandwidth_of : List ℕ → Option ℕ
bandwidth_of name = option_map nominal_bandwidth (type_of name)

pub bandwidths :
    (bandwidth_of (codes "TenGigabitEthernet1/1") ≡ Some 10000000)
    × (bandwidth_of (codes "GigabitEthernet0/0.5") ≡ Some 1000000)
    × (bandwidth_of (codes "Ethernet0") ≡ Some 10000)
    × (bandwidth_of (codes "Serial0/0/0:0") ≡ Some 1544)
    × (bandwidth_of (codes "Loopback0") ≡ Some 8000000)
    × (bandwidth_of (codes "Port-channel1") ≡ Some 1000000)
    × (bandwidth_of (codes "Tunnel0") ≡ None)
    × (bandwidth_of (codes "0") ≡ None)
unfolding type_of
bandwidths = (refl, refl, refl, refl, refl, refl, refl, refl)

-- the prefix that 10.0.0.1 under a mask of 8 bits makes connected
pub connected_prefix : prefix_at 167772161 8 ≡ record { network = 167772160; len = 8 }
connected_prefix = refl

-- nothing is set at an interface without `ip ospf` lines
pub nothing_set : no_settings ≡ record { cost = None; hello = None; dead = None; network = None; areas = [] }
nothing_set = refl

-- ---- static routes stand as written, and declare no interface
abbrev route : Target → ℕ → StaticRoute
route to distance = record { prefix = prefix_at 167837696 16; target = to; distance = distance }

abbrev routed : RouterText
routed = file (command.StaticRoute (route (target.Dev serial) 250) ∷ command.StaticRoute (route target.Null 1) ∷ command.StaticRoute (route (target.Dev serial) 250) ∷ [])

pub routes_in_order : routed ≡ record empty { static_routes = route (target.Dev serial) 250 ∷ route target.Null 1 ∷ route (target.Dev serial) 250 ∷ [] }
routes_in_order = refl

-- ---- prefix lists
abbrev prefix_line : ℕ → PrefixLine
prefix_line n = record { sequence = n; action = Permit; prefix = prefix_at 0x0a000000 8; ge = None; le = Some 24 }

abbrev two_prefixes : List PrefixLine
two_prefixes = (fold prefixes.with_line prefixes.no_lines (prefix_line 20 ∷ prefix_line 5 ∷ [])).lines

pub prefix_lines_by_number :
    (two_prefixes ≡ prefix_line 5 ∷ prefix_line 20 ∷ [])
    × (prefixes.greatest_sequence two_prefixes ≡ Some 20)
    × (map (prefixes.has_sequence two_prefixes) (5 ∷ 10 ∷ []) ≡ true ∷ false ∷ [])
    × (with_number (λ (l : PrefixLine). l.sequence) 5 two_prefixes ≡ Some (prefix_line 5))
prefix_lines_by_number = (refl, refl, refl, refl)

-- ---- an entry of a route map that is opened again goes on, with the later action and both conditions
abbrev with_two : RouteMap → ℕ → ℕ → RouteMap
with_two m line metric = maps.with_line (maps.with_line m 20 (Match PrefixList (codes "P" ∷ []) line)) 20 (Set (Metric metric))

pub entries_opened_again : with_two (maps.opened (with_two (maps.opened (maps.opened maps.no_entries 20 Permit) 10 Permit) 3 5) 20 Deny) 7 6
    ≡ record {
      entries = maps.fresh_entry 10 Permit
          ∷ record (maps.fresh_entry 20 Deny) { prefix_lists = record { name = codes "P"; line = 3 } ∷ record { name = codes "P"; line = 7 } ∷ []; sets = record no_sets { metric = Some 6 } } ∷ [];
    }
entries_opened_again = refl

-- any external metric of type 1 comes before one of type 2
pub metric_types_in_order : map (λ a. map (λ b. nat_cmp (metric_type_number a) (metric_type_number b)) (Type1 ∷ Type2 ∷ [])) (Type1 ∷ Type2 ∷ []) ≡ (Equal ∷ Less ∷ []) ∷ (Greater ∷ Equal ∷ []) ∷ []
metric_types_in_order = refl

-- ---- things by number, each with a word
abbrev number : ℕ × ℕ → ℕ
number x = x.0

abbrev four : List (ℕ × ℕ)
four = fold (λ xs x. placed number x xs) [] ((30, 3) ∷ (10, 1) ∷ (20, 2) ∷ (4294967295, 4) ∷ [])

pub things_by_number : four ≡ (10, 1) ∷ (20, 2) ∷ (30, 3) ∷ (4294967295, 4) ∷ []
things_by_number = refl

pub numbers_of_things : (last_number number four ≡ Some 4294967295) × (map (λ n. has_number number n four) (10 ∷ 11 ∷ []) ≡ true ∷ false ∷ []) × (last_number number [] ≡ None)
numbers_of_things = (refl, refl, refl)

-- what stood at a number before
pub things_before : (with_number number 30 [] ≡ None) × (with_number number 20 ((10, 1) ∷ (30, 3) ∷ []) ≡ None) × (with_number number 10 ((10, 1) ∷ []) ≡ Some (10, 1))
things_before = (refl, refl, refl)

-- the thing of a number is replaced, found and taken out, and no other
pub things_in_place_of_others :
    (placed number (10, 2) (placed number (10, 1) []) ≡ (10, 2) ∷ [])
    × (with_number number 10 ((10, 2) ∷ []) ≡ Some (10, 2))
    × (with_number number 11 ((10, 2) ∷ []) ≡ None)
    × (without_number number 11 ((10, 2) ∷ []) ≡ (10, 2) ∷ [])
    × (without_number number 10 ((10, 2) ∷ []) ≡ [])
    × (with_number number 10 [] ≡ None)
things_in_place_of_others = (refl, refl, refl, refl, refl, refl)
