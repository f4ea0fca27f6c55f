-- Worked cases of routes inside areas, each by computation.
use Rattle.std.specs.Prelude.{◌≡◌, true, ℕ, List, [], ◌∷◌, ◌++◌, Some, codes, refl}
use Rattle.rc_base.specs.Prefix.{Cidr}
use Rattle.rc_config.specs.Cuts.{uncut}
use Rattle.rc_config.specs.IfType.{type_of}
use Rattle.rc_config.specs.declared.command.Command.{Command}
use Rattle.rc_config.specs.declared.command.Command.TheVariants.{InterfaceLine}
use Rattle.rc_config.specs.declared.interface.InterfaceLine.TheVariants as interface_line
use Rattle.rc_config.specs.declared.network.Network.{Network}
use Rattle.rc_config.specs.declared.ospf.OspfSetting.TheVariants as setting
use Rattle.rc_route.specs.declared.route.Hop.{Hop}
use Rattle.rc_route.specs.declared.route.Hop.TheVariants.{Via}
use Rattle.rc_route.specs.declared.route.Route.{Route}
use Rattle.rc_route.specs.declared.route.Source.TheVariants.{Ospf}
use Rattle.rc_topology.specs.Ports.{links_of}
use Rattle.rc_link_state.specs.Adjacency.{adjacencies}
use Rattle.rc_ospf_interfaces.specs.Interfaces.{ospf_interfaces}
use Rattle.rc_ospf.specs.InterfaceRows.{ten, primary, everywhere, file, two}
use Rattle.rc_ospf.specs.Plain.{routes_within}
use Rattle.rc_ospf.specs.Routes.{offered_rows, internal_routes}

abbrev pub first : List ℕ
first = codes "Serial0"

abbrev pub second : List ℕ
second = codes "Serial1"

abbrev pub loopback : List ℕ
loopback = codes "Loopback0"

abbrev pub cost : List ℕ → ℕ → Command
cost name n = InterfaceLine name (interface_line.Ospf (setting.Cost n))

abbrev pub area : List ℕ → ℕ → Command
area name n = InterfaceLine name (interface_line.Ospf (setting.Area (record { process = 1; area = n })))

abbrev pub prefix : ℕ → ℕ → Cidr
prefix n len = record { network = ten n; len = len }

abbrev pub route : Cidr → ℕ → List Hop → Route
route p metric hops = record { prefix = p; source = Ospf; distance = 110; metric = metric; hops = hops }

-- 10.0.0.0+n over an interface of router r
abbrev pub via : ℕ → ℕ → ℕ → Hop
via r n index = Via (ten n) (Some (record { router = r; index = index }))

abbrev three : List Command → List Command → List Command → Network
three a b c = uncut ((codes "a", file a) ∷ (codes "b", file b) ∷ (codes "c", file c) ∷ [])

abbrev four : List Command → List Command → List Command → List Command → Network
four a b c d = uncut ((codes "a", file a) ∷ (codes "b", file b) ∷ (codes "c", file c) ∷ (codes "d", file d) ∷ [])

-- ---- two serial lines from a to b, whose loopback is 10.0.9.9

abbrev left : List Command
left = primary first 1 24 ∷ primary second 257 24 ∷ everywhere 0

abbrev right : List Command → List Command
right more = primary first 2 24 ∷ primary second 258 24 ∷ primary loopback 2313 32 ∷ more ++ everywhere 0

-- both lines are first hops; a's own prefixes have no route
pub two_lines : routes_within 2 (two left (right [])) 0 ≡ route (prefix 2313 32) 65 (via 0 2 0 ∷ via 0 258 1 ∷ []) ∷ []
unfolding ospf_interfaces adjacencies links_of type_of offered_rows internal_routes
two_lines = refl

-- the cost is that of the interface by which a leaves, so b's settings don't count
pub cost_of_leaving : routes_within 2 (two (left ++ cost first 10 ∷ []) (right (cost first 90 ∷ cost second 1 ∷ []))) 0 ≡ route (prefix 2313 32) 11 (via 0 2 0 ∷ []) ∷ []
unfolding ospf_interfaces adjacencies links_of type_of offered_rows internal_routes
cost_of_leaving = refl

-- a line without adjacency carries nothing
pub one_line_left : routes_within 2 (two left (right (InterfaceLine first (interface_line.Ospf (setting.HelloInterval 5)) ∷ []))) 0 ≡ route (prefix 2313 32) 65 (via 0 258 1 ∷ []) ∷ []
unfolding ospf_interfaces adjacencies links_of type_of offered_rows internal_routes
one_line_left = refl

pub one_line_shut : routes_within 2 (two left (right (InterfaceLine second (interface_line.Shutdown true) ∷ []))) 0 ≡ route (prefix 2313 32) 65 (via 0 2 0 ∷ []) ∷ []
unfolding ospf_interfaces adjacencies links_of type_of offered_rows internal_routes
one_line_shut = refl

-- who isn't reached has no route, at whatever cost it offers
pub not_reached : routes_within 2 (two left (right (InterfaceLine first (interface_line.Shutdown true) ∷ InterfaceLine second (interface_line.Shutdown true) ∷ []))) 0 ≡ []
unfolding ospf_interfaces adjacencies links_of type_of offered_rows internal_routes
not_reached = refl

-- ---- a, b and c in a row, and a second line from b to c: two least walks, and one first hop

abbrev a : List Command
a = primary first 1 24 ∷ everywhere 0

abbrev b : List Command
b = primary first 2 24 ∷ primary second 257 24 ∷ primary (codes "Serial2") 513 24 ∷ everywhere 0

abbrev c : List Command
c = primary second 258 24 ∷ primary (codes "Serial2") 514 24 ∷ primary loopback 2313 32 ∷ everywhere 0

pub one_first_hop : routes_within 3 (three a b c) 0 ≡ route (prefix 256 24) 128 (via 0 2 0 ∷ []) ∷ route (prefix 512 24) 128 (via 0 2 0 ∷ []) ∷ route (prefix 2313 32) 129 (via 0 2 0 ∷ []) ∷ []
unfolding ospf_interfaces adjacencies links_of type_of offered_rows internal_routes
one_first_hop = refl

-- ---- from a over b or c to d: equal walks over two routers

abbrev over_both : ℕ → Network
over_both n = four
    (primary first 1 24 ∷ primary second 257 24 ∷ everywhere 0)
    (primary first 2 24 ∷ primary second 513 24 ∷ everywhere 0)
    (primary first 258 24 ∷ cost second n ∷ primary second 769 24 ∷ everywhere 0)
    (primary first 514 24 ∷ primary second 770 24 ∷ primary loopback 2313 32 ∷ everywhere 0)

pub over_two_routers : routes_within 4 (over_both 64) 0 ≡
    route (prefix 512 24) 128 (via 0 2 0 ∷ []) ∷ route (prefix 768 24) 128 (via 0 258 1 ∷ []) ∷ route (prefix 2313 32) 129 (via 0 2 0 ∷ via 0 258 1 ∷ []) ∷ []
unfolding ospf_interfaces adjacencies links_of type_of offered_rows internal_routes
over_two_routers = refl

-- the dearer way is none
pub over_one_router : routes_within 4 (over_both 65) 0 ≡
    route (prefix 512 24) 128 (via 0 2 0 ∷ []) ∷ route (prefix 768 24) 129 (via 0 258 1 ∷ []) ∷ route (prefix 2313 32) 129 (via 0 2 0 ∷ []) ∷ []
unfolding ospf_interfaces adjacencies links_of type_of offered_rows internal_routes
over_one_router = refl

-- ---- two areas

-- no walk leads from one area into another
pub areas_apart : routes_within 3 (three (primary first 1 24 ∷ everywhere 1) (primary first 2 24 ∷ area second 2 ∷ primary second 257 24 ∷ everywhere 1) (primary second 258 24 ∷ primary loopback 2313 32 ∷ everywhere 2)) 0 ≡ []
unfolding ospf_interfaces adjacencies links_of type_of offered_rows internal_routes
areas_apart = refl

-- b and c offer one prefix, b in area 1 and c in area 2: a has the least way of both, and both where they cost the same
abbrev one_prefix : ℕ → Network
one_prefix n = three
    (primary first 1 24 ∷ area second 2 ∷ cost second n ∷ primary second 257 24 ∷ everywhere 1)
    (primary first 2 24 ∷ primary loopback 2313 32 ∷ everywhere 1)
    (primary second 258 24 ∷ primary loopback 2313 32 ∷ everywhere 2)

pub both_areas : routes_within 3 (one_prefix 64) 0 ≡ route (prefix 2313 32) 65 (via 0 2 0 ∷ via 0 258 1 ∷ []) ∷ []
unfolding ospf_interfaces adjacencies links_of type_of offered_rows internal_routes
both_areas = refl

pub least_area : routes_within 3 (one_prefix 63) 0 ≡ route (prefix 2313 32) 64 (via 0 258 1 ∷ []) ∷ []
unfolding ospf_interfaces adjacencies links_of type_of offered_rows internal_routes
least_area = refl

-- ---- a router that offers a prefix itself takes no route to it, though another one is nearer by metric

pub own_prefix : routes_within 2 (two (left ++ primary loopback 2313 32 ∷ cost loopback 9000 ∷ []) (right [])) 0 ≡ []
unfolding ospf_interfaces adjacencies links_of type_of offered_rows internal_routes
own_prefix = refl
