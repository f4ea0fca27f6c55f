-- Worked cases of routes between areas, each by computation.
use Rattle.std.specs.Prelude.{◌≡◌, true, false, ℕ, ◌+◌, List, [], ◌∷◌, ◌++◌, refl}
use Rattle.std.specs.Option.{option_map}
use Rattle.rc_base.specs.Prefix.{Cidr}
use Rattle.rc_config.specs.Cuts.{uncut}
use Rattle.rc_config.specs.IfType.{type_of}
use Rattle.rc_config.specs.declared.command.Command.{Command}
use Rattle.rc_config.specs.declared.network.Network.{Network}
use Rattle.rc_config.specs.declared.ospf.OspfProcess.{OspfProcess}
use Rattle.rc_config.specs.declared.ospf.StubArea.{StubArea}
use Rattle.rc_config.specs.declared.router_text.RouterText.{RouterText}
use Rattle.rc_route.specs.declared.route.Hop.{Hop}
use Rattle.rc_route.specs.declared.route.Route.{Route}
use Rattle.rc_route.specs.declared.route.Source.TheVariants.{OspfIa}
use Rattle.rc_topology.specs.Ports.{links_of}
use Rattle.rc_link_state.specs.Adjacency.{adjacencies}
use Rattle.rc_ospf_interfaces.specs.Interfaces.{ospf_interfaces}
use Rattle.rc_ospf.specs.InterfaceRows.{primary, everywhere, file}
use Rattle.rc_ospf.specs.Plain.{routes_within}
use Rattle.rc_ospf.specs.RouteRows.{first, second, loopback, cost, area, prefix, route, via}
use Rattle.rc_ospf.specs.Routes.{offered_rows, internal_routes}

-- files under the host names a, b, c and so on
abbrev pub from_letter : ℕ → List RouterText → List (List ℕ × RouterText)
from_letter letter [] = []
from_letter letter (f ∷ fs) = (letter ∷ [], f) ∷ from_letter (letter + 1) fs

abbrev pub network_of : List RouterText → Network
network_of files = uncut (from_letter 97 files)

-- a file with a process that has these stub areas
abbrev pub with_stubs : List StubArea → RouterText → RouterText
with_stubs stubs f = record f { ospf = option_map (λ (p : OspfProcess). record p { stub_areas = stubs }) f.ospf }

-- `area N stub`, and with `no-summary`
abbrev pub stub : ℕ → StubArea
stub n = record { area = n; no_summary = false }

abbrev pub no_summary : ℕ → StubArea
no_summary n = record { area = n; no_summary = true }

abbrev pub between : Cidr → ℕ → List Hop → Route
between p metric hops = record { prefix = p; source = OspfIa; distance = 110; metric = metric; hops = hops }

-- 10.0.9.n on a loopback
abbrev pub on_loopback : ℕ → Command
on_loopback n = primary loopback (2304 + n) 32

abbrev pub host : ℕ → Cidr
host n = prefix (2304 + n) 32

abbrev pub default : Cidr
default = record { network = 0; len = 0 }

-- ---- a, b, c and d in a row: area 1 up to b, area 0 from there to c, and area 2 behind

abbrev pub a : RouterText
a = file (primary first 1 24 ∷ on_loopback 1 ∷ everywhere 1)

abbrev pub b : RouterText
b = file (primary first 2 24 ∷ area first 1 ∷ primary second 257 24 ∷ everywhere 0)

abbrev pub c : RouterText
c = file (primary second 258 24 ∷ primary first 513 24 ∷ area first 2 ∷ everywhere 0)

abbrev pub d : RouterText
d = file (primary first 514 24 ∷ on_loopback 4 ∷ everywhere 2)

abbrev pub chain : Network
chain = network_of (a ∷ b ∷ c ∷ d ∷ [])

-- each summary costs what its sender's way costs, and the hops are those towards the border router
pub three_areas : routes_within 2 chain 3 ≡ between (prefix 0 24) 192 (via 3 513 0 ∷ []) ∷ between (prefix 256 24) 128 (via 3 513 0 ∷ []) ∷ between (host 1) 193 (via 3 513 0 ∷ []) ∷ []
unfolding ospf_interfaces adjacencies links_of type_of offered_rows internal_routes
three_areas = refl

-- a border router has the one kind and the other
pub at_a_border : routes_within 2 chain 1 ≡ between (prefix 512 24) 128 (via 1 258 1 ∷ []) ∷ route (host 1) 65 (via 1 1 0 ∷ []) ∷ between (host 4) 129 (via 1 258 1 ∷ []) ∷ []
unfolding ospf_interfaces adjacencies links_of type_of offered_rows internal_routes
at_a_border = refl

-- without the interface in area 0 the middle is no border router, and nothing comes through it
pub no_border : routes_within 2 (network_of (a ∷ file (primary first 2 24 ∷ area first 1 ∷ primary second 257 24 ∷ everywhere 3) ∷ c ∷ d ∷ [])) 3 ≡ between (prefix 256 24) 128 (via 3 513 0 ∷ []) ∷ []
unfolding ospf_interfaces adjacencies links_of type_of offered_rows internal_routes
no_border = refl

-- ---- a in area 1 with two border routers b and c, and d behind both in area 0

abbrev fork : RouterText
fork = file (primary first 1 24 ∷ primary second 257 24 ∷ on_loopback 1 ∷ everywhere 1)

abbrev left : List Command → RouterText
left more = file (primary first 2 24 ∷ area first 1 ∷ primary second 513 24 ∷ everywhere 0 ++ more)

abbrev right : List Command → RouterText
right more = file (primary second 258 24 ∷ area second 1 ∷ primary first 769 24 ∷ everywhere 0 ++ more)

abbrev joint : RouterText
joint = file (primary first 514 24 ∷ primary second 770 24 ∷ on_loopback 4 ∷ everywhere 0)

abbrev diamond : List Command → Network
diamond more = network_of (fork ∷ left [] ∷ right more ∷ joint ∷ [])

-- at equal cost both border routers are used
pub two_borders : routes_within 2 (diamond []) 3 ≡ between (prefix 0 24) 128 (via 3 513 0 ∷ []) ∷ between (prefix 256 24) 128 (via 3 769 1 ∷ []) ∷ between (host 1) 129 (via 3 513 0 ∷ via 3 769 1 ∷ []) ∷ []
unfolding ospf_interfaces adjacencies links_of type_of offered_rows internal_routes
two_borders = refl

-- what the dearer one sends is not
pub one_border : routes_within 2 (diamond (cost second 65 ∷ [])) 3 ≡ between (prefix 0 24) 128 (via 3 513 0 ∷ []) ∷ between (prefix 256 24) 129 (via 3 769 1 ∷ []) ∷ between (host 1) 129 (via 3 513 0 ∷ []) ∷ []
unfolding ospf_interfaces adjacencies links_of type_of offered_rows internal_routes
one_border = refl

-- the kind wins over the cost: over c, whose summary costs 2, b would come to a for 66
pub inside_wins : routes_within 2 (network_of (fork ∷ left (cost first 1000 ∷ []) ∷ right (cost second 1 ∷ cost first 1 ∷ []) ∷ file (primary first 514 24 ∷ primary second 770 24 ∷ cost second 1 ∷ everywhere 0) ∷ [])) 1 ≡
    route (prefix 256 24) 1064 (via 1 1 0 ∷ []) ∷ route (prefix 768 24) 65 (via 1 514 1 ∷ []) ∷ route (host 1) 1001 (via 1 1 0 ∷ []) ∷ []
unfolding ospf_interfaces adjacencies links_of type_of offered_rows internal_routes
inside_wins = refl

-- ---- a backbone in two parts: b and c are border routers between area 1 and a loopback each in area 0

abbrev lone : ℕ → Command → RouterText
lone n address = file (address ∷ area first 1 ∷ on_loopback n ∷ everywhere 0)

abbrev parts : Network
parts = network_of (file (primary first 1 24 ∷ primary second 257 24 ∷ everywhere 1) ∷ lone 2 (primary first 2 24) ∷ lone 3 (primary first 258 24) ∷ [])

pub seen_from_between : routes_within 2 parts 0 ≡ between (host 2) 65 (via 0 2 0 ∷ []) ∷ between (host 3) 65 (via 0 258 1 ∷ []) ∷ []
unfolding ospf_interfaces adjacencies links_of type_of offered_rows internal_routes
seen_from_between = refl

-- a border router uses summaries of the backbone only, so b has none of what c sends into area 1
pub seen_from_a_border : routes_within 2 parts 1 ≡ route (prefix 256 24) 128 (via 1 1 0 ∷ []) ∷ []
unfolding ospf_interfaces adjacencies links_of type_of offered_rows internal_routes
seen_from_a_border = refl

-- ---- a in areas 1 and 2, with a border router of each: it uses the summaries of both, and passes none on

abbrev both : Network
both = network_of
    (file (primary first 1 24 ∷ primary second 257 24 ∷ area second 2 ∷ everywhere 1) ∷ lone 2 (primary first 2 24)
    ∷ file (primary first 258 24 ∷ area first 2 ∷ on_loopback 3 ∷ everywhere 0) ∷ [])

pub summaries_of_both : routes_within 2 both 0 ≡ between (host 2) 65 (via 0 2 0 ∷ []) ∷ between (host 3) 65 (via 0 258 1 ∷ []) ∷ []
unfolding ospf_interfaces adjacencies links_of type_of offered_rows internal_routes
summaries_of_both = refl

pub passes_none_on : routes_within 2 both 1 ≡ []
unfolding ospf_interfaces adjacencies links_of type_of offered_rows internal_routes
passes_none_on = refl

-- ---- stub areas: b is a border router of the stub areas 1 and 2, in which are a and c

abbrev stubs : List StubArea → Network
stubs flags = network_of
    (with_stubs (stub 1 ∷ []) (file (primary first 1 24 ∷ everywhere 1))
    ∷ with_stubs flags (file (primary first 2 24 ∷ area first 1 ∷ primary second 257 24 ∷ area second 2 ∷ on_loopback 2 ∷ everywhere 0))
    ∷ with_stubs (stub 2 ∷ []) (file (primary second 258 24 ∷ on_loopback 3 ∷ everywhere 2)) ∷ [])

-- the default route costs 1 besides the walk, and comes beside the summaries
pub stub_and_summaries : routes_within 2 (stubs (stub 1 ∷ stub 2 ∷ [])) 0 ≡
    between default 65 (via 0 2 0 ∷ []) ∷ between (prefix 256 24) 128 (via 0 2 0 ∷ []) ∷ between (host 2) 65 (via 0 2 0 ∷ []) ∷ between (host 3) 129 (via 0 2 0 ∷ []) ∷ []
unfolding ospf_interfaces adjacencies links_of type_of offered_rows internal_routes
stub_and_summaries = refl

-- with `no-summary` it comes alone
pub stub_alone : routes_within 2 (stubs (no_summary 1 ∷ stub 2 ∷ [])) 0 ≡ between default 65 (via 0 2 0 ∷ []) ∷ []
unfolding ospf_interfaces adjacencies links_of type_of offered_rows internal_routes
stub_alone = refl

-- the border router takes no default route, and what is said of one area doesn't count in the other
pub stub_border : routes_within 2 (stubs (no_summary 1 ∷ stub 2 ∷ [])) 1 ≡ route (host 3) 65 (via 1 258 1 ∷ []) ∷ []
unfolding ospf_interfaces adjacencies links_of type_of offered_rows internal_routes
stub_border = refl

pub other_stub : routes_within 2 (stubs (no_summary 1 ∷ stub 2 ∷ [])) 2 ≡ between default 65 (via 2 257 0 ∷ []) ∷ between (prefix 0 24) 128 (via 2 257 0 ∷ []) ∷ between (host 2) 65 (via 2 257 0 ∷ []) ∷ []
unfolding ospf_interfaces adjacencies links_of type_of offered_rows internal_routes
other_stub = refl

-- who doesn't have the area as a stub area isn't adjacent
pub flags_differ : routes_within 2 (stubs (stub 2 ∷ [])) 0 ≡ []
unfolding ospf_interfaces adjacencies links_of type_of offered_rows internal_routes
flags_differ = refl

-- a router inside a stub area sends no default route, also with `no-summary`
pub inside_a_stub : routes_within 2 (network_of
    (with_stubs (stub 1 ∷ []) (file (primary first 1 24 ∷ everywhere 1)) ∷ with_stubs (no_summary 1 ∷ []) (file (primary first 2 24 ∷ on_loopback 2 ∷ everywhere 1)) ∷ [])) 0 ≡ route (host 2) 65 (via 0 2 0 ∷ []) ∷ []
unfolding ospf_interfaces adjacencies links_of type_of offered_rows internal_routes
inside_a_stub = refl

-- `no-summary` at one of two border routers: the other one sends its summaries, and both the default route
abbrev one_silent : Network
one_silent = network_of
    (with_stubs (stub 1 ∷ []) (file (primary first 1 24 ∷ primary second 257 24 ∷ everywhere 1))
    ∷ with_stubs (no_summary 1 ∷ []) (lone 2 (primary first 2 24)) ∷ with_stubs (stub 1 ∷ []) (lone 3 (primary first 258 24)) ∷ [])

pub one_with_no_summary : routes_within 2 one_silent 0 ≡ between default 65 (via 0 2 0 ∷ via 0 258 1 ∷ []) ∷ between (host 3) 65 (via 0 258 1 ∷ []) ∷ []
unfolding ospf_interfaces adjacencies links_of type_of offered_rows internal_routes
one_with_no_summary = refl

-- the default route of the nearer border router alone
pub nearer_default : routes_within 2 (network_of
    (with_stubs (stub 1 ∷ []) (file (primary first 1 24 ∷ primary second 257 24 ∷ cost second 65 ∷ everywhere 1))
    ∷ with_stubs (no_summary 1 ∷ []) (lone 2 (primary first 2 24)) ∷ with_stubs (no_summary 1 ∷ []) (lone 3 (primary first 258 24)) ∷ [])) 0 ≡ between default 65 (via 0 2 0 ∷ []) ∷ []
unfolding ospf_interfaces adjacencies links_of type_of offered_rows internal_routes
nearer_default = refl
