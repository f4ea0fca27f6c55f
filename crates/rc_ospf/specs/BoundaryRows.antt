-- Worked cases of paths to AS boundary routers, each by computation.
use Rattle.std.specs.Prelude.{◌≡◌, true, false, ℕ, List, [], ◌∷◌, Some, None, refl}
use Rattle.std.specs.Option.{option_map}
use Rattle.rc_config.specs.IfType.{type_of}
use Rattle.rc_config.specs.declared.network.Network.{Network}
use Rattle.rc_config.specs.declared.ospf.OspfProcess.{OspfProcess}
use Rattle.rc_config.specs.declared.ospf.RedistributedSource.TheVariants.{Static}
use Rattle.rc_config.specs.declared.router_text.RouterText.{RouterText}
use Rattle.rc_route.specs.declared.route.Hop.{Hop}
use Rattle.rc_topology.specs.Ports.{links_of}
use Rattle.rc_link_state.specs.Adjacency.{adjacencies}
use Rattle.rc_ospf.specs.AreaRows.{network_of, with_stubs, stub, a, b, c, d}
use Rattle.rc_ospf.specs.Boundaries.{boundary_routers}
use Rattle.rc_ospf.specs.BoundaryPaths.{BoundaryPath}
use Rattle.rc_ospf_interfaces.specs.Interfaces.{ospf_interfaces}
use Rattle.rc_ospf.specs.InterfaceRows.{primary, everywhere, file}
use Rattle.rc_ospf.specs.Plain.{paths_within}
use Rattle.rc_ospf.specs.RouteRows.{first, second, cost, area, via}

-- a file whose process has `redistribute static`, or `default-information originate`
abbrev pub redistributes : RouterText → RouterText
redistributes f = record f { ospf = option_map (λ (p : OspfProcess). record p { redistributions = record { source = Static; metric = None; metric_type = None; subnets = true; route_map = None } ∷ [] }) f.ospf }

abbrev pub originates : RouterText → RouterText
originates f = record f { ospf = option_map (λ (p : OspfProcess). record p { default_information = Some (record { always = false; metric = None; metric_type = None }) }) f.ospf }

abbrev pub path : ℕ → ℕ → List Hop → BoundaryPath
path s n hops = record { router = s; cost = n; hops = hops }

-- ---- which routers are AS boundary routers

pub both_lines : boundary_routers (network_of (redistributes a ∷ b ∷ originates c ∷ d ∷ [])) ≡ 0 ∷ 2 ∷ []
both_lines = refl

pub none_is : boundary_routers (network_of (a ∷ b ∷ [])) ≡ []
none_is = refl

-- ---- a, b, c and d in a row, in areas 1, 0 and 2: the walk alone costs, and the router itself is left out

pub over_areas : paths_within 2 (network_of (redistributes a ∷ b ∷ originates c ∷ d ∷ [])) 3 ≡ path 0 192 (via 3 513 0 ∷ []) ∷ path 2 64 (via 3 513 0 ∷ []) ∷ []
unfolding ospf_interfaces adjacencies links_of type_of
over_areas = refl

pub from_a_border : paths_within 2 (network_of (redistributes a ∷ b ∷ originates c ∷ d ∷ [])) 1 ≡ path 0 64 (via 1 1 0 ∷ []) ∷ path 2 64 (via 1 258 1 ∷ []) ∷ []
unfolding ospf_interfaces adjacencies links_of type_of
from_a_border = refl

pub not_itself : paths_within 2 (network_of (redistributes a ∷ b ∷ originates c ∷ d ∷ [])) 0 ≡ path 2 128 (via 0 2 0 ∷ []) ∷ []
unfolding ospf_interfaces adjacencies links_of type_of
not_itself = refl

-- ---- with area 1 as a stub area at a and b: no path leads into it, none out of it, and others stay

abbrev one_stub : Network
one_stub = network_of (redistributes (with_stubs (stub 1 ∷ []) a) ∷ with_stubs (stub 1 ∷ []) b ∷ originates c ∷ redistributes d ∷ [])

pub into_a_stub : paths_within 2 one_stub 3 ≡ path 2 64 (via 3 513 0 ∷ []) ∷ []
unfolding ospf_interfaces adjacencies links_of type_of
into_a_stub = refl

pub within_a_stub : paths_within 2 one_stub 0 ≡ []
unfolding ospf_interfaces adjacencies links_of type_of
within_a_stub = refl

pub beside_a_stub : paths_within 2 one_stub 1 ≡ path 2 64 (via 1 258 1 ∷ []) ∷ path 3 128 (via 1 258 1 ∷ []) ∷ []
unfolding ospf_interfaces adjacencies links_of type_of
beside_a_stub = refl

-- a border router of a stub area is reached in its other areas alone, though the way through the stub area is cheaper
pub around_a_stub : paths_within 2 (network_of
    (with_stubs (stub 1 ∷ []) (file (primary first 1 24 ∷ area first 1 ∷ cost first 1 ∷ primary second 257 24 ∷ everywhere 0))
    ∷ redistributes (with_stubs (stub 1 ∷ []) (file (primary first 2 24 ∷ area first 1 ∷ primary second 258 24 ∷ everywhere 0))) ∷ [])) 0 ≡ path 1 64 (via 0 258 1 ∷ []) ∷ []
unfolding ospf_interfaces adjacencies links_of type_of
around_a_stub = refl

-- ---- an AS boundary router in areas 1 and 0 that is reached inside both: the least of both

pub two_areas_of_it : paths_within 2 (network_of
    (file (primary first 1 24 ∷ area first 1 ∷ cost first 63 ∷ primary second 257 24 ∷ everywhere 0) ∷ redistributes (file (primary first 2 24 ∷ area first 1 ∷ primary second 258 24 ∷ everywhere 0)) ∷ [])) 0 ≡ path 1 63 (via 0 2 0 ∷ []) ∷ []
unfolding ospf_interfaces adjacencies links_of type_of
two_areas_of_it = refl

pub equal_areas_of_it : paths_within 2 (network_of
    (file (primary first 1 24 ∷ area first 1 ∷ primary second 257 24 ∷ everywhere 0) ∷ redistributes (file (primary first 2 24 ∷ area first 1 ∷ primary second 258 24 ∷ everywhere 0)) ∷ [])) 0 ≡ path 1 64 (via 0 2 0 ∷ via 0 258 1 ∷ []) ∷ []
unfolding ospf_interfaces adjacencies links_of type_of
equal_areas_of_it = refl
