-- The routes of a router, as text.
use Rattle.std.specs.Prelude.{ℕ, List, [], ◌++◌, codes, decimal, flat_map, slice_get, Some, None}
use Rattle.std.specs.Option.{option_map_or}
use Rattle.rc_base.specs.Addr.{dotted}
use Rattle.rc_base.specs.Prefix.{prefix_text}
use Rattle.rc_base.specs.declared.position.IfId.{IfId}
use Rattle.rc_config.specs.Members.{interface_at}
use Rattle.rc_config.specs.declared.network.Network.{Network}
use Rattle.rc_route.specs.declared.route.Hop.{Hop}
use Rattle.rc_route.specs.declared.route.Hop.TheVariants.{Null, Dev, Via}
use Rattle.rc_route.specs.declared.route.Route.{Route}
use Rattle.rc_route.specs.declared.route.Source.{Source}
use Rattle.rc_route.specs.declared.route.Source.TheVariants.{Connected, Static, Ebgp, Ospf, OspfIa, OspfE1, OspfE2, Ibgp}

-- the host name of a router, empty where the network has no such router
abbrev pub router_name : Network → ℕ → List ℕ
router_name net r = option_map_or (λ e. e.0) (slice_get net.routers r) []

-- the name of an interface, empty where the network has no such interface
abbrev pub interface_name : Network → IfId → List ℕ
interface_name net i = option_map_or (λ e. e.0) (interface_at net i) []

abbrev pub source_text : Source → List ℕ
source_text Connected = codes "connected"
source_text Static = codes "static"
source_text Ebgp = codes "ebgp"
source_text Ibgp = codes "ibgp"
source_text Ospf = codes "ospf"
source_text OspfIa = codes "ospf-ia"
source_text OspfE1 = codes "ospf-e1"
source_text OspfE2 = codes "ospf-e2"

-- a hop, with the blank before it
unfoldable pub hop_text : Network → Hop → List ℕ
hop_text net Null = codes " null"
hop_text net (Dev i) = codes " dev " ++ interface_name net i
hop_text net (Via a None) = codes " via " ++ dotted a
hop_text net (Via a (Some i)) = codes " via " ++ dotted a ++ codes " dev " ++ interface_name net i

-- the prefix, the source, and the distance and the metric with a slash between them
unfoldable pub route_head : Route → List ℕ
route_head route = prefix_text route.prefix ++ codes " " ++ source_text route.source ++ codes " " ++ decimal route.distance ++ codes "/" ++ decimal route.metric

-- the line of a route: its head, then its hops
unfoldable pub route_line : Network → Route → List ℕ
route_line net route = route_head route ++ flat_map (hop_text net) route.hops ++ codes "\n"

unfoldable pub router_line : List ℕ → List ℕ
router_line name = codes "router " ++ name ++ codes "\n"

-- the line of a router, then one for each of its routes
unfoldable pub routes_text : Network → ℕ → List Route → List ℕ
routes_text net router table = router_line (router_name net router) ++ flat_map (route_line net) table
