-- Parts of lines, and lines of routes and walks, by computation.
use Rattle.std.specs.Prelude.{◌≡◌, ℕ, ◌+◌, ◌*◌, ◌-◌, List, [], ◌∷◌, ◌++◌, Some, None, codes, map, refl}
use Rattle.std.specs.Fmt.{digits}
use Rattle.std.specs.List.{enumerate_from}
use Rattle.rc_base.specs.Addr.{dotted}
use Rattle.rc_base.specs.Prefix.{prefix_at, prefix_text}
use Rattle.rc_base.specs.declared.ending.Kind.TheVariants.{DeniedIn, Accepted, NoRoute, NullRouted, DeniedOut, Unreachable, Exits, Delivered}
use Rattle.rc_base.specs.declared.position.IfId.{IfId}
use Rattle.rc_base.specs.declared.position.Pos.TheVariants.{Own, Entering}
use Rattle.rc_config.specs.Cuts.{uncut}
use Rattle.rc_config.specs.Interface.{fresh}
use Rattle.rc_config.specs.Update.{empty}
use Rattle.rc_config.specs.declared.network.Network.{Network}
use Rattle.rc_report.specs.Parts.{part_text}
use Rattle.rc_report.specs.declared.part.Part.TheVariants as part
use Rattle.rc_report.specs.RouteText.{hop_text, route_head, route_line, router_line, routes_text}
use Rattle.rc_report.specs.WalkText.{position_line, stop_line, walk_text}
use Rattle.rc_route.specs.declared.route.Hop.{Hop}
use Rattle.rc_route.specs.declared.route.Hop.TheVariants.{Null, Dev, Via}
use Rattle.rc_route.specs.declared.route.Route.{Route}
use Rattle.rc_route.specs.declared.route.Source.{Source}
use Rattle.rc_route.specs.declared.route.Source.TheVariants.{Connected, Static, Ebgp, Ibgp, Ospf, OspfIa, OspfE1, OspfE2}
use Rattle.rc_moves.specs.declared.walk.Stop.{Stop}
use Rattle.rc_moves.specs.declared.walk.Stop.TheVariants.{At, Loop}

-- the router R1 with two interfaces
abbrev net : Network
net = uncut ((codes "R1", record empty { interfaces = (codes "Ethernet0", fresh) ∷ (codes "Loopback0", fresh) ∷ [] }) ∷ [])

abbrev port : ℕ → IfId
port n = record { router = 0; index = n }

-- the route to 10.0.n.0/24, with distance 200 + n and the metric n below the greatest
abbrev route : ℕ → Source → List Hop → Route
route n source hops = record { prefix = prefix_at (10 * 16777216 + n * 256) 24; source = source; distance = 200 + n; metric = 4294967295 - n; hops = hops }

-- ---- the parts of a line: the least and the greatest number, an address and a prefix

pub each_part : map part_text (part.Number 0 ∷ part.Number 18446744073709551615 ∷ part.Address 33491456 ∷ part.Prefix (prefix_at 33491456 8) ∷ []) ≡ codes "0" ∷ codes "18446744073709551615" ∷ codes "1.255.10.0" ∷ codes "1.0.0.0/8" ∷ []
unfolding prefix_text dotted digits
each_part = refl

-- ---- routes: each source, and each kind of hop; an interface that isn't there has no name, nor has such a router

pub each_source : routes_text net 0 (map (λ (e : ℕ × Source). route e.0 e.1 (Null ∷ [])) (enumerate_from 0 (Connected ∷ Static ∷ Ebgp ∷ Ibgp ∷ Ospf ∷ OspfIa ∷ OspfE1 ∷ OspfE2 ∷ [])))
    ≡ codes "router R1\n10.0.0.0/24 connected 200/4294967295 null\n10.0.1.0/24 static 201/4294967294 null\n10.0.2.0/24 ebgp 202/4294967293 null\n10.0.3.0/24 ibgp 203/4294967292 null\n10.0.4.0/24 ospf 204/4294967291 null\n10.0.5.0/24 ospf-ia 205/4294967290 null\n10.0.6.0/24 ospf-e1 206/4294967289 null\n10.0.7.0/24 ospf-e2 207/4294967288 null\n"
unfolding routes_text router_line route_line route_head hop_text prefix_text dotted digits
each_source = refl

pub each_hop : routes_text net 0 (route 9 Static (Null ∷ Dev (port 0) ∷ Via (10 * 16777216 + 2) None ∷ Via (10 * 16777216 + 3) (Some (port 1)) ∷ Dev (port 2) ∷ []) ∷ [])
    ≡ codes "router R1\n10.0.9.0/24 static 209/4294967286 null dev Ethernet0 via 10.0.0.2 via 10.0.0.3 dev Loopback0 dev \n"
unfolding routes_text router_line route_line route_head hop_text prefix_text dotted digits
each_hop = refl

pub no_such_router : routes_text net 1 (route 1 Ebgp [] ∷ []) ≡ codes "router \n10.0.1.0/24 ebgp 201/4294967294\n"
unfolding routes_text router_line route_line route_head prefix_text dotted digits
no_such_router = refl

-- ---- walks: the router itself, then each interface that it enters, and each way to stop

abbrev stopped : Stop → List ℕ
stopped stop = walk_text net (record { positions = Own 0 ∷ Entering (port 1) ∷ Entering (port 0) ∷ []; stop = stop })

abbrev ended : List ℕ → List ℕ
ended word = codes "at R1 self\nat R1 Loopback0\nat R1 Ethernet0\nend " ++ word ++ codes "\n"

pub each_stop : map stopped (At DeniedIn ∷ At Accepted ∷ At NoRoute ∷ At NullRouted ∷ At DeniedOut ∷ At Unreachable ∷ At Exits ∷ At Delivered ∷ Loop ∷ [])
    ≡ map ended (codes "denied-in" ∷ codes "accepted" ∷ codes "no-route" ∷ codes "null-routed" ∷ codes "denied-out" ∷ codes "unreachable" ∷ codes "exits" ∷ codes "delivered" ∷ codes "loop" ∷ [])
unfolding walk_text position_line stop_line
each_stop = refl
