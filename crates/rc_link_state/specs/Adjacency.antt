-- Routers that become adjacent over two interfaces (RFC 2328 s.10.5).
use Rattle.std.specs.Prelude.{◌==◌, Bool, true, false, not, ◌&&◌, List, Some, map, filter}
use Rattle.std.specs.Bool.{beq}
use Rattle.std.specs.List.{flat_map}
use Rattle.rc_base.specs.Prefix.{same_prefix}
use Rattle.rc_topology.specs.Topology.{Topology}
use Rattle.rc_topology.specs.Links.{are_linked}
use Rattle.rc_route.specs.declared.route.Hop.{Hop}
use Rattle.rc_route.specs.declared.route.Hop.TheVariants.{Via}
use Rattle.rc_config.specs.declared.ospf.NetworkType.{NetworkType}
use Rattle.rc_config.specs.declared.ospf.NetworkType.TheVariants.{Broadcast, PointToPoint}
use Rattle.rc_ospf_interfaces.specs.declared.interface.OspfInterface.{OspfInterface}
use Rattle.rc_link_state.specs.declared.step.Step.{Step}

abbrev pub is_same_network : NetworkType → NetworkType → Bool
is_same_network Broadcast Broadcast = true
is_same_network PointToPoint PointToPoint = true
is_same_network _ _ = false

-- Their primary addresses have one prefix, they share a link (so they are of different routers, and no loopbacks), neither is
-- passive, and area, stub flag of the area, network type and intervals agree.
abbrev pub is_adjacent : Topology → OspfInterface → OspfInterface → Bool
is_adjacent links i j =
    same_prefix i.prefix j.prefix && are_linked links i.id j.id && not i.is_passive && not j.is_passive
    && (i.area == j.area) && beq i.is_stub j.is_stub && is_same_network i.network j.network && (i.hello == j.hello) && (i.dead == j.dead)

-- the step to a neighbour costs what the interface costs by which it leaves
abbrev pub step_over : OspfInterface → OspfInterface → Step
step_over i j = record { area = i.area; out = i.id; to = j.id.router; cost = i.cost; gateway = j.addr }

-- its hop is the neighbour's primary address, over that interface
abbrev pub hop_of : Step → Hop
hop_of s = Via s.gateway (Some s.out)

-- the steps between adjacent routers: for each interface, in order, those to the ones that it is adjacent to
unfoldable pub adjacencies : Topology → List OspfInterface → List Step
adjacencies links interfaces = flat_map (λ i. map (step_over i) (filter (is_adjacent links i) interfaces)) interfaces
