-- Adjacent interfaces as the code finds them.
use Rattle.std.specs.Prelude.{Bool, not, ◌&&◌}
use Rattle.rc_topology.specs.Links.{are_linked}
use Rattle.rc_topology.specs.Topology.{Topology}
use Rattle.rc_ospf_interfaces.specs.declared.interface.OspfInterface.{OspfInterface}
use Rattle.rc_link_state.specs.Whole.{agree}

-- `is_adjacent`, what is soon told first
abbrev pub is_neighbour : Topology → OspfInterface → OspfInterface → Bool
is_neighbour links i j = agree i j && (not i.is_passive && (not j.is_passive && are_linked links i.id j.id))
