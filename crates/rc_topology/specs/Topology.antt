-- What the links of a network are seen as.
use Rattle.std.specs.Prelude.{List}
use Rattle.rc_config.specs.declared.network.Pair.{Pair}
use Rattle.rc_topology.specs.declared.port.Port.{Port}

-- the interfaces of each router, in the network's order, and the pairs between which the network is cut; who shares a link with whom is
-- told from these alone
pub record Topology : Type 0 where
  pub ports : List (List Port)
  pub cuts : List Pair
