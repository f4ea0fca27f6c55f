use Rattle.std.proofs.Common.{◌≡◌, ◌++◌}
use Rattle.rc_topology.specs.Links as links
use Rattle.rc_router_sets.proofs.neighbors.takers_of.Given as goal

-- what is listed and what is left are all
abbrev pub invariant-loop-other : goal.invariant-loop-other
invariant-loop-other l = l.takers.items ++ l.other-iterator ≡ links.takers l.plane.links l.interface l.fn.addr
