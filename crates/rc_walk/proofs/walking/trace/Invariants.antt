use Rattle.std.proofs.Common.{◌+◌, ◌-◌, length}
use Rattle.rc_topology.specs.Links.{all_ids}
use Rattle.rc_walk.proofs.FirstLaws.{IsUnderWay}
use Rattle.rc_walk.proofs.walking.trace.Given as goal

-- the positions so far are the first walk's, up to here
abbrev pub invariant-loop-kind : goal.invariant-loop-kind
invariant-loop-kind l = IsUnderWay l.plane l.header l.fn.position l.walked l.here

abbrev pub decreases-loop-kind : goal.decreases-loop-kind
decreases-loop-kind l = 1 + length (all_ids l.plane.links) - length l.walked
