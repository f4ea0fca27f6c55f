use Rattle.std.proofs.Common.{◌+◌, ◌-◌, length}
use Rattle.rc_topology.specs.Links.{all_ids}
use Rattle.rc_walk.specs.Searching.{IsUnderWay}
use Rattle.rc_walk.proofs.search.seek.Given as goal

-- the positions before the place are done
abbrev pub invariant-loop-search : goal.invariant-loop-search
invariant-loop-search l = IsUnderWay l.seeking.plane.now l.seeking.header l.seeking.goal l.seeking.start l.search.found l.search.from.items l.search.by.items l.place 0

abbrev pub decreases-loop-search : goal.decreases-loop-search
decreases-loop-search l = 1 + length (all_ids l.seeking.plane.now.links) - l.place
