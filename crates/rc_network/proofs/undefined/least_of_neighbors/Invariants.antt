use Rattle.std.proofs.Common.{◌≡◌}
use Rattle.rc_network.specs.Undefined.{least_line, lower, named_by_neighbors}
use Rattle.rc_network.proofs.undefined.least_of_neighbors.Given as goal

-- the least line is the lower of the one that was found and of that of the neighbours that are left
abbrev pub invariant-loop-neighbor : goal.invariant-loop-neighbor
invariant-loop-neighbor l = lower l.least (least_line l.file (named_by_neighbors l.neighbor-iterator)) ≡ least_line l.file (named_by_neighbors l.neighbors)
