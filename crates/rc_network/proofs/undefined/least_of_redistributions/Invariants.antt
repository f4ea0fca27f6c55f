use Rattle.std.proofs.Common.{◌≡◌, drop}
use Rattle.std.specs.List.{flat_map}
use Rattle.rc_network.specs.Undefined.{least_line, lower, named_by_redistribution}
use Rattle.rc_network.proofs.undefined.least_of_redistributions.Given as goal

-- the least line is the lower of the one that was found and of that of the lines that are left
abbrev pub invariant-loop-line : goal.invariant-loop-line
invariant-loop-line l = lower l.least (least_line l.file (flat_map named_by_redistribution (drop l.line-index l.lines))) ≡ least_line l.file (flat_map named_by_redistribution l.lines)
