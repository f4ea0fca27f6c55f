use Rattle.std.proofs.Common.{◌≡◌}
use Rattle.rc_network.specs.Undefined.{least_line, lower, named_by_ospf}
use Rattle.rc_network.proofs.undefined.least_of_ospf.Given as goal

-- the least line is the lower of the one that was found and of that of the lines that are left
abbrev pub invariant-loop-line : goal.invariant-loop-line
invariant-loop-line l = lower l.least (least_line l.file (named_by_ospf l.line-iterator)) ≡ least_line l.file (named_by_ospf l.lines)
