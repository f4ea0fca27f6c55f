use Rattle.std.proofs.Common.{◌≡◌}
use Rattle.std.specs.List.{flat_map}
use Rattle.rc_network.specs.Undefined.{least_line, lower, named_by_entry}
use Rattle.rc_network.proofs.undefined.least_of_map.Given as goal

-- the least line is the lower of the one that was found and of that of the entries that are left
abbrev pub invariant-loop-entry : goal.invariant-loop-entry
invariant-loop-entry l = lower l.least (least_line l.file (flat_map named_by_entry l.entry-iterator)) ≡ least_line l.file (flat_map named_by_entry l.map.entries)
