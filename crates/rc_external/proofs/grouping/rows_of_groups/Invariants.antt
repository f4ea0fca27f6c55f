use Rattle.std.proofs.Common.{◌≡◌, ◌++◌, map}
use Rattle.rc_external.specs.ByPrefix.{row_of}
use Rattle.rc_external.proofs.grouping.rows_of_groups.Given as goal

abbrev pub invariant-loop-prefix : goal.invariant-loop-prefix
invariant-loop-prefix l = l.rows ++ map row_of l.prefix-iterator ≡ map row_of l.fn.groups
