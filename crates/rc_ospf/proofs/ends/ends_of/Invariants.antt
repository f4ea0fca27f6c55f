use Rattle.std.proofs.Common.{◌≡◌, drop}
use Rattle.std.specs.List.{fold}
use Rattle.rc_ospf.specs.Ends.{with_ends, ends_of}
use Rattle.rc_ospf.specs.declared.grouping.Row.{Row}
use Rattle.rc_ospf.proofs.ends.ends_of.Given as goal

abbrev pub invariant-loop-row : goal.invariant-loop-row
invariant-loop-row l = fold (λ ends (row : Row). with_ends ends row.offers) l.ends (drop l.row-index l.rows) ≡ ends_of l.rows
