use Rattle.std.proofs.Common.{◌≡◌, drop}
use Rattle.std.specs.List.{fold}
use Rattle.rc_base.specs.Groups.{with_thing, grouped}
use Rattle.rc_rib.specs.Offers.{line_prefix, with_line}
use Rattle.rc_rib.proofs.grouping.hops_by_prefix.Given as goal

abbrev pub invariant-loop-line : goal.invariant-loop-line
invariant-loop-line l = fold (with_thing line_prefix with_line) l.rows (drop l.line-index l.lines) ≡ grouped line_prefix with_line l.lines
