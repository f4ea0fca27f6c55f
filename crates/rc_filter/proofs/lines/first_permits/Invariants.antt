use Rattle.std.proofs.Common.{◌≡◌}
use Rattle.rc_filter.specs.Verdict.{first_action}
use Rattle.rc_filter.proofs.lines.first_permits.Given as goal

-- the lines that are left decide
abbrev pub invariant-loop-line : goal.invariant-loop-line
invariant-loop-line l = first_action l.lines l.header ≡ first_action l.line-iterator l.header
