use Rattle.std.proofs.Common.{ℕ, ◌<◌}
use Rattle.rc_rib.specs.Again.{ReadsNothing}
use Rattle.rc_rib.proofs.alone.all_read_nothing.Given as goal

abbrev pub invariant-loop-index : goal.invariant-loop-index
invariant-loop-index l = (r : ℕ) → r < l.index → ReadsNothing l.net l.internal r
