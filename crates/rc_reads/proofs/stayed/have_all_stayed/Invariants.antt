use Rattle.std.proofs.Common.{◌≡◌, ◌<◌, ℕ}
use Rattle.std.specs.Prelude.{slice_get}
use Rattle.rc_reads.proofs.stayed.have_all_stayed.Given as goal

-- each router before this one knows the same
abbrev pub invariant-loop-index : goal.invariant-loop-index
invariant-loop-index l = (k : ℕ) → k < l.index → slice_get l.old k ≡ slice_get l.now k
