use Rattle.std.proofs.Common.{◌≡◌, ℕ, ◌<◌, Some, true}
use Rattle.std.specs.Prelude.{slice_get}
use Rattle.rc_ospf.specs.Boundaries.{is_boundary}
use Rattle.rc_reads.proofs.stayed.boundaries_are_flagged.Given as goal

-- the flags of the AS boundary routers so far are set
abbrev pub invariant-loop-index : goal.invariant-loop-index
invariant-loop-index l = (s : ℕ) → s < l.index → is_boundary l.net s ≡ true → slice_get l.flags s ≡ Some true
