use Rattle.std.proofs.Common.{◌≡◌, drop}
use Rattle.std.specs.BTreeSet.{keys}
use Rattle.rc_sets.proofs.StretchLaws.{put, stretch_hops}
use Rattle.rc_sets.proofs.table_hops.insert_stretches.Given as goal

-- what is left gives the same
abbrev pub invariant-loop-stretch : goal.invariant-loop-stretch
invariant-loop-stretch l = put (keys l.set) (stretch_hops (drop l.stretch-index l.stretches)) ≡ put (keys l.fn.set) (stretch_hops l.stretches)
