use Rattle.std.proofs.Common.{◌≡◌, ◌∙◌, ℕ, ◌<◌, Some, true, subst, sym, arith}
use Rattle.std.specs.Prelude.{slice_get}
use Rattle.std.proofs.Math.Decide.{dec_lt}
use Rattle.rc_ospf.specs.Boundaries.{is_boundary}
use Rattle.rc_reads.proofs.stayed.boundaries_are_flagged.Goals as goal

pub loop-index-preserved : goal.loop-index-preserved
loop-index-preserved c s less sends = by (dec_lt s c.loop-index.index)
  where
    by : Dec (s < c.loop-index.index) → slice_get c.args.flags.now s ≡ Some true
    by (yes before) = c.loop-index.invariant s before sends
    by (no last) =
        let here : c.at.result ≡ s = c.at.ensures ∙ (let same : c.loop-index.index ≡ s = omega (arith, less, last) in same) in
        subst (λ k. slice_get c.args.flags.now k ≡ Some true) here (c.is_flagged_boundary.ensures c.if-not-is_flagged_boundary.false (subst (λ k. is_boundary c.args.net.now k ≡ true) (sym here) sends))
