use Rattle.std.proofs.Common.{◌≡◌, ◌∙◌, subst, ℕ, ◌<◌, arith}
use Rattle.std.proofs.Math.Decide.{dec_lt}
use Rattle.rc_rib.specs.Again.{IsUnchanged}
use Rattle.rc_rib.proofs.settled.are_unchanged.Goals as goal

pub loop-index-preserved : goal.loop-index-preserved
loop-index-preserved c r less = by (dec_lt r c.loop-index.index)
  where
    Is : ℕ → Type 0
    Is k = IsUnchanged c.args.inputs.now.network.now c.args.inputs.now.internal.now c.args.inputs.now.sessions.now c.args.inputs.now.previous.now c.args.earlier.now.state.now k

    by : Dec (r < c.loop-index.index) → Is r
    by (yes before) = c.loop-index.invariant r before
    by (no last) =
        let here : c.at.result ≡ r = c.at.ensures ∙ (let same : c.loop-index.index ≡ r = omega (arith, less, last) in same) in
        subst Is here (c.in_ok-is_unchanged.ensures c.if-not-branch.false)
