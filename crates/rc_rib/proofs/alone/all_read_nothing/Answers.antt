use Rattle.std.proofs.Common.{◌≡◌, ◌∙◌, subst, ◌<◌, List, arith}
use Rattle.std.proofs.Math.Decide.{dec_lt}
use Rattle.rc_bgp_session.specs.declared.session.Session.{Session}
use Rattle.rc_rib.specs.Again.{ReadsNoOthers, ReadsNothing}
use Rattle.rc_rib.proofs.alone.all_read_nothing.Goals as goal

pub loop-index-preserved : goal.loop-index-preserved
loop-index-preserved c r less = by (dec_lt r c.loop-index.index)
  where
    by : Dec (r < c.loop-index.index) → ReadsNothing c.args.net.now c.args.internal.now r
    by (yes before) = c.loop-index.invariant r before
    by (no last) =
        let here : c.at.result ≡ r = c.at.ensures ∙ (let same : c.loop-index.index ≡ r = omega (arith, less, last) in same) in
        let both = c.reads_nothing.ensures c.if-not-reads_nothing.false in
        subst (λ k. ReadsNothing c.args.net.now c.args.internal.now k) here
        (record { others = subst (λ (all : List (List Session)). ReadsNoOthers c.args.net.now c.args.internal.now all c.at.result) c.requires both.1; lines = both.0 })
