use Rattle.std.proofs.Common.{◌∙◌, ap, sym}
use Rattle.rc_route.specs.Tables.{best_for}
use Rattle.rc_route.specs.declared.best.Best.{Best}
use Rattle.rc_bgp.proofs.DecidedLaws.{all_taken, is_taken, stays_known}
use Rattle.rc_bgp.proofs.round_paths.differing.Goals as goal

pub loop-prefix-preserved-then-not-differ_at : goal.loop-prefix-preserved-then-not-differ_at
loop-prefix-preserved-then-not-differ_at c =
    let q = c.prefix-item.result in
    record {
      taken = stays_known (λ (b : Best). b.path.prefix) (best_for c.args.new.now) c.args.old.now c.args.prefixes.now c.loop-prefix.prefix-index q c.loop-prefix-test.true c.prefix-item.is c.loop-prefix.changed c.loop-prefix.invariant.taken
          (ap (λ xs. best_for xs q) (sym c.loop-prefix.invariant.before) ∙ c.differ_at.ensures.value c.if-not-differ_at.true ∙ ap (λ xs. best_for xs q) c.loop-prefix.invariant.after);
      before = c.differ_at.ensures.same_old ∙ c.loop-prefix.invariant.before;
      after = c.differ_at.ensures.same_new ∙ c.loop-prefix.invariant.after;
    }

pub loop-prefix-preserved : goal.loop-prefix-preserved
loop-prefix-preserved c =
    record {
      taken = is_taken (λ (b : Best). b.path.prefix) (best_for c.args.new.now) c.args.old.now c.args.prefixes.now c.loop-prefix.prefix-index c.prefix-item.result c.loop-prefix-test.true c.prefix-item.is c.loop-prefix.changed c.loop-prefix.invariant.taken
          c.push.new.self c.in_ok-push.ensures.ok;
      before = c.differ_at.ensures.same_old ∙ c.loop-prefix.invariant.before;
      after = c.differ_at.ensures.same_new ∙ c.loop-prefix.invariant.after;
    }

pub returns : goal.returns
returns c = all_taken (λ (b : Best). b.path.prefix) (best_for c.args.new.now) c.args.old.now c.args.prefixes.now c.loop-prefix.prefix-index c.loop-prefix.changed c.loop-prefix-test.false c.loop-prefix.invariant.taken
