use Rattle.std.proofs.Common.{rules, ◌≡◌, ◌+◌, ◌∷◌, ◌++◌, [], ap, sym, subst, ◌∙◌}
use Rattle.rc_spread.proofs.AloneLaws.{AreListedTo, all_to, none_to, one_to, past_to}
use Rattle.rc_spread.proofs.alone.fresh_ones.Goals as goal
use Rattle.rc_spread.proofs.alone.fresh_ones.Goals.{then-fresh-q+in_ok-push, else-fresh-q}

pub loop-q-init : goal.loop-q-init
loop-q-init c = none_to c.args.fresh.now c.new-found.result.items c.new-found.ensures.items

pub loop-q-preserved : goal.loop-q-preserved
loop-q-preserved c = elim c.if-fresh-q.branch [
  | then-fresh-q+in_ok-push w ↦ (
      let pushed : w.push.new.self.items ≡ c.loop-q.found.items ++ c.loop-q.q ∷ [] = search rules in
      one_to c.args.fresh.now c.loop-q.q c.loop-q.found.items c.if-fresh-q.found.items c.loop-q-test.true (ap (λ v. v.items) w.found-is ∙ pushed) c.loop-q.invariant)
  | else-fresh-q w ↦ (
      let same : c.if-fresh-q.found ≡ c.loop-q.found = w.found-is in
      subst (λ v. AreListedTo c.args.fresh.now (c.loop-q.q + 1) v.items) (sym same) (past_to c.args.fresh.now c.loop-q.q c.loop-q.found.items w.if-fresh-q.false c.loop-q.invariant))
]

pub returns : goal.returns
returns c = all_to c.args.fresh.now c.loop-q.q c.loop-q.found.items c.loop-q-test.false c.loop-q.invariant
