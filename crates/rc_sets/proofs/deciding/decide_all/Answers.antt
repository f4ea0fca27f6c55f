-- The lines that aren't left are decided.
use Rattle.std.proofs.Common.{List, sym, subst, ◌∙◌}
use Rattle.rc_sets.specs.declared.deciding.Decided.{Decided}
use Rattle.rc_sets.proofs.DecidingLaws.{IsWalked, at_first, at_last, may_decide, may_join, may_see, next_walked, seen_now, whole_now}
use Rattle.rc_sets.proofs.deciding.decide_all.Goals as goal

pub loop-line-init : goal.loop-line-init
loop-line-init g c = record {
  seat = c.requires.seat;
  keeps = λ r t k. k;
  walked = subst (λ (all : List Decided). IsWalked c.args.work.now c.args.lines.now c.into_iter-line-iterator.result all 0 0) (sym c.new-all.ensures.items)
      (at_first c.args.work.now c.args.lines.now c.into_iter-line-iterator.result (c.into_iter-line-iterator.ensures.into_iter_gives ∙ c.iter-line-items.ensures.all));
}

pub or-requires-clause-may : goal.or-requires-clause-may
or-requires-clause-may g c =
    let i = c.loop-line.invariant in let w = i.walked in
    may_join c.args.nodes.now c.loop-line.work w.done c.loop-line.seen.index c.loop-line.last.index w.seen_is
    (may_see c.args.nodes.now.may w.done c.in-Some.line.now c.next.new.self c.args.lines.now (whole_now w c.in-Some.line.now c.next.new.self c.in-Some.ensures.steps) c.requires.may)

pub decide-requires-clause-may : goal.decide-requires-clause-may
decide-requires-clause-may g c =
    let w = c.loop-line.invariant.walked in (
      w.done,
      seen_now c.loop-line.work c.or.new.self w.done c.loop-line.seen.index c.loop-line.last.index c.in_ok-seen.seen.index w.seen_is c.in_ok-seen.ensures.or,
      may_decide c.args.nodes.now.may w.done c.in-Some.line.now c.next.new.self c.args.lines.now (whole_now w c.in-Some.line.now c.next.new.self c.in-Some.ensures.steps) c.requires.may,
    )

pub loop-line-preserved : goal.loop-line-preserved
loop-line-preserved g c =
    let i = c.loop-line.invariant in let w = i.walked in
    let known = seen_now c.loop-line.work c.or.new.self w.done c.loop-line.seen.index c.loop-line.last.index c.in_ok-seen.seen.index w.seen_is c.in_ok-seen.ensures.or in
    record {
      seat = c.decide.ensures.seat;
      keeps = λ r t k. c.decide.ensures.keeps r t (c.or.ensures.keeps r t (i.keeps r t k));
      walked = next_walked w c.in-Some.line.now c.next.new.self c.in-Some.ensures.steps c.or.new.self c.decide.new.work (λ r t k. c.decide.ensures.keeps r t (c.or.ensures.keeps r t k)) c.decide.ensures.keeps c.in_ok-seen.seen.index known
          c.in_ok-one.one (c.in_ok-one.ensures.decided w.done known) c.push.new.self.items c.in-Ok.ensures.items;
    }

pub returns-clause-decided : goal.returns-clause-decided
returns-clause-decided g c = at_last c.loop-line.invariant.walked c.in-None.ensures.steps.0
