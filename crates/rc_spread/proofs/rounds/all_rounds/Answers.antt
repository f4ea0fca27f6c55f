use Rattle.std.proofs.Common.{◌≡◌, ◌<◌, subst, arith}
use Rattle.std.proofs.lemmas.Result.{IfOk-weaker}
use Rattle.rc_spread.specs.Known.{IsAfter, KnowsShare}
use Rattle.rc_spread.proofs.Rounding.{last_after}
use Rattle.rc_spread.proofs.rounds.all_rounds.Goals as goal

pub loop-number-init : goal.loop-number-init
loop-number-init g c = record { mine = c.requires.seat; keeps = λ r t h. h; after = c.requires.first; cause = tt }

pub next_round-back-requires-clause-ready : goal.next_round-back-requires-clause-ready
next_round-back-requires-clause-ready g c κs within =
    let laws = g.met.S.Spread g.world.𝓛 g.world.𝓜 g.world.𝓡 ((λ s x. x), (λ x. x), (λ x. x), λ x. x) in
    laws.stays_ready c.args.spread.now c.args.nodes.now c.args.work c.loop-number.work c.loop-number.invariant.keeps c.requires.ready

pub next_round-back-requires-clause-further : goal.next_round-back-requires-clause-further
next_round-back-requires-clause-further g c κs within = subst (λ k. c.loop-number.number < k) c.positions-count.ensures c.loop-number-test.true

pub loop-number-preserved : goal.loop-number-preserved
loop-number-preserved g c = record {
  mine = c.next_round-back.ensures.seat;
  keeps = λ r t h. c.next_round-back.ensures.keeps r t (c.loop-number.invariant.keeps r t h);
  after = c.next_round-back.ensures.after;
  cause = c.next_round-back.ensures.cause;
}

pub returns-then-many-eq0-clause-made : goal.returns-then-many-eq0-clause-made
returns-then-many-eq0-clause-made g c = c.next_round-back.ensures.last c.if-many-eq0.true

pub returns-then-many-eq0-clause-keeps : goal.returns-then-many-eq0-clause-keeps
returns-then-many-eq0-clause-keeps g c = λ r t h. c.next_round-back.ensures.keeps r t (c.loop-number.invariant.keeps r t h)

pub returns-clause-made : goal.returns-clause-made
returns-clause-made g c =
    let sets = g.S.Spread.set_after c.args.spread.now in
    let n = g.S.Spread.count c.args.spread.now in
    let many = c.positions-count.ensures in
    let end = c.loop-number.auto.number-end in
    let stop = c.loop-number-test.false in
    let all : c.loop-number.number ≡ n = omega arith in
    IfOk-weaker c.loop-number.made (λ v. IsAfter c.loop-number.work v.items c.loop-number.fresh.items sets n c.loop-number.number) (λ v. KnowsShare c.loop-number.work v.items (sets n) 0 n)
    (λ v after. last_after c.loop-number.work v.items c.loop-number.fresh.items sets n c.loop-number.number all after) c.loop-number.invariant.after

pub returns-clause-seat : goal.returns-clause-seat
returns-clause-seat g c = c.loop-number.invariant.mine

pub returns-clause-keeps : goal.returns-clause-keeps
returns-clause-keeps g c = c.loop-number.invariant.keeps

pub returns-clause-cause : goal.returns-clause-cause
returns-clause-cause g c = c.loop-number.invariant.cause
