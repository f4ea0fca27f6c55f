use Rattle.std.proofs.Common.{◌≡◌, length, take, sym, subst, arith}
use Rattle.rc_nodes.specs.Seats.{SeatKnows, Keeps}
use Rattle.rc_spread.specs.Gathered.{gathered}
use Rattle.rc_jobs.specs.declared.flow.Flow.{Flow}
use Rattle.rc_jobs.specs.Flows.{no_header}
use Rattle.rc_spread.proofs.Gathering.{from_fresh, from_set, is_known, knows_there, knows_passed, may_and, may_or, more, stays, at_end}
use Rattle.rc_spread.proofs.gather.gathered_set.Goals as goal
use Rattle.rc_spread.proofs.gather.gathered_set.Goals.{then-fresh-flow+in_ok-passed+in_ok-set, else-fresh-flow}

abbrev no_flow : Flow
no_flow = record { from = 0; set = no_header }

pub bounds-fresh-flow : goal.bounds-fresh-flow
bounds-fresh-flow g c =
    let m = c.requires.may in
    from_fresh c.requires.seat m.sent c.loop-flow.flow-index c.loop-flow-test.true no_flow

pub bounds-sets-flow : goal.bounds-sets-flow
bounds-sets-flow g c =
    let m = c.requires.may in
    from_set c.requires.seat m.sent c.loop-flow.flow-index c.loop-flow-test.true no_flow

pub set_in-through-requires-clause-known : goal.set_in-through-requires-clause-known
set_in-through-requires-clause-known g c =
    let m = c.requires.may in
    is_known c.requires.seat m.sent c.loop-flow.flow-index c.loop-flow-test.true c.loop-flow.work c.loop-flow.invariant.keeps no_flow

pub and-requires-clause-may : goal.and-requires-clause-may
and-requires-clause-may g c =
    let m = c.requires.may in
    let now = c.set_in-through.new.work in
    let keeps : Keeps c.args.work.now now = λ r t h. c.set_in-through.ensures.keeps r t (c.loop-flow.invariant.keeps r t h) in
    let right = knows_there c.requires.seat m.sent c.loop-flow.flow-index c.loop-flow-test.true c.loop-flow.work c.loop-flow.invariant.keeps now c.set_in-through.result.index no_flow c.set_in-through.ensures.within in
    may_and c.requires.seat m.sent c.loop-flow.flow-index c.loop-flow-test.true now keeps c.set_in-through.result.index right m.allowed no_flow no_header

pub or-requires-clause-may : goal.or-requires-clause-may
or-requires-clause-may g c =
    let m = c.requires.may in
    let now = c.set_in-through.new.work in
    let there : Keeps c.args.work.now now = λ r t h. c.set_in-through.ensures.keeps r t (c.loop-flow.invariant.keeps r t h) in
    let right = knows_there c.requires.seat m.sent c.loop-flow.flow-index c.loop-flow-test.true c.loop-flow.work c.loop-flow.invariant.keeps now c.set_in-through.result.index no_flow c.set_in-through.ensures.within in
    let got = knows_passed c.requires.seat m.sent c.loop-flow.flow-index c.loop-flow-test.true now there c.set_in-through.result.index right c.and.new.self c.in_ok-passed.passed.index no_flow no_header c.in_ok-passed.ensures.and in
    let keeps : Keeps c.args.work.now c.and.new.self = λ r t h. c.and.ensures.keeps r t (there r t h) in
    may_or c.requires.seat m.sent c.loop-flow.flow-index c.loop-flow-test.true c.and.new.self keeps m.allowed c.loop-flow.set.index c.in_ok-passed.passed.index (c.and.ensures.keeps _ _ (c.set_in-through.ensures.keeps _ _ (c.loop-flow.invariant.so_far m.sets m.start m.through m.sent))) got

pub loop-flow-preserved : goal.loop-flow-preserved
loop-flow-preserved g c = elim c.if-fresh-flow.branch [
  | then-fresh-flow+in_ok-passed+in_ok-set w ↦ (
      let now = w.set_in-through.new.work in
      let there : Keeps c.args.work.now now = λ r t h. w.set_in-through.ensures.keeps r t (c.loop-flow.invariant.keeps r t h) in
      let keeps : Keeps c.args.work.now w.and.new.self = λ r t h. w.and.ensures.keeps r t (there r t h) in
      rw (w.work-is, w.set-is) (record {
        mine = w.or.ensures.seat;
        keeps = λ r t h. w.or.ensures.keeps r t (keeps r t h);
        so_far = λ sets start through sent.
            let right = knows_there c.requires.seat sent c.loop-flow.flow-index c.loop-flow-test.true c.loop-flow.work c.loop-flow.invariant.keeps now w.set_in-through.result.index no_flow w.set_in-through.ensures.within in
            let got = knows_passed c.requires.seat sent c.loop-flow.flow-index c.loop-flow-test.true now there w.set_in-through.result.index right w.and.new.self w.in_ok-passed.passed.index no_flow no_header w.in_ok-passed.ensures.and in
            let before = w.and.ensures.keeps c.loop-flow.set.index (gathered sets start (take c.loop-flow.flow-index through)) (w.set_in-through.ensures.keeps c.loop-flow.set.index (gathered sets start (take c.loop-flow.flow-index through)) (c.loop-flow.invariant.so_far sets start through sent)) in
            more c.requires.seat sent c.loop-flow.flow-index c.loop-flow-test.true w.or.new.self w.in_ok-set.set.index (w.in_ok-set.ensures.or _ _ before got);
      })
      )
  | else-fresh-flow w ↦
      rw (w.work-is, w.set-is) (record {
        mine = c.loop-flow.invariant.mine;
        keeps = c.loop-flow.invariant.keeps;
        so_far = λ sets start through sent.
            subst (SeatKnows c.loop-flow.work c.loop-flow.set.index) (sym (stays c.requires.seat sent c.loop-flow.flow-index c.loop-flow-test.true no_flow w.if-fresh-flow.false)) (c.loop-flow.invariant.so_far sets start through sent);
      })
]

pub returns-clause-made : goal.returns-clause-made
returns-clause-made g c = λ sets start through sent.
    let low = c.loop-flow.auto.flow-index-end in
    let high = c.loop-flow-test.false in
    let ends : c.loop-flow.flow-index ≡ length c.args.flows.now = omega arith in
    subst (SeatKnows c.loop-flow.work c.loop-flow.set.index) (at_end c.requires.seat sent c.loop-flow.flow-index ends) (c.loop-flow.invariant.so_far sets start through sent)
