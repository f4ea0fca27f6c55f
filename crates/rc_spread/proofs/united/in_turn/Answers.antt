use Rattle.std.proofs.Common.{◌<◌, length, subst, take, arith}
use Rattle.rc_nodes.proofs.KnownLaws.{knows_never}
use Rattle.rc_nodes.specs.Seats.{SeatKnows, Keeps}
use Rattle.rc_spread.proofs.PassageLaws.{added, all_passages, here, may_add, may_pass, no_passage, set_now, through_now}
use Rattle.rc_spread.specs.Gathered.{gathered}
use Rattle.rc_trees.specs.Trees.{never}
use Rattle.rc_spread.proofs.united.in_turn.Goals as goal

pub loop-passage-init : goal.loop-passage-init
loop-passage-init g c = record {
  mine = c.requires.seat;
  keeps = λ r t h. h;
  so_far = λ sets flows known. knows_never c.args.work.now;
}

pub and-requires-clause-may : goal.and-requires-clause-may
and-requires-clause-may g c =
    let m = c.requires.may in
    may_pass c.args.work.now m.sets c.args.passages.now m.flows m.known c.loop-passage.passage-index c.loop-passage-test.true c.loop-passage.work c.loop-passage.invariant.keeps c.args.nodes.now m.allowed no_passage

pub or-requires-clause-may : goal.or-requires-clause-may
or-requires-clause-may g c =
    let m = c.requires.may in
    let before = c.args.work.now in
    let now = c.loop-passage.work in
    let ps = c.args.passages.now in
    let i = c.loop-passage.passage-index in
    let less : i < length ps = c.loop-passage-test.true in
    let keeps = c.loop-passage.invariant.keeps in
    let later : Keeps before c.and.new.self = λ r t h. c.and.ensures.keeps r t (keeps r t h) in
    let f = here before m.sets ps m.flows m.known i less in
    let got = c.in_ok-passed.ensures.and (m.sets f.0) f.1 (set_now before m.sets ps m.flows m.known i less now keeps no_passage) (through_now before m.sets ps m.flows m.known i less now keeps no_passage) in
    may_add before m.sets ps m.flows m.known i less c.and.new.self later c.args.nodes.now m.allowed c.loop-passage.set.index c.in_ok-passed.passed.index
    (c.and.ensures.keeps c.loop-passage.set.index (gathered m.sets never (take i m.flows)) (c.loop-passage.invariant.so_far m.sets m.flows m.known)) got

pub loop-passage-preserved : goal.loop-passage-preserved
loop-passage-preserved g c =
    let before = c.args.work.now in
    let now = c.loop-passage.work in
    let ps = c.args.passages.now in
    let i = c.loop-passage.passage-index in
    let less : i < length ps = c.loop-passage-test.true in
    let keeps = c.loop-passage.invariant.keeps in
    record {
      mine = c.or.ensures.seat;
      keeps = λ r t h. c.or.ensures.keeps r t (c.and.ensures.keeps r t (keeps r t h));
      so_far = λ sets flows known.
          let f = here before sets ps flows known i less in
          let got = c.in_ok-passed.ensures.and (sets f.0) f.1 (set_now before sets ps flows known i less now keeps no_passage) (through_now before sets ps flows known i less now keeps no_passage) in
          let so_far = c.and.ensures.keeps c.loop-passage.set.index (gathered sets never (take i flows)) (c.loop-passage.invariant.so_far sets flows known) in
          added before sets ps flows known i less c.or.new.self c.in_ok-set.set.index (c.in_ok-set.ensures.or _ _ so_far got);
    }

pub returns-clause-set : goal.returns-clause-set
returns-clause-set g c = λ sets flows known.
    let stop = c.loop-passage-test.false in
    subst (λ fs. SeatKnows c.loop-passage.work c.loop-passage.set.index (gathered sets never fs)) (all_passages c.args.work.now sets c.args.passages.now flows known c.loop-passage.passage-index (omega arith))
    (c.loop-passage.invariant.so_far sets flows known)
