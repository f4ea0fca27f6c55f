use Rattle.std.proofs.Common.{refl, ◌<◌, sym, subst, [], length, map, take, slice_index_or, arith}
use Rattle.rc_spread.proofs.PassageLaws.{all_passages, here, fits, no_passage, one_side_more, set_now, tests_kept, through_now}
use Rattle.rc_spread.specs.United.{passing, KnowsPassages, sided, flow_sided}
use Rattle.rc_trees.specs.Trees.{never}
use Rattle.rc_spread.proofs.united.sides_of.Goals as goal

pub loop-passage-init : goal.loop-passage-init
loop-passage-init g c = record {
  mine = c.requires.seat;
  keeps = λ r t h. h;
  made = λ sets flows known. subst (λ ps. KnowsPassages c.args.work.now (sided c.args.high c.args.bit sets) ps []) (sym c.new-sides.ensures.items) tt;
}

pub put_side-requires-clause-from : goal.put_side-requires-clause-from
put_side-requires-clause-from g c =
    let i = c.loop-passage.passage-index in
    tests_kept c.args.nodes.now c.args.work.now c.loop-passage.work c.loop-passage.invariant.mine c.loop-passage.invariant.keeps c.args.bit (slice_index_or c.args.passages.now i no_passage)
    (c.requires.from i no_passage c.loop-passage-test.true)

pub loop-passage-preserved : goal.loop-passage-preserved
loop-passage-preserved g c =
    let before = c.args.work.now in
    let now = c.loop-passage.work in
    let ps = c.args.passages.now in
    let i = c.loop-passage.passage-index in
    let less : i < length ps = c.loop-passage-test.true in
    let high = c.args.high in
    let bit = c.args.bit in
    record {
      mine = c.put_side.ensures.seat;
      keeps = λ r t h. c.put_side.ensures.keeps r t (c.loop-passage.invariant.keeps r t h);
      made = λ sets flows known.
          let f = here before sets ps flows known i less in
          subst (KnowsPassages c.put_side.new.work (sided high bit sets) c.put_side.new.sides.items) (one_side_more high bit sets flows i (0, never) (fits before sets ps flows known i less))
          (c.in_ok-put_side.ensures.put (sided high bit sets) (passing (sided high bit sets) (map (flow_sided high bit) (take i flows))) (flow_sided high bit f) (sets f.0) f.1
          (c.loop-passage.invariant.made sets flows known)
          (set_now before sets ps flows known i less now c.loop-passage.invariant.keeps no_passage)
          (through_now before sets ps flows known i less now c.loop-passage.invariant.keeps no_passage)
          refl refl);
    }

pub returns-clause-sides : goal.returns-clause-sides
returns-clause-sides g c = λ sets flows known.
    let stop = c.loop-passage-test.false in
    subst (λ fs. KnowsPassages c.loop-passage.work (sided c.args.high c.args.bit sets) c.loop-passage.sides.items (passing (sided c.args.high c.args.bit sets) (map (flow_sided c.args.high c.args.bit) fs)))
    (all_passages c.args.work.now sets c.args.passages.now flows known c.loop-passage.passage-index (omega arith))
    (c.loop-passage.invariant.made sets flows known)
