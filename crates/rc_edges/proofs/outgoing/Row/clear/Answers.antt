use Rattle.std.proofs.Common.{refl, ap, ◌∙◌, ◌<◌, ◌≤◌, length, get_or, arith}
use Rattle.rc_edges.proofs.RowLaws.{all_taken, next_taken, none_taken}
use Rattle.rc_edges.proofs.outgoing.Row.clear.Goals as goal

pub loop-at-init : goal.loop-at-init
loop-at-init c = record { sets = none_taken c.args.self.now.sets.items; touched = refl }

pub loop-at-preserved : goal.loop-at-preserved
loop-at-preserved c =
    let i = c.loop-at.invariant in
    let xs = c.args.self.now.touched.items in
    let len = c.len-at-end.ensures in
    let test = c.loop-at-test.true in
    let less : c.loop-at.at < length xs = omega arith in
    let u = c.index-onto.result.now in
    record {
      sets = next_taken c.args.self.now.sets.items c.loop-at.self.sets.items _ xs c.loop-at.at u (c.index-onto.ensures ∙ ap (λ ys. get_or ys c.loop-at.at u) i.touched) less i.sets c.note.ensures;
      touched = i.touched;
    }

pub returns : goal.returns
returns c = λ seat count sent is.
    let xs = c.args.self.now.touched.items in
    let len = c.len-at-end.ensures in
    let test = c.loop-at-test.false in
    let end : length xs ≤ c.loop-at.at = omega arith in
    all_taken seat c.args.self.now _ count sent c.loop-at.at end c.loop-at.invariant.sets c.clear.ensures.items is
