use Rattle.rc_pieces.proofs.EditLaws.{all_put, one_more}
use Rattle.rc_pieces.proofs.editing.with_edits.Goals as goal

pub loop-edit-preserved : goal.loop-edit-preserved
loop-edit-preserved g c = record {
  whole = one_more g.T.HasPrefix.prefix_of c.args.items.now c.args.end.now c.args.edits.now.items c.loop-edit.made c.loop-edit.left.now c.apply.new.made c.behind-left.result.now c.in-Some.edit c.take_before.new.edits.items c.loop-edit.edits.items
      c.in-Some.ensures.1 c.in-Some.ensures.0 c.in_ok-apply.ensures c.behind-left.ensures.value c.loop-edit.invariant.whole;
  up = c.behind-left.ensures.in_order;
}

pub returns : goal.returns
returns g c =
    all_put g.T.HasPrefix.prefix_of c.args.items.now c.args.end.now c.args.edits.now.items c.loop-edit.made c.loop-edit.left.now c.append_again.new.made c.loop-edit.edits.items c.take_before.new.edits.items
    c.in_default.ensures.1 c.in_default.ensures.0 c.in_ok-append_again.ensures c.loop-edit.invariant.whole
