use Rattle.std.proofs.Common.{◌≡◌, ◌∙◌, ◌∷◌, ap, sym}
use Rattle.std.proofs.lemmas.Result.{IfOk-weaker}
use Rattle.rc_pieces.specs.Editing.{edited}
use Rattle.rc_pieces.proofs.EditLaws.{all_edited, piece_in_order, piece_put, rest_filled, rest_in_order, taken}
use Rattle.rc_pieces.proofs.SaidLaws.{edits_said}
use Rattle.rc_pieces.proofs.editing.edited.Goals as goal

pub put_piece-requires : goal.put_piece-requires
put_piece-requires g c = piece_in_order g.T.HasPrefix.prefix_of c.loop-piece.left.now _ c.in-Some.piece.now (taken c.loop-piece.left.now c.in-Some.piece.now c.in-Some.ensures.value) c.loop-piece.invariant.up

pub loop-piece-preserved : goal.loop-piece-preserved
loop-piece-preserved g c =
    let f = g.T.HasPrefix.prefix_of in
    let left = c.loop-piece.left.now in
    let rest = c.behind_first-left.result.now in
    let piece = c.in-Some.piece.now in
    let are : left ≡ piece ∷ rest = taken left piece c.in-Some.ensures.value ∙ ap (λ rest. piece ∷ rest) (sym c.behind_first-left.ensures) in
    record {
      whole = piece_put f c.loop-piece.made c.put_piece.new.made c.loop-piece.edits.items c.put_piece.new.edits.items left rest piece c.end_of-end.result (edited f c.args.known.now c.args.edits.items) are c.loop-piece.invariant.up c.end_of-end.ensures c.in_ok-put_piece.ensures c.loop-piece.invariant.whole;
      up = rest_in_order f left rest piece are c.loop-piece.invariant.up;
      filled = rest_filled left rest piece are c.loop-piece.invariant.filled;
    }

pub returns-clause-says : goal.returns-clause-says
returns-clause-says g c are =
    let f = g.T.HasPrefix.prefix_of in
    let whole = all_edited f c.loop-piece.made c.put_values.new.made c.loop-piece.edits.items c.loop-piece.left.now _ c.in_default.ensures.value c.in_ok-put_values.ensures c.loop-piece.invariant.whole in
    IfOk-weaker c.finish.result (λ made. made ≡ c.put_values.new.made) _ (λ made is. edits_said f c.args.known.now c.args.edits.items made (is ∙ whole) c.requires are) c.finish.ensures
