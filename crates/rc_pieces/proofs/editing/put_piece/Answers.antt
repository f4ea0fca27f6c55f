use Rattle.std.proofs.Common.{◌∙◌, sym}
use Rattle.rc_pieces.proofs.EditLaws.{shared}
use Rattle.rc_pieces.proofs.editing.put_piece.Goals as goal

pub returns-then-not-goes_before : goal.returns-then-not-goes_before
returns-then-not-goes_before g c =
    shared g.T.HasPrefix.prefix_of c.args.piece.now c.args.end.now c.args.edits.now.items c.args.made.now c.push_shared.new.self (sym c.goes_before.ensures ∙ c.if-not-goes_before.true) c.in_ok-push_shared.ensures
