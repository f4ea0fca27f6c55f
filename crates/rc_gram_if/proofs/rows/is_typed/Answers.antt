use Rattle.std.proofs.Common.{◌∙◌, sym}
use Rattle.rc_gram_if.proofs.TypedLaws.{plainly_typed}
use Rattle.rc_gram_if.proofs.rows.is_typed.Goals as goal

pub returns-then-is_plainly_typed : goal.returns-then-is_plainly_typed
returns-then-is_plainly_typed c =
    c.if-is_plainly_typed.true ∙ sym (plainly_typed c.args.name.now (sym c.is_plainly_typed.ensures ∙ c.if-is_plainly_typed.true))
