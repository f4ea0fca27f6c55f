use Rattle.std.proofs.Common.{◌∙◌, sym}
use Rattle.rc_openings.proofs.DecisiveLemmas.{form_found}
use Rattle.rc_openings.proofs.decide.begins_form.Goals as goal

pub returns-then-begins_with : goal.returns-then-begins_with
returns-then-begins_with c =
    sym (form_found c.args.openings.now c.loop-opening.opening-index _ _ c.loop-opening-test.true (sym c.is_form.ensures ∙ c.if-is_form.true) (rw c.words.ensures at (sym c.begins_with.ensures ∙ c.if-begins_with.true)))
