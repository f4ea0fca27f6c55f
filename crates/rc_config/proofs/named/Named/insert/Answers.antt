use Rattle.std.proofs.Common.{◌∙◌, sym}
use Rattle.std.proofs.lemmas.Option.{none-some}
use Rattle.rc_config.proofs.NamedLaws.{value_there, none_there, with_value_new}
use Rattle.rc_config.proofs.named.Named.insert.Goals as goal

pub returns-in-Some-clause-appended : goal.returns-in-Some-clause-appended
returns-in-Some-clause-appended g c = λ none.
    let before = c.put_at.ensures.before ∙ value_there c.args.self.now c.args.name c.in-Some.place (sym c.in-Some.ensures) in
    absurd (none-some c.put_at.result (sym (before ∙ none)))

pub returns-in-Some-clause-before : goal.returns-in-Some-clause-before
returns-in-Some-clause-before g c = c.put_at.ensures.before ∙ value_there c.args.self.now c.args.name c.in-Some.place (sym c.in-Some.ensures)

pub returns-in-Ok-clause-ok : goal.returns-in-Ok-clause-ok
returns-in-Ok-clause-ok g c =
    c.in-Ok.ensures.ok ∙ sym (with_value_new c.args.self.now c.args.name c.args.value (none_there c.args.self.now c.args.name (sym c.in-None.ensures)))

pub returns-in-Ok-clause-before : goal.returns-in-Ok-clause-before
returns-in-Ok-clause-before g c = sym (none_there c.args.self.now c.args.name (sym c.in-None.ensures))

pub returns-in-Err-clause-new_name : goal.returns-in-Err-clause-new_name
returns-in-Err-clause-new_name g c = none_there c.args.self.now c.args.name (sym c.in-None.ensures)
