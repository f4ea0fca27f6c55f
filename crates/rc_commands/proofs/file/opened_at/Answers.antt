use Rattle.std.proofs.Common.{◌∙◌, [], ◌∷◌, ◌++◌, ap, sym, Some}
use Rattle.rc_config.specs.Interface.{fresh}
use Rattle.rc_config.proofs.NamedLaws.{none_there, with_value_new}
use Rattle.rc_commands.proofs.IndexLaws.{known_again, put_last}
use Rattle.rc_commands.proofs.file.opened_at.Goals as goal

pub returns-in-Some-clause-blocks : goal.returns-in-Some-clause-blocks
returns-in-Some-clause-blocks c = known_again c.args.blocks.now c.args.name fresh c.in-Some.index (sym c.in-Some.ensures)

pub returns-clause-blocks : goal.returns-clause-blocks
returns-clause-blocks c =
    let made = c.in_ok-push.ensures.ok ∙ ap (λ block. c.args.blocks.now ++ (c.args.name, block) ∷ []) c.new-block.ensures ∙ sym (with_value_new c.args.blocks.now c.args.name fresh (none_there c.args.blocks.now c.args.name (sym c.in_default.ensures))) in
    (put_last c.args.blocks.now c.push.new.self c.args.name fresh (sym c.in_default.ensures) made).0

pub returns-clause-index : goal.returns-clause-index
returns-clause-index c =
    let made = c.in_ok-push.ensures.ok ∙ ap (λ block. c.args.blocks.now ++ (c.args.name, block) ∷ []) c.new-block.ensures ∙ sym (with_value_new c.args.blocks.now c.args.name fresh (none_there c.args.blocks.now c.args.name (sym c.in_default.ensures))) in
    (put_last c.args.blocks.now c.push.new.self c.args.name fresh (sym c.in_default.ensures) made).1 ∙ ap Some (sym c.len-last.ensures)
