use Rattle.std.proofs.Common.{ap, map, fold}
use Rattle.std.proofs.lemmas.List.{get_or_default}
use Rattle.clap.specs.Words.{with_rule}
use Rattle.rc_words.specs.Arguments.{rule_told}
use Rattle.rc_words.proofs.ArgumentLaws.{all_told, one_more}
use Rattle.rc_words.proofs.app.with_arguments.Goals as goal

pub loop-argument-init : goal.loop-argument-init
loop-argument-init c = λ a told. record { same = ap (λ b. fold with_rule b (map rule_told c.args.arguments.now)) told.app; local = told.local }

pub loop-argument-preserved : goal.loop-argument-preserved
loop-argument-preserved c = λ a told.
    one_more _ _ _ _ _ _ _ c.loop-argument-test.true
    (get_or_default c.args.arguments.now c.loop-argument.argument-index _ _ c.loop-argument-test.true) c.told.ensures.rule c.told.ensures.local c.in_ok-command.ensures (c.loop-argument.invariant a told)

pub returns : goal.returns
returns c = λ a told. all_told _ _ _ _ c.loop-argument-test.false (c.loop-argument.invariant a told)
