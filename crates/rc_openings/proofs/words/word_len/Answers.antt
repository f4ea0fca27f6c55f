use Rattle.std.proofs.Common.{arith, length, sym, ◌∙◌}
use Rattle.std.proofs.lemmas.List.Sums.{position_or_len_is}
use Rattle.rc_openings.specs.Words.{is_blank}
use Rattle.rc_openings.proofs.words.word_len.Goals as goal

pub returns-clause-place : goal.returns-clause-place
returns-clause-place c =
    sym (position_or_len_is is_blank c.args.text.now (length c.args.text.now) 0 (omega arith) (λ k h. c.loop-i.invariant k (omega arith)) (λ lt. absurd (omega arith)))

pub returns-then-is_blank-clause-place : goal.returns-then-is_blank-clause-place
returns-then-is_blank-clause-place c =
    sym (position_or_len_is is_blank c.args.text.now c.loop-i.i 0 c.loop-i.auto.i-end c.loop-i.invariant (λ lt. sym c.is_blank.ensures ∙ c.if-is_blank.true))
