use Rattle.std.proofs.Common.{arith, sym, ap, ◌∙◌}
use Rattle.rc_openings.specs.Words.{words_of}
use Rattle.rc_grammar.specs.File.{is_passed}
use Rattle.rc_grammar.proofs.FirstByteLaws.{passed_by_first, passed_empty}
use Rattle.rc_grammar.proofs.reading.is_passed_over.Goals as goal

pub returns-in-empty : goal.returns-in-empty
returns-in-empty c =
    sym (ap is_passed (sym c.without_blanks.ensures.same) ∙ passed_empty c.without_blanks.result.now (omega arith)) ∙ ap (λ t. is_passed (words_of t)) c.text.ensures

pub returns-in-len1-up : goal.returns-in-len1-up
returns-in-len1-up c =
    sym (ap is_passed (sym c.without_blanks.ensures.same) ∙ passed_by_first c.without_blanks.result.now c.without_blanks.ensures.front c.in-len1-up.len_at_least) ∙ ap (λ t. is_passed (words_of t)) c.text.ensures
