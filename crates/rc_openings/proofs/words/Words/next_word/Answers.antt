use Rattle.std.proofs.Common.{arith, sym, ◌∙◌}
use Rattle.rc_openings.proofs.WordsLemmas.{no_word, no_word_at, first_word_at}
use Rattle.rc_openings.proofs.words.Words.next_word.Goals as goal

pub returns-then-end-eq0 : goal.returns-then-end-eq0
returns-then-end-eq0 c =
    let none = no_word c.skip_blanks-text.result.now c.skip_blanks-text.ensures.front (sym c.word_len-end.ensures.place ∙ c.if-end-eq0.true) in
    (sym c.skip_blanks-text.ensures.same ∙ none, no_word_at c.skip_blanks-text.result.now c.word_len-end.result c.if-end-eq0.true none)

pub returns-else-end-eq0 : goal.returns-else-end-eq0
returns-else-end-eq0 c =
    sym c.skip_blanks-text.ensures.same ∙ first_word_at c.skip_blanks-text.result.now c.word_len-end.result c.word_len-end.ensures.place (omega arith)
