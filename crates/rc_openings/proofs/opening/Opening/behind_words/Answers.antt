use Rattle.std.proofs.Common.{◌∙◌, sym}
use Rattle.rc_openings.proofs.WordsLemmas.{drop_both}
use Rattle.rc_openings.proofs.opening.Opening.behind_words.Goals as goal

pub loop-words-preserved : goal.loop-words-preserved
loop-words-preserved c =
    drop_both _ c.next_word-in-loop-words.result _ _ _ _ c.next_word.ensures (sym c.is_some.ensures ∙ c.loop-words-test.true) c.next_word-in-loop-words.ensures ∙ c.loop-words.invariant
