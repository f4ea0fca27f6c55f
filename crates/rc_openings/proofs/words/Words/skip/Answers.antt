use Rattle.std.proofs.Common.{◌∙◌}
use Rattle.rc_openings.specs.Words.{words_left}
use Rattle.rc_openings.proofs.WordsLemmas.{drop_one}
use Rattle.rc_openings.proofs.words.Words.skip.Goals as goal

pub loop-preserved : goal.loop-preserved
loop-preserved c =
    drop_one c.next_word.result (words_left c.loop.self) (words_left c.next_word.new.self) c.next_word.ensures c.args.count c.loop.counter c.loop-test.true ∙ c.loop.invariant
