use Rattle.rc_words.proofs.PlainRequest.{plain_taken}
use Rattle.rc_words.proofs.laws.plain_words_are_taken.Goals as goal

pub returns : goal.returns
returns c = plain_taken
