use Rattle.rc_words.proofs.RequestLaws.{kept_in_range}
use Rattle.rc_words.proofs.laws.numbers_are_in_range.Goals as goal

pub returns : goal.returns
returns c = kept_in_range
