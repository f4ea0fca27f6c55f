use Rattle.rc_words.proofs.RequestLaws.{made_by_sample}
use Rattle.rc_words.proofs.laws.made_by_sample.Goals as goal

pub returns : goal.returns
returns c = made_by_sample
