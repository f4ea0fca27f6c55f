use Rattle.rc_words.proofs.RequestLaws.{when_refused, when_unread, none_only}
use Rattle.rc_words.proofs.laws.refused_as_by_clap.Goals as goal

pub returns : goal.returns
returns c = record { refused = when_refused; unread = when_unread; only = none_only }
