use Rattle.rc_words.proofs.RequestLaws.{begins_with_command}
use Rattle.rc_words.proofs.laws.first_word_is_a_command.Goals as goal

pub returns : goal.returns
returns c = begins_with_command
