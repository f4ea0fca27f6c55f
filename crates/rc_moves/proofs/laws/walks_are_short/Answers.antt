use Rattle.rc_moves.proofs.NetworkLaws.{as_few_as_the_network}
use Rattle.rc_moves.proofs.laws.walks_are_short.Goals as goal

pub returns : goal.returns
returns c net state h q w there walk = as_few_as_the_network net state h q w there walk
