use Rattle.rc_nodes.proofs.KnownLaws.{known_reduced}
use Rattle.rc_nodes.proofs.laws.known_trees_are_reduced.Goals as goal

pub returns : goal.returns
returns c = λ nodes seat r t mine known. known_reduced seat mine.sound r t known
