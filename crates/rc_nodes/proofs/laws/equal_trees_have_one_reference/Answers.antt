use Rattle.rc_nodes.proofs.KnownLaws.{one_known, one_known_ref}
use Rattle.rc_nodes.proofs.laws.equal_trees_have_one_reference.Goals as goal

pub returns-clause-references : goal.returns-clause-references
returns-clause-references c = λ nodes seat r q t mine known again. one_known_ref seat mine.sound r q t known again

pub returns-clause-trees : goal.returns-clause-trees
returns-clause-trees c = λ nodes seat r s t mine known again. one_known seat mine.sound r s t known again
