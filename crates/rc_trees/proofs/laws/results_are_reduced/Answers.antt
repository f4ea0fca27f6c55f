use Rattle.rc_trees.proofs.ReducedLaws as law
use Rattle.rc_trees.proofs.laws.results_are_reduced.Goals as goal

pub returns : goal.returns
returns c = λ s t r q. (law.reduced-and s t r q, law.reduced-or s t r q, law.reduced-minus s t r q)
