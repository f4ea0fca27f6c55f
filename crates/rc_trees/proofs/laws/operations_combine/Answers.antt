use Rattle.rc_base.specs.Header.{bit}
use Rattle.rc_trees.proofs.TreeLaws as law
use Rattle.rc_trees.proofs.laws.operations_combine.Goals as goal

pub returns-clause-and : goal.returns-clause-and
returns-clause-and c = λ s t h. law.value-and (bit h) s t

pub returns-clause-or : goal.returns-clause-or
returns-clause-or c = λ s t h. law.value-or (bit h) s t

pub returns-clause-minus : goal.returns-clause-minus
returns-clause-minus c = λ s t h. law.value-minus (bit h) s t
