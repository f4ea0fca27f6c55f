use Rattle.rc_base.specs.declared.field.Field.TheVariants.{Dst}
use Rattle.rc_trees.proofs.FieldLaws as law
use Rattle.rc_trees.proofs.laws.a_chain_holds_its_prefix.Goals as goal

pub returns : goal.returns
returns c = λ p h short is. law.has-chain h (is Dst) p short
