use Rattle.std.proofs.Common.{arith}
use Rattle.std.proofs.lemmas.Grind.{common_steps}
use Rattle.rc_openings.proofs.ValueLemmas.{too_large}
use Rattle.rc_openings.proofs.values.digits_value.Goals as goal

pub returns-then-value-from-clause-value : goal.returns-then-value-from-clause-value
returns-then-value-from-clause-value c = grind (arith, common_steps, too_large)
