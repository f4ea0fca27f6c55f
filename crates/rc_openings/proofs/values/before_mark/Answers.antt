use Rattle.std.proofs.Common.{arith}
use Rattle.std.proofs.lemmas.Grind.{common_steps}
use Rattle.rc_openings.proofs.ValueLemmas.{parts_some, parts_none}
use Rattle.rc_openings.proofs.values.before_mark.Goals as goal

pub returns-in-Some : goal.returns-in-Some
returns-in-Some c = grind (arith, common_steps, parts_some)

pub returns-in-None : goal.returns-in-None
returns-in-None c = grind (arith, common_steps, parts_none)
