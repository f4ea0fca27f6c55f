use Rattle.std.proofs.Common.{arith}
use Rattle.std.proofs.lemmas.Bool.Decides.{nat_tests}
use Rattle.std.proofs.lemmas.Grind.{common_steps}
use Rattle.rc_rounds.proofs.CheckpointLaws.{next-first, next-power, next-stays}
use Rattle.rc_rounds.proofs.progress.next_checkpoint.Goals as goal
use Rattle.rc_rounds.proofs.progress.next_checkpoint.Goals.{then-round-eq1, else-round-eq1}

pub returns-then-round-checkpoint-clause-power : goal.returns-then-round-checkpoint-clause-power
returns-then-round-checkpoint-clause-power c h = elim c.if-round-eq1.branch [
  | then-round-eq1 v ↦ next-first c.args.round c.args.checkpoint v.if-round-eq1.true
  | else-round-eq1 v ↦ next-power c.args.round c.args.checkpoint h v.if-round-eq1.false (let a = v.value-is in let b = c.if-round-checkpoint.true in grind (arith, common_steps, nat_tests))
]

pub returns-else-round-checkpoint-clause-power : goal.returns-else-round-checkpoint-clause-power
returns-else-round-checkpoint-clause-power c h = elim c.if-round-eq1.branch [
  | then-round-eq1 v ↦ absurd (let a = v.value-is in let b = c.if-round-checkpoint.false in grind (arith, common_steps, nat_tests))
  | else-round-eq1 v ↦ next-stays c.args.round c.args.checkpoint h v.if-round-eq1.false (λ e. let a = v.value-is in let b = c.if-round-checkpoint.false in grind (arith, common_steps, nat_tests))
]
