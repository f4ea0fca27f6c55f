use Rattle.std.proofs.Common.{sym, subst}
use Rattle.rc_nodes.specs.Seats.{SeatKnows}
use Rattle.rc_trees.specs.Combine.{constant}
use Rattle.rc_nodes.proofs.KnownLaws.{knows_never, knows_always}
use Rattle.rc_sets.proofs.build.constant_of.Goals as goal

pub returns-then-known : goal.returns-then-known
returns-then-known c = λ seat. subst (λ b. SeatKnows seat 1 (constant b)) (sym c.if-known.true) (knows_always seat)

pub returns-else-known : goal.returns-else-known
returns-else-known c = λ seat. subst (λ b. SeatKnows seat 0 (constant b)) (sym c.if-known.false) (knows_never seat)
