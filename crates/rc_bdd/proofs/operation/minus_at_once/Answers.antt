use Rattle.rc_bdd.proofs.AtOnce.{minus_false_left, minus_true_right, minus_false_right, minus_itself}
use Rattle.rc_bdd.proofs.operation.minus_at_once.Goals as goal

pub returns-then-left-eq0 : goal.returns-then-left-eq0
returns-then-left-eq0 c = minus_false_left c.args.left.index c.args.right.index c.if-left-eq0.true

pub returns-then-right-eq1 : goal.returns-then-right-eq1
returns-then-right-eq1 c = minus_true_right c.args.left.index c.args.right.index c.if-right-eq1.true

pub returns-then-right-eq0 : goal.returns-then-right-eq0
returns-then-right-eq0 c = minus_false_right c.args.left.index c.args.right.index c.if-right-eq0.true

pub returns-then-left-right : goal.returns-then-left-right
returns-then-left-right c = minus_itself c.args.left.index c.args.right.index c.if-left-right.true
