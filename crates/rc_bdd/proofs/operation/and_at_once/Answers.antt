use Rattle.rc_bdd.proofs.AtOnce.{and_false_left, and_false_right, and_true_left, and_true_right, and_itself}
use Rattle.rc_bdd.proofs.operation.and_at_once.Goals as goal

pub returns-then-left-eq0 : goal.returns-then-left-eq0
returns-then-left-eq0 c = and_false_left c.args.left.index c.args.right.index c.if-left-eq0.true

pub returns-then-right-eq0 : goal.returns-then-right-eq0
returns-then-right-eq0 c = and_false_right c.args.left.index c.args.right.index c.if-right-eq0.true

pub returns-then-left-eq1 : goal.returns-then-left-eq1
returns-then-left-eq1 c = and_true_left c.args.left.index c.args.right.index c.if-left-eq1.true

pub returns-then-right-eq1 : goal.returns-then-right-eq1
returns-then-right-eq1 c = and_true_right c.args.left.index c.args.right.index c.if-right-eq1.true

pub returns-then-left-right : goal.returns-then-left-right
returns-then-left-right c = and_itself c.args.left.index c.args.right.index c.if-left-right.true
