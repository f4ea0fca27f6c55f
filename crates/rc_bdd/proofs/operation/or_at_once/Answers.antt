use Rattle.rc_bdd.proofs.AtOnce.{or_false_left, or_false_right, or_true_left, or_true_right, or_itself}
use Rattle.rc_bdd.proofs.operation.or_at_once.Goals as goal

pub returns-then-left-eq0 : goal.returns-then-left-eq0
returns-then-left-eq0 c = or_false_left c.args.left.index c.args.right.index c.if-left-eq0.true

pub returns-then-right-eq0 : goal.returns-then-right-eq0
returns-then-right-eq0 c = or_false_right c.args.left.index c.args.right.index c.if-right-eq0.true

pub returns-then-left-eq1 : goal.returns-then-left-eq1
returns-then-left-eq1 c = or_true_left c.args.left.index c.args.right.index c.if-left-eq1.true

pub returns-then-right-eq1 : goal.returns-then-right-eq1
returns-then-right-eq1 c = or_true_right c.args.left.index c.args.right.index c.if-right-eq1.true

pub returns-then-left-right : goal.returns-then-left-right
returns-then-left-right c = or_itself c.args.left.index c.args.right.index c.if-left-right.true
