use Rattle.std.proofs.Common.{rules}
use Rattle.rc_shares.proofs.HandLaws.{are_hands}
use Rattle.rc_shares.proofs.each.put_together.Goals as goal

pub in_order-requires-clause-hands : goal.in_order-requires-clause-hands
in_order-requires-clause-hands g c κs within =
    are_hands (g.W.Each.makes c.args.taking.now.each.now) 0 c.args.taking.now.hands c.in_ok-hands.field-0 (search rules)
