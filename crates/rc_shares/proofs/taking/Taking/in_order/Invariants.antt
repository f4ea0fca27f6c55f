use Rattle.std.proofs.Common.{All}
use Rattle.rc_shares.specs.Hands.{IsHand}
use Rattle.rc_shares.specs.Stretches.{IsStretch}
use Rattle.rc_shares.proofs.taking.Taking.in_order.Given as goal

abbrev pub invariant-loop-item : goal.invariant-loop-item
invariant-loop-item g l = IsStretch (g.W.Each.makes l.self.each.now) 0 l.item l.all × All (IsHand (g.W.Each.makes l.self.each.now)) l.hands.items
