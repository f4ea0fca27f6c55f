use Rattle.std.proofs.Common.{All}
use Rattle.rc_shares.specs.Hands.{IsHand}
use Rattle.rc_shares.proofs.taking.take_from.Given as goal

abbrev pub invariant-loop-index : goal.invariant-loop-index
invariant-loop-index g l = All (IsHand (g.W.Each.makes l.each)) l.hands.items
