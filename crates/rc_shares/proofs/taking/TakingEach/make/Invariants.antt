use Rattle.rc_shares.specs.Hands.{IsHand}
use Rattle.rc_shares.proofs.taking.TakingEach.make.Given as goal

abbrev pub invariant-loop-turn : goal.invariant-loop-turn
invariant-loop-turn g l = IsHand (g.W.Each.makes l.self.each.now) l.made
