use Rattle.rc_shares.specs.Stretches.{IsStretch}
use Rattle.rc_shares.proofs.each.ListsShared.share.Given as goal

abbrev pub invariant-loop-item : goal.invariant-loop-item
invariant-loop-item g l = IsStretch (g.W.Each.makes l.self.each.now) l.from l.item l.made
