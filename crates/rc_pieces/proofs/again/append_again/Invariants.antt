use Rattle.std.proofs.Common.{◌≡◌, ◌++◌, drop}
use Rattle.rc_pieces.proofs.again.append_again.Given as goal

abbrev pub invariant-loop-other : goal.invariant-loop-other
invariant-loop-other g l = l.made ++ drop l.other-index l.others ≡ l.initial.made ++ l.others
