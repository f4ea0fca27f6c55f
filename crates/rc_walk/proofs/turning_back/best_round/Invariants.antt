use Rattle.rc_walk.specs.Ways.{IsBest, IsOneOfFirst}
use Rattle.rc_walk.proofs.turning_back.best_round.Given as goal

-- the best of the rounds at the first so many positions
abbrev pub invariant-loop-place : goal.invariant-loop-place
invariant-loop-place l = IsBest l.plane l.header l.start (IsOneOfFirst l.all.found l.place) l.best
