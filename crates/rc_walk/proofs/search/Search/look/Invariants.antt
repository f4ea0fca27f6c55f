use Rattle.std.proofs.Common.{◌≡◌}
use Rattle.rc_moves.specs.Moves.{moves}
use Rattle.rc_walk.specs.Searching.{IsUnderWay}
use Rattle.rc_walk.proofs.search.Search.look.Given as goal

-- so many moves of the position were looked at
abbrev pub invariant-loop-choice : goal.invariant-loop-choice
invariant-loop-choice l = record {
  way : IsUnderWay l.seeking.plane.now l.seeking.header l.seeking.goal l.seeking.start l.self.found l.self.from.items l.self.by.items l.place l.choice;
  all : l.all.items ≡ moves l.seeking.plane.now l.seeking.header way.here.0;
}
