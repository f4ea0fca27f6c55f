use Rattle.std.proofs.Common.{ℕ, ◌<◌, List, ◌++◌, length}
use Rattle.rc_base.specs.declared.position.Pos.{Pos}
use Rattle.rc_walk.specs.Searching.{WaysBack}
use Rattle.rc_walk.proofs.search.Search.way_to.Given as goal

-- the way back from the place is the positions and choices so far, and then those from here
abbrev pub invariant-loop-at : goal.invariant-loop-at
invariant-loop-at l = record {
  fits : l.at < length l.self.found;
  so_far : (ps : List Pos) (cs : List ℕ) → WaysBack l.self.found l.self.from.items l.self.by.items l.at ps cs → WaysBack l.self.found l.self.from.items l.self.by.items l.place (l.positions.items ++ ps) (l.choices.items ++ cs);
}

abbrev pub decreases-loop-at : goal.decreases-loop-at
decreases-loop-at l = l.at
