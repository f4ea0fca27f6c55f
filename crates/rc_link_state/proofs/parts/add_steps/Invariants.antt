use Rattle.std.proofs.Common.{◌≡◌, ◌++◌, drop, map, filter}
use Rattle.rc_link_state.specs.Adjacency.{is_adjacent, step_over}
use Rattle.rc_link_state.proofs.parts.add_steps.Given as goal

abbrev pub invariant-loop-j : goal.invariant-loop-j
invariant-loop-j l = l.listed ++ map (step_over l.i) (filter (is_adjacent l.links l.i) (drop l.j-index l.others)) ≡ l.initial.listed ++ map (step_over l.i) (filter (is_adjacent l.links l.i) l.others)
