use Rattle.std.proofs.Common.{subst}
use Rattle.rc_edges.specs.Given.{IsRow, joined, nothing}
use Rattle.rc_edges.proofs.position_sets.begin.Goals as goal

pub fill-requires-clause-made : goal.fill-requires-clause-made
fill-requires-clause-made g c = c.in_ok-made.ensures.sets c.args.nodes.now c.args.work.now c.requires.seat

pub fill-requires-clause-row : goal.fill-requires-clause-row
fill-requires-clause-row g c = subst (λ k. IsRow c.args.work.now c.in_ok-row.row k (joined nothing)) c.len.ensures (c.in_ok-row.ensures.row c.args.work.now)
