use Rattle.std.proofs.Common.{◌∙◌}
use Rattle.rc_link_state.proofs.AdjacencyLaws.{neighbours_are_adjacent}
use Rattle.rc_link_state.proofs.step.is_adjacent.Goals as goal

pub returns : goal.returns
returns c = c.is_neighbour.ensures ∙ neighbours_are_adjacent c.args.links.now c.args.i.now c.args.j.now
