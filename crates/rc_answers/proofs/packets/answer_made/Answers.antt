use Rattle.std.proofs.Common.{subst}
use Rattle.std.proofs.lemmas.Result.{IfOk-at_ok}
use Rattle.rc_nodes.specs.Seats.{SeatKnows}
use Rattle.rc_reach.specs.Held.{HoldsAsked}
use Rattle.rc_trees.specs.Trees.{Tree}
use Rattle.rc_answers.specs.Written.{AreExamplesOf}
use Rattle.rc_answers.proofs.packets.answer_made.Goals as goal

pub write_set-requires-clause-set : goal.write_set-requires-clause-set
write_set-requires-clause-set g c =
    let plane = c.args.at.now.plane.now in
    let asked = c.args.packets.now.asked in
    let held : HoldsAsked plane asked c.in-Ok.held = IfOk-at_ok (HoldsAsked plane asked) c.in-Ok.is c.requires.set in
    let t : Tree = held.known.0 in
    let known : SeatKnows c.in-Ok.held.seat c.in-Ok.held.set.index t = held.known.1 in
    (t, c.in-Ok-example_walks.ensures.keeps c.in-Ok.held.set.index t known, held.exact t known, subst (λ n. AreExamplesOf plane asked n t c.in-Ok-example_walks.examples.items) c.examples_in.ensures (c.in-Ok-example_walks.ensures.walks t known))
