use Rattle.std.proofs.lemmas.Result.{IfOk-weaker}
use Rattle.rc_moves.specs.Walks.{IsLooping}
use Rattle.rc_reach.specs.Loops.{looping}
use Rattle.rc_router_sets.specs.Planes.{IsPlane}
use Rattle.rc_nodes.specs.Seats.{SeatKnows}
use Rattle.rc_trees.specs.Recipes.{tree}
use Rattle.rc_trees.specs.Trees.{Tree}
use Rattle.rc_reach.specs.Reaching.{IsSetOf}
use Rattle.rc_reach.proofs.PlaceJoins.{full_means_more}
use Rattle.rc_reach.proofs.UnevenLaws.{known_loops}
use Rattle.rc_reach.proofs.endless.loops.Goals as goal

pub returns-clause-loops : goal.returns-clause-loops
returns-clause-loops g c =
    let plane = c.args.plane.now in
    let seat = c.loops_within.result.0 in
    let ok : IsPlane plane = record { lawful = c.requires.lawful; links = c.requires.links; fibs = c.fibs-fibs.ensures.prepared.in_order } in
    IfOk-weaker c.loops_within.result.1 (λ r. SeatKnows seat r.index (tree (looping plane c.args.place)))
    (λ r. (t : Tree) → SeatKnows seat r.index t → IsSetOf (λ h. IsLooping plane h c.args.place) t)
    (λ r known. known_loops plane ok c.args.place c.requires.place c.args.nodes.now seat c.loops_within.ensures.seat r.index known) c.loops_within.ensures.set

pub returns-clause-full : goal.returns-clause-full
returns-clause-full g c = full_means_more c.loops_within.result.1 c.args.nodes.now c.loops_within.result.0 c.loops_within.ensures.cause
