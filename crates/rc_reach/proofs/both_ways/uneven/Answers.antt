use Rattle.std.proofs.lemmas.Result.{IfOk-weaker}
use Rattle.rc_router_sets.specs.Planes.{IsPlane}
use Rattle.rc_nodes.specs.Seats.{SeatKnows}
use Rattle.rc_trees.specs.Recipes.{tree}
use Rattle.rc_trees.specs.Trees.{Tree}
use Rattle.rc_reach.specs.Uneven.{IsUneven, uneven}
use Rattle.rc_reach.specs.Reaching.{IsSetOf}
use Rattle.rc_reach.proofs.PlaceJoins.{full_means_more}
use Rattle.rc_reach.proofs.UnevenLaws.{known_uneven}
use Rattle.rc_reach.proofs.both_ways.uneven.Goals as goal

pub returns-clause-uneven : goal.returns-clause-uneven
returns-clause-uneven g c =
    let plane = c.args.plane.now in
    let seat = c.uneven_within.result.0 in
    let ok : IsPlane plane = record { lawful = c.requires.lawful; links = c.requires.links; fibs = c.fibs-fibs.ensures.prepared.in_order } in
    IfOk-weaker c.uneven_within.result.1 (λ r. SeatKnows seat r.index (tree (uneven plane c.args.place)))
    (λ r. (t : Tree) → SeatKnows seat r.index t → IsSetOf (λ h. IsUneven plane h c.args.place) t)
    (λ r known. known_uneven plane ok c.args.place c.requires.place c.args.nodes.now seat c.uneven_within.ensures.seat r.index known) c.uneven_within.ensures.set

pub returns-clause-full : goal.returns-clause-full
returns-clause-full g c = full_means_more c.uneven_within.result.1 c.args.nodes.now c.uneven_within.result.0 c.uneven_within.ensures.cause

pub uneven_within-requires-clause-plane : goal.uneven_within-requires-clause-plane
uneven_within-requires-clause-plane g c κs within = record { lawful = c.requires.lawful; links = c.requires.links; fibs = c.fibs-fibs.ensures.prepared.in_order }
