use Rattle.std.proofs.Common.{◌≡◌, false, true, sym, subst, ◌∙◌}
use Rattle.std.specs.List.{list_any}
use Rattle.std.proofs.lemmas.Result.{IfOk-weaker}
use Rattle.rc_base.specs.Endings.{all_kinds}
use Rattle.rc_base.specs.Positions.{is_among}
use Rattle.rc_edges.proofs.PrepareLaws.{may_prepare}
use Rattle.rc_router_sets.specs.Planes.{IsPlane}
use Rattle.rc_router_sets.specs.Query.{reaching}
use Rattle.rc_nodes.proofs.KnownLaws.{knows_never}
use Rattle.rc_nodes.specs.Seats.{SeatKnows}
use Rattle.rc_reach.proofs.AskedLaws.{none_reaches, one_asked}
use Rattle.rc_reach.proofs.PlaceJoins.{full_means_more, known_reaches}
use Rattle.rc_reach.specs.Reaching.{IsReachingSet}
use Rattle.rc_trees.specs.Recipes.{tree}
use Rattle.rc_trees.specs.Trees.{Tree}
use Rattle.rc_reach.proofs.reaching.reach.Goals as goal

pub returns-then-not-is_asking-clause-set : goal.returns-then-not-is_asking-clause-set
returns-then-not-is_asking-clause-set g c =
    let none : list_any (is_among c.args.ends) all_kinds ≡ false = sym c.is_asking.ensures ∙ c.if-not-is_asking.true in
    subst (SeatKnows c.args.seat 0) (sym (none_reaches c.args.plane.now c.args.place c.args.ends none)) (knows_never c.args.seat)

pub prepare-seat-requires-clause-may : goal.prepare-seat-requires-clause-may
prepare-seat-requires-clause-may g c κs within =
    let some : list_any (is_among c.args.ends) all_kinds ≡ true = sym c.is_asking.ensures ∙ c.if-not-is_asking.false in
    let asked = one_asked c.args.ends some in
    may_prepare c.args.plane.now c.args.place c.args.ends c.args.nodes.now.may c.requires.may asked.0 asked.1

pub reach_prepared-requires-clause-asking : goal.reach_prepared-requires-clause-asking
reach_prepared-requires-clause-asking g c κs within = sym c.is_asking.ensures ∙ c.if-not-is_asking.false

pub returns-then-not-is_asking-clause-reaches : goal.returns-then-not-is_asking-clause-reaches
returns-then-not-is_asking-clause-reaches g c =
    let plane = c.args.plane.now in
    let ok : IsPlane plane = record { lawful = c.requires.lawful; links = c.requires.links; fibs = c.fibs-fibs.ensures.prepared.in_order } in
    let none : list_any (is_among c.args.ends) all_kinds ≡ false = sym c.is_asking.ensures ∙ c.if-not-is_asking.true in
    let known : SeatKnows c.args.seat 0 (tree (reaching plane c.args.place c.args.ends)) = subst (SeatKnows c.args.seat 0) (sym (none_reaches plane c.args.place c.args.ends none)) (knows_never c.args.seat) in
    known_reaches plane ok c.args.place c.requires.place c.args.ends c.args.nodes.now c.args.seat c.requires.seat 0 known

pub returns-clause-keeps : goal.returns-clause-keeps
returns-clause-keeps g c = λ r t k. c.reach_prepared.ensures.keeps r t (c.prepare-seat.ensures.keeps r t k)

pub returns-clause-reaches : goal.returns-clause-reaches
returns-clause-reaches g c =
    let plane = c.args.plane.now in
    let ok : IsPlane plane = record { lawful = c.requires.lawful; links = c.requires.links; fibs = c.fibs-fibs.ensures.prepared.in_order } in
    IfOk-weaker c.reach_prepared.result.1 (λ r. SeatKnows c.reach_prepared.result.0 r.index (tree (reaching plane c.args.place c.args.ends)))
    (λ r. (t : Tree) → SeatKnows c.reach_prepared.result.0 r.index t → IsReachingSet plane c.args.place c.args.ends t)
    (λ r known. known_reaches plane ok c.args.place c.requires.place c.args.ends c.args.nodes.now c.reach_prepared.result.0 c.reach_prepared.ensures.seat r.index known) c.reach_prepared.ensures.set

pub returns-clause-full : goal.returns-clause-full
returns-clause-full g c = full_means_more c.reach_prepared.result.1 c.args.nodes.now c.reach_prepared.result.0 c.reach_prepared.ensures.cause

pub reach_prepared-requires-clause-plane : goal.reach_prepared-requires-clause-plane
reach_prepared-requires-clause-plane g c κs within = record { lawful = c.requires.lawful; links = c.requires.links; fibs = c.fibs-fibs.ensures.prepared.in_order }
