use Rattle.std.proofs.Common.{ℕ, [], List, length, IfOk, IfErr, sym, subst, arith}
use Rattle.rc_bdd.specs.Work.{IsCause}
use Rattle.rc_config.specs.Members.{positions}
use Rattle.rc_edges.specs.Prepare.{edge_at, stops_at}
use Rattle.rc_router_sets.specs.Query.{reaching}
use Rattle.rc_base.specs.Positions.{is_among}
use Rattle.rc_jobs.specs.Flows.{IsPrepared, KnowsFlows, flows_of, real_endings}
use Rattle.rc_nodes.specs.Seats.{SeatView, IsSeatOf, SeatKnows}
use Rattle.rc_places.proofs.PlaceLaws.{few_positions}
use Rattle.rc_reach.specs.Rounds.{MayCome}
use Rattle.rc_spread.specs.Known.{KnowsShare}
use Rattle.rc_reach.specs.Rounds.{reached_at}
use Rattle.rc_trees.specs.Recipes.{tree}
use Rattle.rc_trees.specs.Trees.{Tree}
use Rattle.rc_reach.proofs.AskedLaws.{asked_among, some_asked}
use Rattle.rc_reach.proofs.JoinLaws.{place_rounds}
use Rattle.rc_reach.proofs.PlaceJoins.{prepared_kept}
use Rattle.rc_reach.proofs.reaching.reach_at_once.Goals as goal

pub propagate-work-requires-clause-may : goal.propagate-work-requires-clause-may
propagate-work-requires-clause-may g c κs within =
    let plane = c.args.plane.now in
    let m = length c.args.prepared.now.into in
    let prepared = c.requires.prepared in
    let asked = some_asked c.args.ends c.requires.asking in
    let may : MayCome c.args.nodes.now c.args.seat plane c.args.place [] c.args.prepared.now.into = record {
      plane_is = c.requires.plane;
      short = omega arith;
      as_many = prepared.as_many;
      edges = prepared.edges;
      may = place_rounds plane c.args.place m prepared.as_many c.args.ends c.args.nodes.now.may c.requires.may asked.0 asked.1;
    } in
    subst (λ (s : SeatView). MayCome c.args.nodes.now s plane c.args.place [] c.args.prepared.now.into) (sym c.new-work.ensures) may

pub propagate-work-requires-clause-positions : goal.propagate-work-requires-clause-positions
propagate-work-requires-clause-positions g c =
    let plane = c.args.plane.now in
    let prepared = c.requires.prepared in
    let many = prepared.as_many in
    let few = few_positions plane.network c.requires.plane.lawful in
    omega arith

pub ended-made-requires-clause-endings : goal.ended-made-requires-clause-endings
ended-made-requires-clause-endings g c =
    let plane = c.args.plane.now in
    let n = length (positions plane.network) in
    let before = c.requires.prepared in
    let made = subst (λ (s : SeatView). IsPrepared s (edge_at plane) (stops_at plane c.args.ends) n c.args.prepared.now) (sym c.new-work.ensures) before in
    let after = prepared_kept c.new-work.result c.propagate-work.result.0 c.propagate-work.ensures.keeps made in
    subst (λ (ends : ℕ → List Tree). KnowsFlows c.propagate-work.result.0 (flows_of (is_among c.args.ends) c.args.prepared.now.ends) (real_endings ends n)) (asked_among plane c.args.ends c.args.ends (λ k is. is)) (after.endings (is_among c.args.ends))

pub ended-made-requires-clause-sets : goal.ended-made-requires-clause-sets
ended-made-requires-clause-sets g c =
    let plane = c.args.plane.now in
    let place = c.args.place in
    let prepared = c.requires.prepared in
    subst (λ k. IfOk c.propagate-work.result.1 (λ v. KnowsShare c.propagate-work.result.0 v.items (reached_at plane place k) 0 k)) prepared.as_many c.propagate-work.ensures.made

pub returns-clause-seat : goal.returns-clause-seat
returns-clause-seat g c = subst (IsSeatOf c.args.nodes.now) (sym c.into_seat.ensures) c.ended-made.ensures.seat

pub returns-clause-keeps : goal.returns-clause-keeps
returns-clause-keeps g c = λ r t k.
    subst (λ (s : SeatView). SeatKnows s r t) (sym c.into_seat.ensures)
    (c.ended-made.ensures.keeps r t (c.propagate-work.ensures.keeps r t (subst (λ (s : SeatView). SeatKnows s r t) (sym c.new-work.ensures) k)))

pub returns-clause-set : goal.returns-clause-set
returns-clause-set g c = subst (λ (s : SeatView). IfOk c.ended-made.result (λ r. SeatKnows s r.index (tree (reaching c.args.plane.now c.args.place c.args.ends)))) (sym c.into_seat.ensures) c.ended-made.ensures.set

pub returns-clause-cause : goal.returns-clause-cause
returns-clause-cause g c = subst (λ (s : SeatView). IfErr c.ended-made.result (IsCause c.args.nodes.now s)) (sym c.into_seat.ensures) c.ended-made.ensures.cause
