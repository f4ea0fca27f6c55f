use Rattle.std.proofs.Common.{refl, [], length, sym, subst, inl, arith}
use Rattle.std.proofs.lemmas.Result.{IfOk-at_ok}
use Rattle.rc_base.specs.Positions.{is_among}
use Rattle.rc_base.specs.declared.ending.Ends.{Ends}
use Rattle.rc_base.specs.declared.ending.Kind.TheVariants.{Accepted}
use Rattle.rc_config.specs.Members.{positions}
use Rattle.rc_edges.specs.Prepare.{MayPrepare, edge_at, ends_at, stops_at}
use Rattle.rc_jobs.specs.Flows.{IsPrepared, KnowsFlows, flows_of, real_endings}
use Rattle.rc_places.proofs.PlaceLaws.{few_positions}
use Rattle.rc_reach.specs.Uneven.{arrivals, failures}
use Rattle.rc_reach.proofs.JoinLaws.{place_rounds}
use Rattle.rc_nodes.specs.Seats.{SeatView, Keeps}
use Rattle.rc_reach.specs.Rounds.{MayCome}
use Rattle.rc_reach.proofs.UnevenLaws.{arrivals_may, ended_so, may_prepare_all}
use Rattle.rc_reach.proofs.both_ways.uneven_within.Goals as goal

pub prepare-seat-requires-clause-may : goal.prepare-seat-requires-clause-may
prepare-seat-requires-clause-may g c κs within =
    let plane = c.args.plane.now in
    let may = c.args.nodes.now.may in
    subst (λ (e : Ends). MayPrepare may plane e) (sym c.all_ends.ensures) (may_prepare_all plane c.args.place may c.requires.may)

pub propagate-work-requires-clause-may : goal.propagate-work-requires-clause-may
propagate-work-requires-clause-may g c κs within =
    let plane = c.args.plane.now in
    let may = c.args.nodes.now.may in
    let n = length (positions plane.network) in
    let prepared : IsPrepared c.prepare-seat.result.0 (edge_at plane) (stops_at plane c.all_ends.result) n c.in-Ok-prepared.prepared =
    IfOk-at_ok (IsPrepared c.prepare-seat.result.0 (edge_at plane) (stops_at plane c.all_ends.result) n) c.in-Ok-prepared.is c.prepare-seat.ensures.prepared in
    let come : MayCome c.args.nodes.now c.prepare-seat.result.0 plane c.args.place [] c.in-Ok-prepared.prepared.into = record {
      plane_is = c.requires.plane;
      short = omega arith;
      as_many = prepared.as_many;
      edges = prepared.edges;
      may = place_rounds plane c.args.place (length c.in-Ok-prepared.prepared.into) prepared.as_many arrivals may (arrivals_may plane c.args.place may c.requires.may) Accepted (inl refl);
    } in
    subst (λ (s : SeatView). MayCome c.args.nodes.now s plane c.args.place [] c.in-Ok-prepared.prepared.into) (sym c.new-work.ensures) come

pub propagate-work-requires-clause-positions : goal.propagate-work-requires-clause-positions
propagate-work-requires-clause-positions g c κs within =
    let plane = c.args.plane.now in
    let n = length (positions plane.network) in
    let prepared : IsPrepared c.prepare-seat.result.0 (edge_at plane) (stops_at plane c.all_ends.result) n c.in-Ok-prepared.prepared =
    IfOk-at_ok (IsPrepared c.prepare-seat.result.0 (edge_at plane) (stops_at plane c.all_ends.result) n) c.in-Ok-prepared.is c.prepare-seat.ensures.prepared in
    let many = prepared.as_many in
    let few = few_positions plane.network c.requires.plane.lawful in
    omega arith

pub both_ended-made-requires-clause-arriving : goal.both_ended-made-requires-clause-arriving
both_ended-made-requires-clause-arriving g c =
    let plane = c.args.plane.now in
    let n = length (positions plane.network) in
    let prepared : IsPrepared c.prepare-seat.result.0 (edge_at plane) (stops_at plane c.all_ends.result) n c.in-Ok-prepared.prepared =
    IfOk-at_ok (IsPrepared c.prepare-seat.result.0 (edge_at plane) (stops_at plane c.all_ends.result) n) c.in-Ok-prepared.is c.prepare-seat.ensures.prepared in
    let keeps : Keeps c.prepare-seat.result.0 c.propagate-work.result.0 = subst (λ (s : SeatView). Keeps s c.propagate-work.result.0) c.new-work.ensures c.propagate-work.ensures.keeps in
    subst (λ es. KnowsFlows c.propagate-work.result.0 (flows_of (is_among arrivals) es) (real_endings (ends_at plane arrivals) n)) (sym c.as_slice.ensures)
    (ended_so plane c.prepare-seat.result.0 c.propagate-work.result.0 keeps c.all_ends.result c.all_ends.ensures n c.in-Ok-prepared.prepared prepared arrivals)

pub both_ended-made-requires-clause-failing : goal.both_ended-made-requires-clause-failing
both_ended-made-requires-clause-failing g c =
    let plane = c.args.plane.now in
    let n = length (positions plane.network) in
    let prepared : IsPrepared c.prepare-seat.result.0 (edge_at plane) (stops_at plane c.all_ends.result) n c.in-Ok-prepared.prepared =
    IfOk-at_ok (IsPrepared c.prepare-seat.result.0 (edge_at plane) (stops_at plane c.all_ends.result) n) c.in-Ok-prepared.is c.prepare-seat.ensures.prepared in
    let keeps : Keeps c.prepare-seat.result.0 c.propagate-work.result.0 = subst (λ (s : SeatView). Keeps s c.propagate-work.result.0) c.new-work.ensures c.propagate-work.ensures.keeps in
    subst (λ es. KnowsFlows c.propagate-work.result.0 (flows_of (is_among failures) es) (real_endings (ends_at plane failures) n)) (sym c.as_slice.ensures)
    (ended_so plane c.prepare-seat.result.0 c.propagate-work.result.0 keeps c.all_ends.result c.all_ends.ensures n c.in-Ok-prepared.prepared prepared failures)
