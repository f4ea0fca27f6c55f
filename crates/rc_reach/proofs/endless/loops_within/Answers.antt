use Rattle.std.proofs.Common.{rules, ◌≡◌, ◌<◌, length, slice_index_or, List, sym, subst, ap, ◌∙◌, arith}
use Rattle.std.proofs.lemmas.Result.{IfOk-at_ok}
use Rattle.rc_base.specs.declared.ending.Ends.{Ends}
use Rattle.rc_reach.specs.Loops.{looping}
use Rattle.rc_config.specs.Members.{positions}
use Rattle.rc_router_sets.specs.Planes.{IsPlane}
use Rattle.rc_edges.specs.Prepare.{MayPrepare, edge_at, stops_at}
use Rattle.rc_jobs.specs.Flows.{IsPrepared, KnowsEdges}
use Rattle.rc_jobs.specs.declared.flow.Flow.{Flow}
use Rattle.rc_nodes.specs.Seats.{SeatKnows}
use Rattle.rc_nodes.specs.declared.words.Ref.{Ref}
use Rattle.rc_places.proofs.PlaceLaws.{few_positions, number_there}
use Rattle.rc_places.specs.Places.{number_of}
use Rattle.rc_spread.specs.Known.{KnowsShare}
use Rattle.rc_trees.specs.Recipes.{tree}
use Rattle.rc_spread.specs.Onward.{MayGoOn, onward, turned}
use Rattle.rc_spread.specs.Turned.{AreOut, AreWithin}
use Rattle.rc_reach.proofs.OnwardJoins.{may_go_on, place_loops}
use Rattle.rc_spread.proofs.Rounding.{known_at}
use Rattle.rc_spread.proofs.TurnLaws.{are_within, knows_out}
use Rattle.rc_reach.proofs.UnevenLaws.{may_prepare_loops}
use Rattle.rc_reach.proofs.endless.loops_within.Goals as goal

pub prepare-seat-requires-clause-may : goal.prepare-seat-requires-clause-may
prepare-seat-requires-clause-may g c κs within =
    let plane = c.args.plane.now in
    let may = c.args.nodes.now.may in
    subst (λ (e : Ends). MayPrepare may plane e) (sym c.no_ends.ensures) (may_prepare_loops plane may c.requires.may)

pub flows_out-requires : goal.flows_out-requires
flows_out-requires g c =
    let plane = c.args.plane.now in
    let prepared : IsPrepared c.prepare-seat.result.0 (edge_at plane) (stops_at plane c.no_ends.result) (length (positions plane.network)) c.in-Ok-prepared.prepared =
    IfOk-at_ok (IsPrepared c.prepare-seat.result.0 (edge_at plane) (stops_at plane c.no_ends.result) (length (positions plane.network))) c.in-Ok-prepared.is c.prepare-seat.ensures.prepared in
    subst (λ (into : List (List Flow)). AreWithin into) (sym c.as_slice.ensures) (are_within c.prepare-seat.result.0 c.in-Ok-prepared.prepared.into (edge_at plane) prepared.edges)

pub goes_on-seat-requires-clause-edges : goal.goes_on-seat-requires-clause-edges
goes_on-seat-requires-clause-edges g c κs within =
    let plane = c.args.plane.now in
    let count = length (positions plane.network) in
    let into = c.in-Ok-prepared.prepared.into in
    let out = c.in-Ok-flows_out.out.items in
    let prepared : IsPrepared c.prepare-seat.result.0 (edge_at plane) (stops_at plane c.no_ends.result) count c.in-Ok-prepared.prepared =
    IfOk-at_ok (IsPrepared c.prepare-seat.result.0 (edge_at plane) (stops_at plane c.no_ends.result) count) c.in-Ok-prepared.is c.prepare-seat.ensures.prepared in
    let a : AreOut into (length into) out = subst (λ (xs : List (List Flow)). AreOut xs (length xs) out) c.as_slice.ensures c.in-Ok-flows_out.ensures in
    subst (λ (xs : List (List Flow)). KnowsEdges c.prepare-seat.result.0 xs (turned (edge_at plane))) (sym c.as_slice-2.ensures.value) (knows_out c.prepare-seat.result.0 into (edge_at plane) prepared.edges out a)

pub goes_on-seat-requires-clause-may : goal.goes_on-seat-requires-clause-may
goes_on-seat-requires-clause-may g c κs within =
    let plane = c.args.plane.now in
    let count = length (positions plane.network) in
    let into = c.in-Ok-prepared.prepared.into in
    let out = c.in-Ok-flows_out.out.items in
    let prepared : IsPrepared c.prepare-seat.result.0 (edge_at plane) (stops_at plane c.no_ends.result) count c.in-Ok-prepared.prepared =
    IfOk-at_ok (IsPrepared c.prepare-seat.result.0 (edge_at plane) (stops_at plane c.no_ends.result) count) c.in-Ok-prepared.is c.prepare-seat.ensures.prepared in
    let a : AreOut into (length into) out = subst (λ (xs : List (List Flow)). AreOut xs (length xs) out) c.as_slice.ensures c.in-Ok-flows_out.ensures in
    let long : length c.as_slice-2.result.now ≡ count = ap length c.as_slice-2.ensures.value ∙ a.as_many ∙ prepared.as_many in
    let ok : IsPlane plane = record { lawful = c.requires.lawful; links = c.requires.links; fibs = c.requires.fibs } in
    let may : MayGoOn c.args.nodes.now.may (edge_at plane) (length c.as_slice-2.result.now) = subst (MayGoOn c.args.nodes.now.may (edge_at plane)) (sym long) (may_go_on plane ok c.args.nodes.now.may c.requires.may) in
    may

pub goes_on-seat-requires-clause-positions : goal.goes_on-seat-requires-clause-positions
goes_on-seat-requires-clause-positions g c κs within =
    let plane = c.args.plane.now in
    let count = length (positions plane.network) in
    let into = c.in-Ok-prepared.prepared.into in
    let out = c.in-Ok-flows_out.out.items in
    let prepared : IsPrepared c.prepare-seat.result.0 (edge_at plane) (stops_at plane c.no_ends.result) count c.in-Ok-prepared.prepared =
    IfOk-at_ok (IsPrepared c.prepare-seat.result.0 (edge_at plane) (stops_at plane c.no_ends.result) count) c.in-Ok-prepared.is c.prepare-seat.ensures.prepared in
    let a : AreOut into (length into) out = subst (λ (xs : List (List Flow)). AreOut xs (length xs) out) c.as_slice.ensures c.in-Ok-flows_out.ensures in
    let long : length c.as_slice-2.result.now ≡ count = ap length c.as_slice-2.ensures.value ∙ a.as_many ∙ prepared.as_many in
    let few = few_positions plane.network c.requires.lawful in
    omega arith

pub index-requires : goal.index-requires
index-requires g c =
    let plane = c.args.plane.now in
    let count = length (positions plane.network) in
    let into = c.in-Ok-prepared.prepared.into in
    let out = c.in-Ok-flows_out.out.items in
    let prepared : IsPrepared c.prepare-seat.result.0 (edge_at plane) (stops_at plane c.no_ends.result) count c.in-Ok-prepared.prepared =
    IfOk-at_ok (IsPrepared c.prepare-seat.result.0 (edge_at plane) (stops_at plane c.no_ends.result) count) c.in-Ok-prepared.is c.prepare-seat.ensures.prepared in
    let a : AreOut into (length into) out = subst (λ (xs : List (List Flow)). AreOut xs (length xs) out) c.as_slice.ensures c.in-Ok-flows_out.ensures in
    let long : length c.as_slice-2.result.now ≡ count = ap length c.as_slice-2.ensures.value ∙ a.as_many ∙ prepared.as_many in
    let n = length c.as_slice-2.result.now in
    let share : KnowsShare c.goes_on-seat.result.0 c.in-Ok-sets.sets.items (onward (edge_at plane) n n) 0 n = IfOk-at_ok (λ v. KnowsShare c.goes_on-seat.result.0 v.items (onward (edge_at plane) n n) 0 n) c.in-Ok-sets.is c.goes_on-seat.ensures.made in
    let many = share.count in
    let place = (number_there plane.network c.args.place c.requires.place).0 in
    let number : c.number-number.result ≡ number_of plane.network c.args.place = search rules in
    omega (arith, c.in-Ok-sets.sets.ok.0)

pub returns-in-Ok-sets-clause-set : goal.returns-in-Ok-sets-clause-set
returns-in-Ok-sets-clause-set g c =
    let plane = c.args.plane.now in
    let count = length (positions plane.network) in
    let into = c.in-Ok-prepared.prepared.into in
    let out = c.in-Ok-flows_out.out.items in
    let prepared : IsPrepared c.prepare-seat.result.0 (edge_at plane) (stops_at plane c.no_ends.result) count c.in-Ok-prepared.prepared =
    IfOk-at_ok (IsPrepared c.prepare-seat.result.0 (edge_at plane) (stops_at plane c.no_ends.result) count) c.in-Ok-prepared.is c.prepare-seat.ensures.prepared in
    let a : AreOut into (length into) out = subst (λ (xs : List (List Flow)). AreOut xs (length xs) out) c.as_slice.ensures c.in-Ok-flows_out.ensures in
    let long : length c.as_slice-2.result.now ≡ count = ap length c.as_slice-2.ensures.value ∙ a.as_many ∙ prepared.as_many in
    let n = length c.as_slice-2.result.now in
    let seat = c.goes_on-seat.result.0 in
    let share : KnowsShare seat c.in-Ok-sets.sets.items (onward (edge_at plane) n n) 0 n = IfOk-at_ok (λ v. KnowsShare seat v.items (onward (edge_at plane) n n) 0 n) c.in-Ok-sets.is c.goes_on-seat.ensures.made in
    let many = share.count in
    let place = (number_there plane.network c.args.place c.requires.place).0 in
    let number : c.number-number.result ≡ number_of plane.network c.args.place = search rules in
    let low : c.number-number.result < length c.in-Ok-sets.sets.items = omega arith in
    let ok : IsPlane plane = record { lawful = c.requires.lawful; links = c.requires.links; fibs = c.requires.fibs } in
    let is : onward (edge_at plane) n n c.number-number.result ≡ tree (looping plane c.args.place) = ap (λ m. onward (edge_at plane) m m c.number-number.result) long ∙ place_loops plane ok c.args.place c.requires.place c.number-number.result number in
    let got : Ref = c.index.result.now in
    let there : got ≡ slice_index_or c.in-Ok-sets.sets.items c.number-number.result got = search rules in
    let known : SeatKnows seat got.index (onward (edge_at plane) n n c.number-number.result) = subst (λ (r : Ref). SeatKnows seat r.index (onward (edge_at plane) n n c.number-number.result)) (sym there) (known_at seat c.in-Ok-sets.sets.items (onward (edge_at plane) n n) share.each c.number-number.result got low) in
    subst (SeatKnows seat got.index) is known
