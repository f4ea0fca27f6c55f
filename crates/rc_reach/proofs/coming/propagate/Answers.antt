use Rattle.std.proofs.Common.{rules, ap, length, ◌≡◌, ◌∙◌, sym, subst, List, []}
use Rattle.rc_jobs.specs.Flows.{KnowsEdges}
use Rattle.rc_jobs.specs.declared.flow.Flow.{Flow}
use Rattle.rc_config.specs.Members.{positions}
use Rattle.rc_edges.specs.Prepare.{edge_at}
use Rattle.rc_reach.specs.Rounds.{reached_at}
use Rattle.rc_spread.proofs.ComingLaws.{first_after}
use Rattle.rc_reach.proofs.JoinLaws.{place_next}
use Rattle.rc_reach.proofs.PlaceJoins.{place_first}
use Rattle.rc_reach.proofs.SectorJoins.{rest_in, stay_within}
use Rattle.rc_spread.specs.Turned.{AreOut, AreWithin}
use Rattle.rc_spread.proofs.TurnLaws.{are_within}
use Rattle.rc_spread.proofs.StillLaws.{gathered_still}
use Rattle.rc_reach.proofs.coming.propagate.Goals as goal

pub rounds_by_flows-requires-clause-first : goal.rounds_by_flows-requires-clause-first
rounds_by_flows-requires-clause-first g c κs within =
    let plane = c.args.plane.now in
    let place = c.args.place.now in
    let into = c.as_slice-into.result.now in
    let many : length into ≡ length (positions plane.network) = ap length c.as_slice-into.ensures ∙ c.requires.may.as_many in
    first_after c.args.work c.in-Ok.sets.items c.in-Ok-first_fresh.fresh.items (reached_at plane place) (length into) c.args.number
    (place_first plane place c.requires.place c.args.number (length into) c.requires.number many) (search rules) (search rules)

pub rounds_by_flows-requires-clause-still : goal.rounds_by_flows-requires-clause-still
rounds_by_flows-requires-clause-still g c κs within =
    let plane = c.args.plane.now in
    let place = c.args.place.now in
    let into = c.as_slice-into.result.now in
    let many : length into ≡ length (positions plane.network) = ap length c.as_slice-into.ensures ∙ c.requires.may.as_many in
    gathered_still (edge_at plane) (length into) (reached_at plane place) (place_next plane place (length into) many)

pub flows_out-requires : goal.flows_out-requires
flows_out-requires g c = subst AreWithin (sym c.as_slice-into.ensures) (are_within c.args.work c.args.prepared.now.into (edge_at c.args.plane.now) c.requires.may.edges)

pub rounds_by_flows-requires-clause-within : goal.rounds_by_flows-requires-clause-within
rounds_by_flows-requires-clause-within g c κs within =
    let into = c.as_slice-into.result.now in
    let edges = subst (λ (xs : List (List Flow)). KnowsEdges c.args.work xs (edge_at c.args.plane.now)) (sym c.as_slice-into.ensures) c.requires.may.edges in
    let out : AreOut into (length into) c.as_slice.result.now = subst (AreOut into (length into)) (sym c.as_slice.ensures.value) c.in-Ok-flows_out.ensures in
    stay_within c.args.work into c.as_slice.result.now (edge_at c.args.plane.now) edges out

pub rounds_by_flows-requires-clause-rest : goal.rounds_by_flows-requires-clause-rest
rounds_by_flows-requires-clause-rest g c κs within =
    let may = c.requires.may in
    let into = c.as_slice-into.result.now in
    let edges = subst (λ (xs : List (List Flow)). KnowsEdges c.args.work xs (edge_at c.args.plane.now)) (sym c.as_slice-into.ensures) may.edges in
    let many : length into ≡ length (positions c.args.plane.now.network) = ap length c.as_slice-into.ensures ∙ may.as_many in
    let out : AreOut into (length into) c.as_slice.result.now = subst (AreOut into (length into)) (sym c.as_slice.ensures.value) c.in-Ok-flows_out.ensures in
    rest_in c.args.plane.now may.plane_is c.args.place.now [] may.short c.args.nodes.now c.args.work into c.as_slice.result.now many edges out
