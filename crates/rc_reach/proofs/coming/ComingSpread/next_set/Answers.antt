use Rattle.std.proofs.Common.{rules, ◌≡◌, ◌+◌, All, false, slice_index_or, sym, subst, arith}
use Rattle.std.proofs.lemmas.Result.{IfOk-weaker}
use Rattle.rc_edges.specs.Prepare.{edge_at}
use Rattle.rc_nodes.specs.Seats.{SeatKnows}
use Rattle.rc_jobs.specs.Flows.{no_header}
use Rattle.rc_jobs.specs.declared.flow.Flow.{Flow}
use Rattle.rc_reach.specs.Rounds.{reached_at, reached_in}
use Rattle.rc_spread.proofs.ComingLaws.{are_sent, comes_next, flows_from, may_gather, stays_as_it_is}
use Rattle.rc_spread.proofs.Rounding.{known_at}
use Rattle.rc_reach.proofs.JoinLaws.{place_next}
use Rattle.rc_reach.proofs.SectorJoins.{sets_reduced, edge_reduced}
use Rattle.rc_reach.proofs.coming.ComingSpread.next_set.Goals as goal

pub are_settled-requires : goal.are_settled-requires
are_settled-requires g c =
    let coming = c.args.self.now in
    let ready = c.requires.ready in
    let plane = coming.plane.now in
    let rows : c.as_slice-flows.result.now ≡ slice_index_or coming.into.now c.args.q c.as_slice-flows.result.now = search rules in
    flows_from coming.sector.now ready.short coming.into.now (edge_at plane) (reached_at plane coming.place) (place_next plane coming.place _ ready.as_many) (sets_reduced plane ready.plane_is coming.place) (edge_reduced plane ready.plane_is)
    c.args.q c.requires.position ready.edges c.requires.after c.as_slice-flows.result.now rows

pub returns-then-are_settled-clause-made : goal.returns-then-are_settled-clause-made
returns-then-are_settled-clause-made g c =
    let coming = c.args.self.now in
    let ready = c.requires.ready in
    let plane = coming.plane.now in
    let sets = reached_in plane coming.place coming.sector.now in
    let rows : c.as_slice-flows.result.now ≡ slice_index_or coming.into.now c.args.q c.as_slice-flows.result.now = search rules in
    let quiet : All (λ (f : Flow). slice_index_or c.args.fresh.now f.from false ≡ false) c.as_slice-flows.result.now = c.are_settled.ensures c.if-are_settled.true in
    let same = stays_as_it_is coming.sector.now ready.short coming.into.now (edge_at plane) (reached_at plane coming.place) (place_next plane coming.place _ ready.as_many) (sets_reduced plane ready.plane_is coming.place) (edge_reduced plane ready.plane_is)
    c.args.q c.requires.position ready.edges c.requires.after c.as_slice-flows.result.now rows quiet in
    let many = c.requires.after.as_many in
    let here : SeatKnows c.args.work.now (slice_index_or c.args.sets.now c.args.q no_header).index (sets c.args.number c.args.q) = known_at c.args.work.now c.args.sets.now (sets c.args.number) c.requires.after.known c.args.q no_header (let low = c.requires.position in omega arith) in
    subst (SeatKnows c.args.work.now (slice_index_or c.args.sets.now c.args.q no_header).index) (sym same) here

pub gathered_set-requires-clause-may : goal.gathered_set-requires-clause-may
gathered_set-requires-clause-may g c =
    let coming = c.args.self.now in
    let ready = c.requires.ready in
    let plane = coming.plane.now in
    let rows : c.as_slice-flows.result.now ≡ slice_index_or coming.into.now c.args.q c.as_slice-flows.result.now = search rules in
    may_gather coming.sector.now ready.short coming.into.now (edge_at plane) (reached_at plane coming.place) (place_next plane coming.place _ ready.as_many) (sets_reduced plane ready.plane_is coming.place) (edge_reduced plane ready.plane_is)
    c.args.q c.requires.position ready.edges c.requires.after c.args.nodes.now (ready.may c.args.number c.args.q c.requires.round c.requires.position) c.as_slice-flows.result.now no_header rows

pub gathered_set-requires-clause-short : goal.gathered_set-requires-clause-short
gathered_set-requires-clause-short g c = c.requires.ready.short

pub returns-clause-made : goal.returns-clause-made
returns-clause-made g c =
    let coming = c.args.self.now in
    let ready = c.requires.ready in
    let plane = coming.plane.now in
    let rows : c.as_slice-flows.result.now ≡ slice_index_or coming.into.now c.args.q c.as_slice-flows.result.now = search rules in
    let round = place_next plane coming.place _ ready.as_many in
    let sets = sets_reduced plane ready.plane_is coming.place in
    let edges = edge_reduced plane ready.plane_is in
    let sent = are_sent coming.sector.now ready.short coming.into.now (edge_at plane) (reached_at plane coming.place) round sets edges c.args.q c.requires.position ready.edges c.requires.after c.as_slice-flows.result.now no_header rows in
    let next = comes_next coming.sector.now ready.short coming.into.now (edge_at plane) (reached_at plane coming.place) round sets edges c.args.q c.requires.position ready.edges c.requires.after in
    IfOk-weaker c.gathered_set.result _ (λ r. SeatKnows c.gathered_set.new.work r.index (reached_in plane coming.place coming.sector.now (c.args.number + 1) c.args.q))
    (λ r h. subst (SeatKnows c.gathered_set.new.work r.index) next (h _ _ _ sent)) c.gathered_set.ensures.made
