use Rattle.std.proofs.Common.{rules, ◌≡◌, ◌+◌, All, false, length, slice_index_or, sym, subst, arith}
use Rattle.std.proofs.lemmas.Result.{IfOk-weaker}
use Rattle.rc_edges.specs.Prepare.{edge_at}
use Rattle.rc_jobs.specs.declared.flow.Flow.{Flow}
use Rattle.rc_nodes.specs.Seats.{SeatKnows}
use Rattle.rc_jobs.specs.Flows.{no_header}
use Rattle.rc_spread.specs.Onward.{onward}
use Rattle.rc_spread.proofs.GoingLaws.{flows_within, goes_on_next, may_onward, onward_sent, stays_as_it_is}
use Rattle.rc_spread.proofs.Rounding.{known_at}
use Rattle.rc_reach.proofs.going_on.GoingOnSpread.next_set.Goals as goal

pub are_settled-requires : goal.are_settled-requires
are_settled-requires g c =
    let rows : c.as_slice-flows.result.now ≡ slice_index_or c.args.self.now.out.now c.args.q c.as_slice-flows.result.now = search rules in
    flows_within c.requires.seat c.requires.ready c.requires.after c.args.q c.requires.position c.as_slice-flows.result.now rows c.requires.after.marks

pub returns-then-are_settled-clause-made : goal.returns-then-are_settled-clause-made
returns-then-are_settled-clause-made g c =
    let going = c.args.self.now in
    let n = length going.out.now in
    let rows : c.as_slice-flows.result.now ≡ slice_index_or going.out.now c.args.q c.as_slice-flows.result.now = search rules in
    let quiet : All (λ (f : Flow). slice_index_or c.args.fresh.now f.from false ≡ false) c.as_slice-flows.result.now = c.are_settled.ensures c.if-are_settled.true in
    let same = stays_as_it_is c.requires.seat c.requires.ready c.requires.after c.args.q c.requires.position c.as_slice-flows.result.now rows c.if-number-gt0.true quiet in
    let many = c.requires.after.as_many in
    let here : SeatKnows c.args.work.now (slice_index_or c.args.sets.now c.args.q no_header).index (onward (edge_at going.plane.now) n c.args.number c.args.q) = known_at c.args.work.now c.args.sets.now (onward (edge_at going.plane.now) n c.args.number) c.requires.after.known c.args.q no_header (let low = c.requires.position in omega arith) in
    subst (SeatKnows c.args.work.now (slice_index_or c.args.sets.now c.args.q no_header).index) (sym same) here

pub gathered_set-requires-clause-may : goal.gathered_set-requires-clause-may
gathered_set-requires-clause-may g c =
    let rows : c.as_slice-flows.result.now ≡ slice_index_or c.args.self.now.out.now c.args.q c.as_slice-flows.result.now = search rules in
    may_onward c.requires.seat c.requires.ready c.requires.after c.args.q c.requires.position c.requires.round c.as_slice-flows.result.now rows

pub returns-clause-made : goal.returns-clause-made
returns-clause-made g c =
    let going = c.args.self.now in
    let n = length going.out.now in
    let rows : c.as_slice-flows.result.now ≡ slice_index_or going.out.now c.args.q c.as_slice-flows.result.now = search rules in
    let sent = onward_sent c.requires.seat c.requires.ready c.requires.after c.args.q c.requires.position c.as_slice-flows.result.now rows in
    let next = goes_on_next c.requires.seat c.requires.ready c.requires.after c.args.q c.requires.position in
    IfOk-weaker c.gathered_set.result _ (λ r. SeatKnows c.gathered_set.new.work r.index (onward (edge_at going.plane.now) n (c.args.number + 1) c.args.q))
    (λ r h. subst (SeatKnows c.gathered_set.new.work r.index) next (h _ _ _ sent)) c.gathered_set.ensures.made
