use Rattle.std.proofs.Common.{ap, length, subst, sym, ◌∙◌, List}
use Rattle.rc_base.specs.Positions.{is_among}
use Rattle.rc_edges.specs.Prepare.{edge_at}
use Rattle.rc_jobs.specs.Flows.{flows_of}
use Rattle.rc_jobs.specs.declared.flow.Flow.{Flow}
use Rattle.rc_reach.specs.Kept.{sectors_kept}
use Rattle.rc_reach.proofs.SectoredLaws.{may_reach}
use Rattle.rc_spread.specs.Turned.{AreOut, AreWithin}
use Rattle.rc_spread.proofs.TurnLaws.{are_within}
use Rattle.rc_reach.proofs.by_sectors.reach_by_sectors.Goals as goal

pub flows_out-requires : goal.flows_out-requires
flows_out-requires g c = subst AreWithin (sym c.as_slice-2.ensures) (are_within c.args.seat c.args.prepared.now.into (edge_at c.args.plane.now) c.requires.prepared.edges)

pub answers-seat-requires-clause-ready : goal.answers-seat-requires-clause-ready
answers-seat-requires-clause-ready g c κs within =
    let into = c.as_slice-3.result.now in
    let out : AreOut into (length into) c.as_slice-4.result.now =
    subst (AreOut into (length into)) (sym c.as_slice-4.ensures.value)
    (subst (λ (xs : List (List Flow)). AreOut xs (length xs) c.in-Ok-flows_out.out.items) (c.as_slice-2.ensures ∙ sym c.as_slice-3.ensures) c.in-Ok-flows_out.ensures) in
    let flows = c.as_slice-5.ensures.value ∙ c.in-Ok.ensures ∙ ap (flows_of (is_among c.args.ends)) c.as_slice.ensures in
    may_reach c.args.plane.now c.requires.plane c.args.place c.requires.place c.args.number c.requires.number c.args.ends c.requires.asking c.args.nodes.now c.args.seat c.args.prepared.now c.requires.prepared c.requires.may
    into c.as_slice-3.ensures c.as_slice-4.result.now out c.as_slice-5.result.now flows c.args.sectors.now c.requires.cut

pub put_together-requires-clause-ready : goal.put_together-requires-clause-ready
put_together-requires-clause-ready g c =
    let into = c.as_slice-3.result.now in
    let out : AreOut into (length into) c.as_slice-4.result.now =
    subst (AreOut into (length into)) (sym c.as_slice-4.ensures.value)
    (subst (λ (xs : List (List Flow)). AreOut xs (length xs) c.in-Ok-flows_out.out.items) (c.as_slice-2.ensures ∙ sym c.as_slice-3.ensures) c.in-Ok-flows_out.ensures) in
    let flows = c.as_slice-5.ensures.value ∙ c.in-Ok.ensures ∙ ap (flows_of (is_among c.args.ends)) c.as_slice.ensures in
    sectors_kept c.args.seat c.answers-seat.result.0 c.answers-seat.ensures.keeps
    (may_reach c.args.plane.now c.requires.plane c.args.place c.requires.place c.args.number c.requires.number c.args.ends c.requires.asking c.args.nodes.now c.args.seat c.args.prepared.now c.requires.prepared c.requires.may
    into c.as_slice-3.ensures c.as_slice-4.result.now out c.as_slice-5.result.now flows c.args.sectors.now c.requires.cut)
