use Rattle.std.proofs.Common.{◌++◌, flat_map, subst}
use Rattle.rc_outside.specs.Put.{IsPut}
use Rattle.rc_outside.proofs.PutLaws.{hand_ended, line_stopped}
use Rattle.rc_report.specs.OutcomeText.{end_text}
use Rattle.rc_report.specs.Parts.{part_text}
use Rattle.rc_report.proofs.outcomes.put_around.Goals as goal

pub returns : goal.returns
returns g c =
    let text = flat_map part_text c.args.before.now ++ end_text c.args.end in
    let behind = flat_map part_text c.args.behind.now in
    subst (λ begun. IsPut g.S.Sink c.args.out.now c.end_with.new.out c.end_with.result ((begun ++ text) ++ behind)) c.clear.ensures (hand_ended behind c.in_ok-put_up_to.ensures c.end_with.ensures)

pub returns-in_err-put_up_to : goal.returns-in_err-put_up_to
returns-in_err-put_up_to g c =
    let text = flat_map part_text c.args.before.now ++ end_text c.args.end in
    let behind = flat_map part_text c.args.behind.now in
    subst (λ begun. IsPut g.S.Sink c.args.out.now c.put_up_to.new.out c.from_residual.result ((begun ++ text) ++ behind)) c.clear.ensures (line_stopped behind c.from_residual.ensures.0 c.in_err-put_up_to.ensures)
