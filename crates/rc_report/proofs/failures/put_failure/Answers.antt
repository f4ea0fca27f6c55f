use Rattle.std.proofs.Common.{◌++◌, ◌∙◌, append-nil, flat_map, subst}
use Rattle.rc_outside.specs.Put.{IsPut}
use Rattle.rc_report.specs.FailureText.{arrival_text, failure_line}
use Rattle.rc_report.specs.OutcomeText.{end_text}
use Rattle.rc_report.specs.Parts.{part_text}
use Rattle.rc_report.proofs.failures.put_failure.Goals as goal

pub returns : goal.returns
unfolding failure_line
returns g c =
    let row = c.args.row.now in
    let before = flat_map part_text c.without_parts-before.result ++ end_text row.end in
    let arrival = append-nil c.arrival_text-arrival.result.now ∙ c.arrival_text-arrival.ensures in
    subst (λ t. IsPut g.S.Sink c.args.out.now c.put_around.new.out c.put_around.result ((t ++ end_text row.end) ++ arrival_text row.end row.arrives)) c.without_parts-before.ensures
    (subst (λ t. IsPut g.S.Sink c.args.out.now c.put_around.new.out c.put_around.result (before ++ t)) arrival c.put_around.ensures)
