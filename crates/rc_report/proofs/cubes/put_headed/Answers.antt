use Rattle.std.proofs.Common.{◌++◌, codes, subst}
use Rattle.rc_outside.specs.Put.{IsPut}
use Rattle.rc_outside.proofs.PutLaws.{hand_ended, line_stopped}
use Rattle.rc_report.specs.CubeText.{fields_text}
use Rattle.rc_report.proofs.cubes.put_headed.Goals as goal

pub returns : goal.returns
returns g c =
    let text = c.args.head.now ++ fields_text c.args.told.now in
    subst (λ begun. IsPut g.S.Sink c.args.out.now c.close_line.new.out c.close_line.result ((begun ++ text) ++ codes "\n")) c.clear.ensures (hand_ended (codes "\n") c.in_ok-put_open_line.ensures c.close_line.ensures)

pub returns-in_err-put_open_line : goal.returns-in_err-put_open_line
returns-in_err-put_open_line g c =
    let text = c.args.head.now ++ fields_text c.args.told.now in
    subst (λ begun. IsPut g.S.Sink c.args.out.now c.put_open_line.new.out c.from_residual.result ((begun ++ text) ++ codes "\n")) c.clear.ensures (line_stopped (codes "\n") c.from_residual.ensures.0 c.in_err-put_open_line.ensures)
