use Rattle.std.proofs.Common.{◌++◌, codes, subst}
use Rattle.rc_outside.specs.Put.{IsPut}
use Rattle.rc_outside.proofs.PutLaws.{hand_ended, line_stopped}
use Rattle.rc_report.specs.IdleText.{by_text, idle_head, idle_line}
use Rattle.rc_report.proofs.idle.put_idle_line.Goals as goal

pub returns : goal.returns
unfolding idle_line
returns g c =
    let text = idle_head c.args.filter.now c.args.idle.now.sequence ++ by_text c.args.idle.now.by in
    subst (λ begun. IsPut g.S.Sink c.args.out.now c.close_line.new.out c.close_line.result ((begun ++ text) ++ codes "\n")) c.clear.ensures (hand_ended (codes "\n") c.in_ok-put_open_idle.ensures c.close_line.ensures)

pub returns-in_err-put_open_idle : goal.returns-in_err-put_open_idle
unfolding idle_line
returns-in_err-put_open_idle g c =
    let text = idle_head c.args.filter.now c.args.idle.now.sequence ++ by_text c.args.idle.now.by in
    subst (λ begun. IsPut g.S.Sink c.args.out.now c.put_open_idle.new.out c.from_residual.result ((begun ++ text) ++ codes "\n")) c.clear.ensures (line_stopped (codes "\n") c.from_residual.ensures.0 c.in_err-put_open_idle.ensures)
