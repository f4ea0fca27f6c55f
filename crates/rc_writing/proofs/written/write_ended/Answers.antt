use Rattle.std.proofs.Common.{refl, subst, ◌++◌}
use Rattle.rc_report.specs.OutcomeText.{outcome_line}
use Rattle.rc_writing.specs.Texts.{head_text}
use Rattle.rc_writing.specs.Written.{IsWrittenOrMemory}
use Rattle.rc_writing.proofs.written.write_ended.Goals as goal

pub returns-clause-put : goal.returns-clause-put
returns-clause-put g c text says =
    let head = head_text c.args.source.now in
    let line = outcome_line c.args.end in
    subst (λ s. IsWrittenOrMemory s ((head ++ line) ++ text) c.write.result (g.S.Sink.told c.args.out.now) (g.S.Sink.told c.write.new.out)) c.status_after.ensures.status
    (c.write.ensures.put ((head ++ line) ++ text) (head ++ line, text, (head, line, refl, refl, refl), says, refl))
