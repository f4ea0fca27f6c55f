use Rattle.rc_analyse.specs.Answer.{files_asked}
use Rattle.rc_analyse.proofs.AnswerLaws.{answered_for, complete_where_told, never_source_for}
use Rattle.rc_analyse.proofs.answering.answer_folder.Goals as goal

pub returns-in-Ok-clause-answer : goal.returns-in-Ok-clause-answer
returns-in-Ok-clause-answer g c =
    let told = files_asked c.args.request.now.source (g.F.Folder.told c.args.folder.now) in
    answered_for told c.args.request.now c.in-Ok.found c.answer_found.result (g.S.Sink.told c.args.out.now) (g.S.Sink.told c.answer_found.new.out) c.in-Ok.ensures.findings c.answer_found.ensures.put

pub returns-in-Ok-clause-complete : goal.returns-in-Ok-clause-complete
returns-in-Ok-clause-complete g c =
    let told = files_asked c.args.request.now.source (g.F.Folder.told c.args.folder.now) in
    complete_where_told told c.args.request.now c.answer_found.result (g.S.Sink.told c.args.out.now) (g.S.Sink.told c.answer_found.new.out)
    (answered_for told c.args.request.now c.in-Ok.found c.answer_found.result (g.S.Sink.told c.args.out.now) (g.S.Sink.told c.answer_found.new.out) c.in-Ok.ensures.findings c.answer_found.ensures.put)
    (λ e. absurd (never_source_for told c.args.request.now c.in-Ok.found c.in-Ok.ensures.findings c.answer_found.ensures.put e))
    c.answer_found.ensures.sink_only
