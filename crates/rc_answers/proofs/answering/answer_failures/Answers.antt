use Rattle.std.proofs.Common.{refl}
use Rattle.rc_report.specs.FailureText.{failures_text}
use Rattle.rc_answers.proofs.PutLaws.{failures_put}
use Rattle.rc_answers.proofs.answering.answer_failures.Goals as goal

pub returns-clause-put : goal.returns-clause-put
returns-clause-put g c = failures_put c.args.request.now c.args.net.now c.args.end c.args.rows (c.write_ended.ensures.put (failures_text c.args.net.now c.args.rows) refl)
