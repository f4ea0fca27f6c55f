use Rattle.std.proofs.Common.{refl}
use Rattle.rc_report.specs.IdleText.{routers_text}
use Rattle.rc_answers.proofs.PutLaws.{lacking_for_lists, lists_put}
use Rattle.rc_answers.proofs.answering.answer_lists.Goals as goal

pub returns-in-Ok-clause-put : goal.returns-in-Ok-clause-put
returns-in-Ok-clause-put g c = lists_put c.args.request.now c.args.network c.args.router c.in-Ok.routers c.in-Ok.ensures.told (c.write.ensures.put (routers_text c.in-Ok.routers) refl)

pub returns-clause-put : goal.returns-clause-put
returns-clause-put g c = lacking_for_lists c.args.request.now c.args.network c.args.router c.in-Err.error c.lacking.ensures c.in-Err.ensures.full
