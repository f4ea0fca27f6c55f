use Rattle.rc_answers.proofs.PutLaws.{asked_put}
use Rattle.rc_answers.proofs.answering.answer_fixed.Goals as goal

pub returns-in-OneRouter-clause-put : goal.returns-in-OneRouter-clause-put
returns-in-OneRouter-clause-put g c = asked_put c.args.request.now c.args.net.now c.args.end c.args.state c.args.subject.now _ c.in-OneRouter.is c.answer_routes_of-status.ensures.put
