use Rattle.rc_answers.proofs.PutLaws.{prepared_put}
use Rattle.rc_answers.proofs.answering.answer_prepared.Goals as goal

pub returns-clause-put : goal.returns-clause-put
returns-clause-put g c = λ state are. prepared_put c.args.request.now c.args.net.now c.args.round state c.args.tables c.args.packets.now are c.answer_over_tables.ensures.put
