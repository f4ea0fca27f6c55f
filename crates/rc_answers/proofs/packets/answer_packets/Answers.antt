use Rattle.rc_answers.proofs.PutLaws.{packets_put}
use Rattle.rc_answers.proofs.packets.answer_packets.Goals as goal

pub returns-clause-put : goal.returns-clause-put
returns-clause-put g c =
    packets_put c.args.request.now c.args.net.now c.args.end c.args.state c.in-Ok.tables c.args.packets.now c.in-Ok.ensures c.answer_over_tables-status.ensures.put
