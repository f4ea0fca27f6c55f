use Rattle.std.proofs.Common.{refl, []}
use Rattle.rc_answers.proofs.PutLaws.{fixed_put, repeats_put, limit_put}
use Rattle.rc_answers.proofs.answering.answer_ended.Goals as goal

pub returns-in-Fixed-clause-put : goal.returns-in-Fixed-clause-put
returns-in-Fixed-clause-put g c = fixed_put c.args.request.now c.args.net.now c.args.outcome c.end-end.result c.args.subject.now c.in-Fixed.is c.end-end.ensures c.answer_fixed.ensures.put

pub returns-in-Repeats-clause-put : goal.returns-in-Repeats-clause-put
returns-in-Repeats-clause-put g c = repeats_put c.args.request.now c.args.net.now c.args.outcome c.end-end.result c.args.subject.now c.in-Repeats.is c.end-end.ensures (c.write_ended.ensures.put [] refl)

pub returns-in-Limit-clause-put : goal.returns-in-Limit-clause-put
returns-in-Limit-clause-put g c = limit_put c.args.request.now c.args.net.now c.args.outcome c.end-end.result c.args.subject.now c.in-Limit.is c.end-end.ensures (c.write_ended-in-Limit.ensures.put [] refl)
