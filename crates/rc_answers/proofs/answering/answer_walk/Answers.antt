use Rattle.std.proofs.Common.{refl}
use Rattle.rc_report.specs.WalkText.{walk_text}
use Rattle.rc_answers.proofs.PutLaws.{put_at_fixed}
use Rattle.rc_answers.specs.Given.{walk_of}
use Rattle.rc_answers.specs.declared.subject.Subject.TheVariants.{Packet}
use Rattle.rc_answers.proofs.answering.answer_walk.Goals as goal

pub returns-clause-put : goal.returns-clause-put
returns-clause-put g c =
    let walk = c.in-Ok.walk in
    put_at_fixed c.args.request.now c.args.net.now c.args.end c.args.state (Packet c.args.position c.args.header.now) (walk_of walk) (walk, c.in-Ok.ensures, refl) (c.write_ended.ensures.put (walk_text c.args.net.now walk) refl)
