use Rattle.std.proofs.Common.{refl}
use Rattle.rc_report.specs.StateText.{routes_in}
use Rattle.rc_answers.proofs.PutLaws.{put_at_fixed}
use Rattle.rc_answers.specs.Given.{routes_of}
use Rattle.rc_answers.specs.declared.subject.Subject.TheVariants.{OneRouter}
use Rattle.rc_answers.proofs.answering.answer_routes_of.Goals as goal

pub returns-clause-put : goal.returns-clause-put
returns-clause-put g c =
    put_at_fixed c.args.request.now c.args.net.now c.args.end c.args.state.now (OneRouter c.args.router) (routes_of c.args.state.now c.args.router) refl
    (c.write_ended.ensures.put (routes_in c.args.net.now c.args.state.now c.args.router) refl)
