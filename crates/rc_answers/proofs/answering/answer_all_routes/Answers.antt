use Rattle.std.proofs.Common.{refl}
use Rattle.rc_report.specs.StateText.{all_routes}
use Rattle.rc_answers.proofs.PutLaws.{put_at_fixed}
use Rattle.rc_answers.specs.Given.{routes_of_all}
use Rattle.rc_answers.specs.declared.subject.Subject.TheVariants.{AllRouters}
use Rattle.rc_answers.proofs.answering.answer_all_routes.Goals as goal

pub returns-clause-put : goal.returns-clause-put
returns-clause-put g c =
    put_at_fixed c.args.request.now c.args.net.now c.args.end c.args.state.now AllRouters (routes_of_all c.args.state.now) refl (c.write_ended.ensures.put (all_routes c.args.net.now c.args.state.now) refl)
