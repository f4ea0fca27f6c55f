use Rattle.std.proofs.Common.{Ok, ◌≤◌, length, subst, arith}
use Rattle.std.proofs.lemmas.Bool.Decides.{nat_tests}
use Rattle.std.proofs.lemmas.Grind.{common_steps}
use Rattle.rc_outside.specs.Put.{IsPut}
use Rattle.rc_outside.proofs.PutLaws.{put_none}
use Rattle.rc_report.specs.declared.put.SinkFault.{SinkFault}
use Rattle.rc_report.proofs.StateLaws.{nothing_past}
use Rattle.rc_report.proofs.tables.put_routes_at.Goals as goal

pub returns-in-None : goal.returns-in-None
returns-in-None g c =
    let same = c.as_slice.ensures in
    let seen = c.in-None.ensures.lookup in
    let past : length c.as_slice.result.now ≤ c.args.index = grind (arith, common_steps, nat_tests) in
    subst (IsPut g.S.Sink {E = SinkFault} c.args.out.now c.args.out.now (Ok tt)) (nothing_past c.args.net.now c.args.state.now c.args.index (rw same at past)) (put_none c.args.out.now)
