use Rattle.std.proofs.Common.{subst, sym}
use Rattle.rc_outside.specs.Put.{IsPut}
use Rattle.rc_outside.proofs.PutLaws.{put_then}
use Rattle.rc_report.specs.declared.put.SinkFault.{SinkFault}
use Rattle.rc_report.proofs.puts.ThenPuts.put.Goals as goal

pub returns-clause-text : goal.returns-clause-text
returns-clause-text g c text (x, y, says_x, says_y, is) =
    subst (IsPut g.S.Sink {E = SinkFault} c.args.out.now c.put-2.new.out c.put-2.result) (sym is) (put_then (c.in_ok-put.ensures.text x says_x) (c.put-2.ensures.text y says_y))
