use Rattle.std.proofs.Common.{Ok, ◌-◌, ◌++◌, length, subst}
use Rattle.rc_outside.specs.Put.{IsPutByHand}
use Rattle.rc_outside.proofs.PutLaws.{hand_piece, hand_any}
use Rattle.rc_report.specs.declared.put.SinkFault.{SinkFault}
use Rattle.rc_report.proofs.LineLaws.{filled_again}
use Rattle.rc_report.proofs.put.put_pieces.Goals as goal

pub returns-in_err-end_line : goal.returns-in_err-end_line
returns-in_err-end_line g c = hand_any _ c.from_residual.ensures.0 (hand_piece c.loop-rest.line c.loop-rest.rest.now c.loop-rest.invariant c.in_err-end_line.ensures.put)

pub loop-rest-preserved : goal.loop-rest-preserved
loop-rest-preserved g c =
    let filled = c.fill-rest-in-loop-rest in
    let again = filled_again (512 - length c.end_line.new.line) c.end_line.new.line c.loop-rest.rest.now filled.new.self filled.result.now c.end_line.ensures.empty filled.ensures.taken filled.ensures.rest in
    subst (λ t. IsPutByHand g.S.Sink {E = SinkFault} c.args.out.now c.end_line.new.out (Ok tt) (c.args.line.now ++ c.args.bytes.now) t) again (hand_piece c.loop-rest.line c.loop-rest.rest.now c.loop-rest.invariant c.in_ok-end_line.ensures.put)
