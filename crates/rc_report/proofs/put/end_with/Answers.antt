use Rattle.rc_outside.proofs.PutLaws.{hand_put}
use Rattle.rc_report.proofs.put.end_with.Goals as goal

pub returns : goal.returns
returns g c = hand_put c.in_ok-put_parts.ensures c.end_line.ensures.put
