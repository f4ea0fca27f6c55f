use Rattle.std.proofs.Common.{arith}
use Rattle.rc_outside.proofs.PutLaws.{each_put, each_stopped}
use Rattle.rc_report.specs.IdleText.{list_text}
use Rattle.rc_report.proofs.idle.put_lists.Goals as goal

pub returns-in_err-put_list : goal.returns-in_err-put_list
returns-in_err-put_list g c = each_stopped list_text c.args.lists.now c.loop-list.list-index c.list-item.result c.from_residual.ensures.0 (omega arith) c.list-item.is c.loop-list.invariant c.in_err-put_list.ensures

pub loop-list-preserved : goal.loop-list-preserved
loop-list-preserved g c = each_put list_text c.args.lists.now c.loop-list.list-index c.list-item.result (omega arith) c.list-item.is c.loop-list.invariant c.in_ok-put_list.ensures
