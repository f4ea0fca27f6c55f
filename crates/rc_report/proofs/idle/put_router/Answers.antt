use Rattle.std.proofs.Common.{flat_map}
use Rattle.rc_outside.proofs.PutLaws.{put_then, put_stopped}
use Rattle.rc_report.specs.IdleText.{list_text, router_text}
use Rattle.rc_report.proofs.idle.put_router.Goals as goal

pub returns : goal.returns
unfolding router_text
returns g c = rw (← c.as_bytes.ensures.text, ← c.as_slice.ensures) (put_then c.in_ok-put_router_line.ensures c.put_lists.ensures)

pub returns-in_err-put_router_line : goal.returns-in_err-put_router_line
unfolding router_text
returns-in_err-put_router_line g c = rw (← c.as_bytes.ensures.text) (put_stopped (flat_map list_text c.args.router.now.lists) c.from_residual.ensures.0 c.in_err-put_router_line.ensures)
