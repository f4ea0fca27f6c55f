use Rattle.rc_outside.proofs.PutLaws.{put_then, put_stopped}
use Rattle.rc_report.specs.WalkText.{stop_line, walk_text}
use Rattle.rc_report.proofs.walks.put_walk.Goals as goal

pub returns : goal.returns
unfolding walk_text
returns g c = rw (← c.as_slice.ensures) (put_then c.in_ok-put_positions.ensures c.put_stop.ensures)

pub returns-in_err-put_positions : goal.returns-in_err-put_positions
unfolding walk_text
returns-in_err-put_positions g c = rw (← c.as_slice.ensures) (put_stopped (stop_line c.args.walk.now.stop) c.from_residual.ensures.0 c.in_err-put_positions.ensures)
