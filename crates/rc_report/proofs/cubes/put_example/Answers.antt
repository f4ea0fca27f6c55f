use Rattle.std.proofs.Common.{flat_map}
use Rattle.rc_outside.proofs.PutLaws.{put_then, put_stopped}
use Rattle.rc_report.specs.CubeText.{example_text}
use Rattle.rc_report.specs.WalkText.{walk_text}
use Rattle.rc_report.proofs.cubes.put_example.Goals as goal

pub returns : goal.returns
unfolding example_text
returns g c = rw (← c.as_slice.ensures) (put_then c.in_ok-put_example_line.ensures c.put_walks.ensures)

pub returns-in_err-put_example_line : goal.returns-in_err-put_example_line
unfolding example_text
returns-in_err-put_example_line g c = put_stopped (flat_map (walk_text c.args.net.now) c.args.walks.now) c.from_residual.ensures.0 c.in_err-put_example_line.ensures
