use Rattle.rc_outside.proofs.PutLaws.{put_then, put_stopped}
use Rattle.rc_report.specs.CubeText.{example_text}
use Rattle.rc_report.proofs.cubes.put_with_example.Goals as goal

pub returns : goal.returns
returns g c = put_then c.in_ok-put_cube_line.ensures c.put_example.ensures

pub returns-in_err-put_cube_line : goal.returns-in_err-put_cube_line
returns-in_err-put_cube_line g c = put_stopped (example_text c.args.net.now c.args.cube.now c.args.walks.now) c.from_residual.ensures.0 c.in_err-put_cube_line.ensures
