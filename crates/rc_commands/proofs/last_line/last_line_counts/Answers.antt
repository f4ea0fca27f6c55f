use Rattle.rc_commands.proofs.LastLineLaws.{model-by-lines}
use Rattle.rc_commands.proofs.last_line.last_line_counts.Goals as goal

pub returns : goal.returns
returns c = model-by-lines
