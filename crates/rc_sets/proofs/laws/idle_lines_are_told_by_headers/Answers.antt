use Rattle.rc_sets.proofs.IdleLaws.{told}
use Rattle.rc_sets.proofs.laws.idle_lines_are_told_by_headers.Goals as goal

pub returns : goal.returns
returns c = told
