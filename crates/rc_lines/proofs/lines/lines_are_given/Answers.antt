use Rattle.rc_lines.proofs.ReadingLaws as law
use Rattle.rc_lines.proofs.lines.lines_are_given.Goals as goal

pub returns : goal.returns
returns c = law.are_given
