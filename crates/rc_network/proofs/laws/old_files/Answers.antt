use Rattle.rc_network.proofs.OldNetLaws as law
use Rattle.rc_network.proofs.laws.old_files.Goals as goal

pub returns : goal.returns
returns c = law.old_files
