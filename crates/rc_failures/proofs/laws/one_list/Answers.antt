use Rattle.rc_failures.proofs.OneList as law
use Rattle.rc_failures.proofs.laws.one_list.Goals as goal

pub returns : goal.returns
returns c = law.one_list
