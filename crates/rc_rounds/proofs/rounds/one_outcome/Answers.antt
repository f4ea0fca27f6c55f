use Rattle.rc_rounds.proofs.OutcomeLaws as law
use Rattle.rc_rounds.proofs.rounds.one_outcome.Goals as goal

pub returns : goal.returns
returns c = law.one_outcome
