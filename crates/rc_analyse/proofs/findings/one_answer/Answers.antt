use Rattle.rc_analyse.proofs.OneAnswer as law
use Rattle.rc_analyse.proofs.findings.one_answer.Goals as goal

pub returns-clause-finding : goal.returns-clause-finding
returns-clause-finding c = law.one_finding

pub returns-clause-answer : goal.returns-clause-answer
returns-clause-answer c = law.one_answer
