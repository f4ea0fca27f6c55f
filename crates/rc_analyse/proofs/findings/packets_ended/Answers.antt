use Rattle.rc_analyse.proofs.FoundLaws.{ended_alone}
use Rattle.rc_analyse.proofs.findings.packets_ended.Goals as goal

pub returns-in-Some-clause-ended : goal.returns-in-Some-clause-ended
returns-in-Some-clause-ended g c = ended_alone c.args.net c.args.limits.now c.args.packets c.in_ok-found.found c.in-Some.alone c.in_ok-found.ensures c.in-Some.is
