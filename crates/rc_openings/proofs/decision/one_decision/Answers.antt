use Rattle.rc_openings.proofs.ReadingLaws.{decided_is, is_decided}
use Rattle.rc_openings.proofs.decision.one_decision.Goals as goal

pub returns : goal.returns
returns c = λ block line decision. (decided_is block line decision, is_decided block line decision)
