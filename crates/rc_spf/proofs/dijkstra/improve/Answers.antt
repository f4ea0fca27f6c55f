use Rattle.rc_spf.proofs.Waiting.{lowered, lower_at}
use Rattle.rc_spf.proofs.dijkstra.improve.Goals as goal

pub returns-in_ok-push-clause-queue : goal.returns-in_ok-push-clause-queue
returns-in_ok-push-clause-queue c = lowered _ _ _ _ _ c.requires c.in_ok-push.ensures
    (lower_at _ _ _ _ _ c.requires c.if-is_lower.true c.is_lower.ensures)
