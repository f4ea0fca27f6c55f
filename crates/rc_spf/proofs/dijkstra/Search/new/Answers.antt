use Rattle.rc_spf.proofs.Waiting.{first_waits}
use Rattle.rc_spf.proofs.dijkstra.Search.new.Goals as goal

pub returns-clause-queue : goal.returns-clause-queue
returns-clause-queue c = first_waits _ _ _ _ _ _ c.requires c.in_ok-costs.ensures c.new-queue.ensures c.in_ok-push.ensures
