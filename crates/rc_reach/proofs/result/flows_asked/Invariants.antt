use Rattle.std.proofs.Common.{◌≡◌, take}
use Rattle.rc_base.specs.Positions.{is_among}
use Rattle.rc_jobs.specs.Flows.{flows_of}
use Rattle.rc_reach.proofs.result.flows_asked.Given as goal

abbrev pub invariant-loop-ending : goal.invariant-loop-ending
invariant-loop-ending l = l.flows.items ≡ flows_of (is_among l.ends) (take l.ending-index l.endings)
