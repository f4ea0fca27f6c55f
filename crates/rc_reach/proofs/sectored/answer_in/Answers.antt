use Rattle.std.proofs.Common.{length, subst, sym}
use Rattle.rc_config.specs.Members.{positions}
use Rattle.rc_edges.specs.Prepare.{ends_at}
use Rattle.rc_jobs.specs.Flows.{KnowsFlows, real_endings}
use Rattle.rc_jobs.specs.Kept.{flows_kept}
use Rattle.rc_reach.specs.Sectored.{Sectored}
use Rattle.rc_reach.proofs.sectored.answer_in.Goals as goal

pub reaching_in-requires-clause-endings : goal.reaching_in-requires-clause-endings
reaching_in-requires-clause-endings g c =
    subst (λ (a : Sectored). KnowsFlows c.propagate_alone.new.work a.flows (real_endings (ends_at a.plane a.ends) (length (positions a.plane.network)))) (sym c.asked.view_is)
    (flows_kept c.args.work.now c.propagate_alone.new.work c.propagate_alone.ensures.keeps _ _ c.requires.ready.endings)
