use Rattle.rc_jobs.specs.Bounds.{AreMadeOf}
use Rattle.rc_nodes.specs.Seats.{IsSeatOf, Keeps}
use Rattle.rc_jobs.proofs.taking.HandsShared.share.Given as goal

-- so far what was made is of the shares that were taken
abbrev pub invariant-loop-turn : goal.invariant-loop-turn
invariant-loop-turn g l = record {
  seat : IsSeatOf l.self.nodes.now l.work;
  keeps : Keeps l.fn.seat l.work;
  ready : g.J.Job.ready l.self.job.now l.self.nodes.now l.work;
  made : AreMadeOf (g.J.Job.knows l.self.job.now l.work) l.self.bounds.now l.parts.items;
}
