use Rattle.rc_jobs.specs.Bounds.{AreMadeOf, begin_of}
use Rattle.rc_nodes.specs.Seats.{IsSeatOf, Keeps}
use Rattle.rc_jobs.proofs.taking.Hands.in_order.Given as goal

-- so far the first shares are one
abbrev pub invariant-loop-share : goal.invariant-loop-share
invariant-loop-share g l = record {
  seat : IsSeatOf l.self.nodes.now l.work;
  keeps : Keeps l.fn.work l.work;
  ready : g.J.Job.ready l.self.job.now l.self.nodes.now l.work;
  parts : AreMadeOf (g.J.Job.knows l.self.job.now l.work) l.self.bounds.now l.parts.items;
  all : g.J.Job.knows l.self.job.now l.work (begin_of l.self.bounds.now 0) (begin_of l.self.bounds.now l.share) l.all;
}
