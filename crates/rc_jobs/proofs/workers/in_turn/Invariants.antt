use Rattle.std.proofs.Common.{◌≡◌, IfOk, IfErr}
use Rattle.rc_bdd.specs.Work.{IsCause}
use Rattle.rc_nodes.specs.Seats.{IsSeatOf, Keeps}
use Rattle.rc_outside.specs.Gate.{passage}
use Rattle.rc_outside.specs.Shares.{share_start}
use Rattle.rc_jobs.proofs.workers.in_turn.Given as goal

abbrev pub invariant-loop-worker : goal.invariant-loop-worker
invariant-loop-worker g l = record {
  seat : IsSeatOf l.nodes l.work;
  keeps : Keeps l.fn.work l.work;
  ready : g.J.Job.ready l.job l.nodes l.work;
  passed : l.passed ≡ passage l.phase 0 l.worker;
  known : IfOk l.made (g.J.Job.knows l.job l.work 0 (share_start (g.J.Job.count l.job) l.workers l.worker));
  cause : IfErr l.made (IsCause l.nodes l.work);
}
