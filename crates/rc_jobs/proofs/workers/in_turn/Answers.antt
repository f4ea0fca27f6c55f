use Rattle.std.proofs.Common.{◌≡◌, IfOk, subst, arith}
use Rattle.rc_outside.specs.Shares.{share_start}
use Rattle.rc_shares.proofs.StartLaws.{start-last}
use Rattle.rc_jobs.proofs.workers.in_turn.Goals as goal

pub returns-clause-made : goal.returns-clause-made
returns-clause-made g c =
    let job = c.args.job.now in
    let n = g.J.Job.count job in
    let low = c.loop-worker.auto.worker in
    let high = c.loop-worker.auto.worker-end in
    let stop = c.loop-worker-test.false in
    let done : c.loop-worker.worker ≡ c.args.workers = omega arith in
    let known = subst (λ w. IfOk c.loop-worker.made (g.J.Job.knows job c.loop-worker.work 0 (share_start n c.args.workers w))) done c.loop-worker.invariant.known in
    subst (λ b. IfOk c.loop-worker.made (g.J.Job.knows job c.loop-worker.work 0 b)) (start-last n c.args.workers (omega arith)) known
