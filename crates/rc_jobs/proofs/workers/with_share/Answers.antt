use Rattle.std.proofs.Common.{rules, ℕ}
use Rattle.rc_outside.specs.Shares.{share_start}
use Rattle.rc_jobs.proofs.workers.with_share.Goals as goal

pub returns-in-Ok-together-clause-made : goal.returns-in-Ok-together-clause-made
returns-in-Ok-together-clause-made g c =
    let laws = g.met.J.Job g.world.𝓛 g.world.𝓜 g.world.𝓡 ((λ s x. x), (λ x. x), (λ x. x), λ x. x) in
    let job = c.args.job.now in
    let n = g.J.Job.count job in
    let after = c.share_of.new.work in
    let middle : ℕ = share_start n c.args.workers c.args.passed.now.first in
    let before : g.J.Job.knows job c.args.work.now 0 middle c.in-Ok.all = search rules in
    c.in-Ok-together.ensures after 0 middle (share_start n c.args.workers c.args.passed.now.last)
    (laws.stays_known job c.args.work.now after 0 middle c.in-Ok.all c.share_of.ensures.keeps before) c.in-Ok-share_of.ensures.made
