use Rattle.std.specs.Prelude.{option_to_list}
use Rattle.rc_jobs.proofs.BoundLaws.{parts_kept, parts_left}
use Rattle.rc_jobs.proofs.taking.Hands.part.Goals as goal

pub returns-then-number-share-clause-parts : goal.returns-then-number-share-clause-parts
returns-then-number-share-clause-parts g c =
    parts_left (g.J.Job.knows c.args.self.now.job.now c.args.work.now) c.args.self.now.bounds.now c.args.parts.now.items (option_to_list c.pop_front.result) c.pop_front.new.self.items c.pop_front.ensures.items c.requires.parts

pub returns-clause-parts : goal.returns-clause-parts
returns-clause-parts g c =
    let s = c.args.self.now.bounds.now in
    let job = c.args.self.now.job.now in
    let laws = g.met.J.Job g.world.𝓛 g.world.𝓜 g.world.𝓡 ((λ s x. x), (λ x. x), (λ x. x), λ x. x) in
    parts_kept (g.J.Job.knows job) (λ v w a b x keeps known. laws.stays_known job v w a b x keeps known) s c.args.work.now c.share.new.work c.share.ensures.keeps c.pop_front.new.self.items
    (parts_left (g.J.Job.knows job c.args.work.now) s c.args.parts.now.items (option_to_list c.pop_front.result) c.pop_front.new.self.items c.pop_front.ensures.items c.requires.parts)
