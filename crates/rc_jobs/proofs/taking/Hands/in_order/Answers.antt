use Rattle.std.proofs.Common.{rules, ◌≡◌, ◌+◌}
use Rattle.rc_jobs.proofs.BoundLaws.{parts_sorted}
use Rattle.rc_jobs.specs.Bounds.{begin_of}
use Rattle.rc_jobs.proofs.taking.Hands.in_order.Goals as goal

pub part-requires-clause-parts : goal.part-requires-clause-parts
part-requires-clause-parts g c κs within =
    let same : c.from-parts.result.items ≡ c.sort_unstable_by_key.new.self.items = search rules in
    parts_sorted (g.J.Job.knows c.args.self.now.job.now c.args.work.now) c.args.self.now.bounds.now c.args.parts.items c.sort_unstable_by_key.new.self.items c.from-parts.result.items c.sort_unstable_by_key.ensures.permutation same c.requires.parts

pub loop-share-preserved : goal.loop-share-preserved
loop-share-preserved g c =
    let laws = g.met.J.Job g.world.𝓛 g.world.𝓜 g.world.𝓡 ((λ s x. x), (λ x. x), (λ x. x), λ x. x) in
    let job = c.args.self.now.job.now in
    let s = c.args.self.now.bounds.now in
    let i = c.loop-share.invariant in
    let after = c.part-in-loop-share.new.work in
    let keeps = c.part-in-loop-share.ensures.keeps in
    record {
      seat = c.part-in-loop-share.ensures.seat;
      keeps = λ r t k. keeps r t (i.keeps r t k);
      ready = laws.stays_ready job c.args.self.now.nodes.now c.loop-share.work after keeps i.ready;
      parts = c.part-in-loop-share.ensures.parts;
      all = c.in-Ok.ensures after (begin_of s 0) (begin_of s c.loop-share.share) (begin_of s (c.loop-share.share + 1)) (laws.stays_known job c.loop-share.work after (begin_of s 0) (begin_of s c.loop-share.share) c.loop-share.all keeps i.all) c.in_ok-next.ensures.made;
    }
