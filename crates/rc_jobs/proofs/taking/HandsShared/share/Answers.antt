use Rattle.std.proofs.Common.{rules, ◌≡◌, ◌+◌, ◌++◌, [], ◌∷◌, subst}
use Rattle.rc_jobs.proofs.BoundLaws.{parts_with}
use Rattle.rc_jobs.specs.Bounds.{begin_of}
use Rattle.rc_jobs.proofs.taking.HandsShared.share.Goals as goal

pub loop-turn-preserved : goal.loop-turn-preserved
loop-turn-preserved g c =
    let laws = g.met.J.Job in
    let job = c.args.self.now.job.now in
    let i = c.loop-turn.invariant in
    let pushed : c.push.new.self.items ≡ c.loop-turn.parts.items ++ (c.fetch_add-share.result, c.in-Ok.made) ∷ [] = search rules in
    let s = c.args.self.now.bounds.now in
    let after = c.share.new.work in
    let n = c.fetch_add-share.result in
    let here : g.J.Job.knows job after (begin_of s n) (begin_of s (n + 1)) c.in-Ok.made =
    subst (λ a. g.J.Job.knows job after a (begin_of s (n + 1)) c.in-Ok.made) c.share-from.ensures.begin (subst (λ b. g.J.Job.knows job after c.share-from.result.0 b c.in-Ok.made) c.share-from.ensures.end c.in-Ok.ensures.made) in
    record {
      seat = c.share.ensures.seat;
      keeps = λ r t k. c.share.ensures.keeps r t (i.keeps r t k);
      ready = laws.stays_ready job c.args.self.now.nodes.now c.loop-turn.work c.share.new.work c.share.ensures.keeps i.ready;
      made = parts_with (g.J.Job.knows job) (λ v w a b x keeps known. laws.stays_known job v w a b x keeps known) c.args.self.now.bounds.now c.loop-turn.work c.share.new.work c.share.ensures.keeps c.loop-turn.parts.items c.push.new.self.items c.fetch_add-share.result c.in-Ok.made pushed i.made here;
    }
