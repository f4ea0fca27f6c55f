use Rattle.std.proofs.Common.{Ok, Err, IfOk, subst}
use Rattle.rc_jobs.proofs.ShareLaws.{halves_join}
use Rattle.rc_jobs.proofs.workers.OverTableShared.together.Goals as goal

pub join-requires-clause-seat : goal.join-requires-clause-seat
join-requires-clause-seat g c = let (own, a, b, made) = c.requires.left in made.seat

pub join-requires-clause-other : goal.join-requires-clause-other
join-requires-clause-other g c = let (own, a, b, made) = c.requires.right in made.seat

pub returns-in-Err : goal.returns-in-Err
returns-in-Err g c = λ own mine theirs a b d parts left right.
    let laws = g.met.J.Job in
    let nodes = c.args.self.now.nodes.now in
    let job = c.args.self.now.job.now in
    let seat = c.join.new.seat in
    halves_join nodes (g.J.Job.knows job) (λ v w i j share keeps known. laws.stays_known job v w i j share keeps known) own mine theirs c.args.left.0 c.args.right.0 seat a b d
    c.args.left.1 c.args.right.1 (Err c.in-Err.error) parts.0 left right c.join.ensures.seat c.join.ensures.keeps c.join.ensures.gains (λ l r. tt) (c.in-Err.ensures.cause nodes seat)

pub returns-in-Ok-together : goal.returns-in-Ok-together
returns-in-Ok-together g c = λ own mine theirs a b d parts left right.
    let laws = g.met.J.Job in
    let nodes = c.args.self.now.nodes.now in
    let job = c.args.self.now.job.now in
    let seat = c.join.new.seat in
    let knows = g.J.Job.knows job seat in
    halves_join nodes (g.J.Job.knows job) (λ v w i j share keeps known. laws.stays_known job v w i j share keeps known) own mine theirs c.args.left.0 c.args.right.0 seat a b d
    c.args.left.1 c.args.right.1 (Ok c.in-Ok-together.whole) parts.0 left right c.join.ensures.seat c.join.ensures.keeps c.join.ensures.gains
    (λ l r. c.in-Ok-together.ensures seat a b d (subst (λ o. IfOk o (knows a b)) c.in-Ok.ensures.made.0 l) (subst (λ o. IfOk o (knows b d)) c.in-Ok.ensures.made.1 r)) (λ l r. tt)
