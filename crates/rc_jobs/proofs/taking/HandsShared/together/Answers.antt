use Rattle.std.proofs.Common.{Ok, Err, IfOk, sym, subst}
use Rattle.rc_jobs.proofs.BoundLaws.{parts_and, parts_kept}
use Rattle.rc_jobs.proofs.ShareLaws.{halves_join}
use Rattle.rc_jobs.specs.Bounds.{AreMadeOf}
use Rattle.rc_jobs.proofs.taking.HandsShared.together.Goals as goal

pub returns-in-Err : goal.returns-in-Err
returns-in-Err g c = λ own mine theirs a b d parts left right.
    let laws = g.met.J.Job in
    let nodes = c.args.self.now.nodes.now in
    let job = c.args.self.now.job.now in
    let s = c.args.self.now.bounds.now in
    let seat = c.join.new.seat in
    halves_join nodes (λ v i j made. AreMadeOf (g.J.Job.knows job v) s made.items) (λ v w i j made keeps known. parts_kept (g.J.Job.knows job) (λ v w a b x keeps known. laws.stays_known job v w a b x keeps known) s v w keeps made.items known)
    own mine theirs c.args.left.0 c.args.right.0 seat a b d c.args.left.1 c.args.right.1 (Err c.in-Err.error) parts.0 left right c.join.ensures.seat c.join.ensures.keeps c.join.ensures.gains (λ l r. tt) (c.in-Err.ensures.cause nodes seat)

pub returns-in-Ok-append : goal.returns-in-Ok-append
returns-in-Ok-append g c = λ own mine theirs a b d parts left right.
    let laws = g.met.J.Job in
    let nodes = c.args.self.now.nodes.now in
    let job = c.args.self.now.job.now in
    let s = c.args.self.now.bounds.now in
    let seat = c.join.new.seat in
    let knows = g.J.Job.knows job seat in
    halves_join nodes (λ v i j made. AreMadeOf (g.J.Job.knows job v) s made.items) (λ v w i j made keeps known. parts_kept (g.J.Job.knows job) (λ v w a b x keeps known. laws.stays_known job v w a b x keeps known) s v w keeps made.items known)
    own mine theirs c.args.left.0 c.args.right.0 seat a b d c.args.left.1 c.args.right.1 (Ok c.append.new.self) parts.0 left right c.join.ensures.seat c.join.ensures.keeps c.join.ensures.gains
    (λ l r. parts_and knows s c.in-Ok.parts.0.items c.in-Ok.parts.1.items c.append.new.self.items c.in-Ok-append.ensures.items
    (subst (λ o. IfOk o (λ made. AreMadeOf knows s made.items)) c.in-Ok.ensures.made.0 l) (subst (λ o. IfOk o (λ made. AreMadeOf knows s made.items)) c.in-Ok.ensures.made.1 r))
    (λ l r. tt)
