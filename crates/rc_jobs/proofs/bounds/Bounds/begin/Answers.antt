use Rattle.std.proofs.Common.{rules, ◌≡◌, ◌≤◌, subst, arith}
use Rattle.rc_jobs.specs.Bounds.{Shares, begin_of}
use Rattle.rc_jobs.proofs.bounds.Bounds.begin.Goals as goal

pub returns-in-Some-clause-within : goal.returns-in-Some-clause-within
returns-in-Some-clause-within c =
    let is : c.in-Some.begin.now ≡ begin_of c.args.self.now c.args.share = search rules in
    let within : begin_of c.args.self.now c.args.share ≤ c.args.self.now.items = subst (λ (s : Shares). begin_of s c.args.share ≤ s.items) c.self.view_is (c.self.invariant.within c.args.share) in
    omega arith
