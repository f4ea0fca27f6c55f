use Rattle.std.proofs.Common.{rules, ap, sym, ◌∙◌, ◌≡◌, ◌-◌, ◌≤◌, List, ℕ, length, subst, max, min, arith}
use Rattle.rc_jobs.proofs.BoundLaws.{one_bound}
use Rattle.rc_jobs.specs.Bounds.{AreBounds, Shares, begin_of}
use Rattle.rc_jobs.proofs.bounds.Bounds.begin_at.Goals as goal

pub invariant_of-self-2 : goal.invariant_of-self-2
invariant_of-self-2 c =
    let s : Shares = record { begins = c.self.inside.begins; items = c.self.inside.items } in
    let last : c.begin-last.result ≡ begin_of s (length s.begins - 1) = search rules in
    let most : c.max.result ≡ max c.begin-last.result (min c.args.at s.items) = search rules in
    subst (λ (b : List ℕ). AreBounds (record { begins = b; items = s.items })) (sym c.in_ok-push.ensures.ok) (one_bound s c.max.result c.self.invariant (omega arith) (let w = c.self.invariant.within (length s.begins - 1) in omega arith))
