use Rattle.std.proofs.Common.{◌≡◌, drop}
use Rattle.std.specs.List.{AllByRecursion}
use Rattle.rc_base.specs.Prefix.{Cidr}
use Rattle.rc_sets.proofs.build.are_alike.Given as goal

-- where those that are left are of the length, all are
abbrev pub invariant-loop-route : goal.invariant-loop-route
invariant-loop-route l = AllByRecursion (λ (p : Cidr). p.len ≡ l.len) (drop l.route-index l.routes) → AllByRecursion (λ (p : Cidr). p.len ≡ l.len) l.routes
