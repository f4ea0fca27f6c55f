use Rattle.std.proofs.Common.{◌≡◌, ◌==◌, map}
use Rattle.rc_jobs.specs.Flows.{positions}
use Rattle.rc_spread.proofs.first.first_fresh.Given as goal

abbrev pub invariant-loop-q : goal.invariant-loop-q
invariant-loop-q l = l.fresh.items ≡ map (λ q. l.place == q) (positions l.q)
