use Rattle.std.proofs.Common.{◌≡◌, ◌==◌, map, if◌then◌else◌}
use Rattle.rc_jobs.specs.Flows.{positions, no_header, any_header}
use Rattle.rc_spread.proofs.first.first_sets.Given as goal

abbrev pub invariant-loop-q : goal.invariant-loop-q
invariant-loop-q l = l.sets.items ≡ map (λ q. if l.place == q then any_header else no_header) (positions l.q)
