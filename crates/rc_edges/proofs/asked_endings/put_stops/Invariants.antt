use Rattle.std.proofs.Common.{◌≡◌, drop}
use Rattle.std.specs.List.{fold}
use Rattle.rc_edges.proofs.asked_endings.put_stops.Given as goal
use Rattle.rc_jobs.specs.Collecting.{with_ending}

-- what is left gives the same
abbrev pub invariant-loop-stop : goal.invariant-loop-stop
invariant-loop-stop l = fold (λ es s. with_ending es l.from s.kind s.set) l.endings (drop l.stop-index l.stops) ≡ fold (λ es s. with_ending es l.from s.kind s.set) l.fn.endings l.stops
