use Rattle.std.proofs.Common.{◌≡◌, ◌++◌, drop}
use Rattle.std.specs.List.{filter_map}
use Rattle.rc_bgp.specs.Candidates.{own_at}
use Rattle.rc_bgp.specs.RouterStates.{path_at}
use Rattle.rc_bgp.proofs.hearing.add_own_at.Given as goal

abbrev pub invariant-loop-paths : goal.invariant-loop-paths
invariant-loop-paths l = l.made.items ++ filter_map (λ paths. path_at paths l.prefix) (drop l.paths-index l.own) ≡ l.initial.made.items ++ own_at l.own l.prefix
