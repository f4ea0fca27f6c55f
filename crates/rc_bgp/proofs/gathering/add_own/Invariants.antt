use Rattle.std.proofs.Common.{◌≡◌, drop}
use Rattle.std.specs.List.{flat_map}
use Rattle.rc_bgp.specs.Gathering.{with_paths}
use Rattle.rc_bgp.proofs.gathering.add_own.Given as goal

abbrev pub invariant-loop-paths : goal.invariant-loop-paths
invariant-loop-paths l = with_paths l.rows (flat_map (λ paths. paths) (drop l.paths-index l.own)) ≡ with_paths l.initial.rows (flat_map (λ paths. paths) l.own)
