use Rattle.std.proofs.Common.{◌≡◌, drop}
use Rattle.rc_bgp.specs.Gathering.{with_paths}
use Rattle.rc_bgp.proofs.gathering.add_copies.Given as goal

abbrev pub invariant-loop-path : goal.invariant-loop-path
invariant-loop-path l = with_paths l.rows (drop l.path-index l.paths) ≡ with_paths l.initial.rows l.paths
