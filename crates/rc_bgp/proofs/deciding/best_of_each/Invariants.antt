use Rattle.std.proofs.Common.{◌≡◌, ◌++◌}
use Rattle.std.specs.List.{filter_map}
use Rattle.rc_bgp.specs.Candidates.{best_with_further}
use Rattle.rc_bgp.proofs.deciding.best_of_each.Given as goal

abbrev pub invariant-loop-candidates : goal.invariant-loop-candidates
invariant-loop-candidates l = l.paths ++ filter_map (λ row. best_with_further l.most row.1) l.candidates-iterator ≡ filter_map (λ row. best_with_further l.most row.1) l.fn.rows.entries
