use Rattle.std.proofs.Common.{◌≡◌, ◌++◌, map}
use Rattle.std.specs.List.{range_with_len}
use Rattle.rc_topology.proofs.pairs.add_router.Given as goal

abbrev pub invariant-loop-index : goal.invariant-loop-index
invariant-loop-index l = l.all ≡ l.fn.all ++ map (λ n. record { router = l.router; index = n }) (range_with_len 0 l.index)
