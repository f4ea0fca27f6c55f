use Rattle.std.proofs.Common.{◌≡◌, ◌++◌, map, filter}
use Rattle.rc_topology.specs.Links.{pairs_from}
use Rattle.rc_topology.specs.Order.{is_before}
use Rattle.rc_topology.proofs.pairs.add_pairs.Given as goal

-- what is listed and what is left are all
abbrev pub invariant-loop-second : goal.invariant-loop-second
invariant-loop-second l = l.all ++ map (λ j. record { first = l.first; second = j }) (filter (is_before l.first) l.second-iterator) ≡ l.fn.all ++ pairs_from l.links l.first
