use Rattle.std.proofs.Common.{◌≡◌, ◌++◌, take}
use Rattle.std.specs.List.{flat_map}
use Rattle.rc_topology.specs.Links.{pairs_from}
use Rattle.rc_topology.proofs.pairs.add_all.Given as goal

abbrev pub invariant-loop-first : goal.invariant-loop-first
invariant-loop-first l = l.all ≡ l.fn.all ++ flat_map (pairs_from l.links) (take l.first-index l.ids)
