use Rattle.std.proofs.Common.{◌≡◌, drop}
use Rattle.std.specs.List.{fold}
use Rattle.std.specs.BTreeSet.{keys, insert_key}
use Rattle.rc_base.specs.Lists.{in_order}
use Rattle.rc_route.specs.Hops.{hop_cmp}
use Rattle.rc_link_state.proofs.hops.hop_set.Given as goal

abbrev pub invariant-loop-hop : goal.invariant-loop-hop
invariant-loop-hop l = fold (insert_key hop_cmp) (keys l.set) (drop l.hop-index l.hops) ≡ in_order hop_cmp l.hops
