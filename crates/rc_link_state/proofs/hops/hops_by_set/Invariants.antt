use Rattle.std.proofs.Common.{◌≡◌, ◌++◌}
use Rattle.rc_base.specs.Lists.{in_order}
use Rattle.rc_route.specs.Hops.{hop_cmp}
use Rattle.rc_link_state.proofs.hops.hops_by_set.Given as goal

abbrev pub invariant-loop-hop : goal.invariant-loop-hop
invariant-loop-hop l = l.ordered ++ l.hop-iterator ≡ in_order hop_cmp l.hops
