use Rattle.std.proofs.Common.{◌≡◌, ◌++◌, drop}
use Rattle.rc_link_state.proofs.hops.add_hops.Given as goal

abbrev pub invariant-loop-hop : goal.invariant-loop-hop
invariant-loop-hop l = l.hops ++ drop l.hop-index l.more ≡ l.initial.hops ++ l.more
