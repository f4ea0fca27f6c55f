use Rattle.std.proofs.Common.{◌≡◌, ◌++◌, drop}
use Rattle.rc_link_state.specs.Graph.{transits_in}
use Rattle.rc_link_state.proofs.area.networks_of.Given as goal

abbrev pub invariant-loop-network : goal.invariant-loop-network
invariant-loop-network l = l.networks ++ transits_in l.area (drop l.network-index l.transits) ≡ transits_in l.area l.transits
