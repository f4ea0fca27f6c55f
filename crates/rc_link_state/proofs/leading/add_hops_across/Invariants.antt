use Rattle.std.proofs.Common.{◌≡◌, ◌++◌, drop, map}
use Rattle.std.specs.List.{flat_map}
use Rattle.rc_link_state.specs.HopsBy.{hop_between}
use Rattle.rc_link_state.proofs.leading.add_hops_across.Given as goal

abbrev pub invariant-loop-source : goal.invariant-loop-source
invariant-loop-source l = l.hops ++ flat_map (λ i. map (hop_between i) l.targets) (drop l.source-index l.sources) ≡ l.initial.hops ++ flat_map (λ i. map (hop_between i) l.targets) l.sources
