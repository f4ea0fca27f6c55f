use Rattle.std.proofs.Common.{◌≡◌, drop, map}
use Rattle.std.specs.List.{fold}
use Rattle.std.specs.BTreeSet.{keys, insert_key}
use Rattle.std.specs.Ordering.{nat_cmp}
use Rattle.rc_link_state.specs.Asked.{step_area}
use Rattle.rc_link_state.proofs.areas.insert_step_areas.Given as goal

abbrev pub invariant-loop-step : goal.invariant-loop-step
invariant-loop-step l = fold (insert_key nat_cmp) (keys l.areas) (map step_area (drop l.step-index l.steps)) ≡ fold (insert_key nat_cmp) (keys l.initial.areas) (map step_area l.steps)
