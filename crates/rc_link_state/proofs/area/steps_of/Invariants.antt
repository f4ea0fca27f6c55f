use Rattle.std.proofs.Common.{◌≡◌, ◌++◌, drop}
use Rattle.rc_link_state.specs.Graph.{steps_in}
use Rattle.rc_link_state.proofs.area.steps_of.Given as goal

abbrev pub invariant-loop-step : goal.invariant-loop-step
invariant-loop-step l = l.steps ++ steps_in l.area (drop l.step-index l.listed) ≡ steps_in l.area l.listed
