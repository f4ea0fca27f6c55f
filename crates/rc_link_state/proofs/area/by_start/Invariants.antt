use Rattle.std.proofs.Common.{take}
use Rattle.rc_link_state.specs.Areas.{start_of}
use Rattle.rc_link_state.specs.ByRouter.{AreByRouter}
use Rattle.rc_link_state.proofs.area.by_start.Given as goal

abbrev pub invariant-loop-step : goal.invariant-loop-step
invariant-loop-step l = AreByRouter start_of l.routers (take l.step-index l.steps) l.by_start
