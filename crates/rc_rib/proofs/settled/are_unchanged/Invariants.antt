use Rattle.std.proofs.Common.{ℕ, ◌<◌}
use Rattle.rc_rib.specs.Again.{IsUnchanged}
use Rattle.rc_rib.proofs.settled.are_unchanged.Given as goal

abbrev pub invariant-loop-index : goal.invariant-loop-index
invariant-loop-index l = (r : ℕ) → r < l.index → IsUnchanged l.inputs.network.now l.inputs.internal.now l.inputs.sessions.now l.inputs.previous.now l.earlier.state.now r
