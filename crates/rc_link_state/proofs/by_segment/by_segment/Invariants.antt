use Rattle.std.proofs.Common.{take}
use Rattle.rc_link_state.specs.Grouping.{AreRows}
use Rattle.rc_link_state.proofs.by_segment.by_segment.Given as goal

abbrev pub invariant-loop-interface : goal.invariant-loop-interface
invariant-loop-interface l = AreRows l.links (take l.interface-index l.interfaces) l.rows
