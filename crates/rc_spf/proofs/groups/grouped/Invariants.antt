use Rattle.std.proofs.Common.{take}
use Rattle.rc_spf.specs.Steps.{IsGrouped}
use Rattle.rc_spf.proofs.groups.grouped.Given as goal

abbrev pub invariant-loop-edge : goal.invariant-loop-edge
invariant-loop-edge l = IsGrouped l.groups.items (take l.edge-index l.edges) l.nodes
