use Rattle.std.proofs.Common.{take}
use Rattle.rc_spf.specs.Steps.{IsRelaxed}
use Rattle.rc_spf.specs.Waiting.{IsStillQueue}
use Rattle.rc_spf.proofs.dijkstra.relax.Given as goal

abbrev pub invariant-loop-edge : goal.invariant-loop-edge
invariant-loop-edge l = IsRelaxed (take l.edge-index l.edges) l.node l.cost l.initial.costs l.costs
    × IsStillQueue l.initial.queue l.queue l.initial.costs l.costs
