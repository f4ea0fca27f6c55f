use Rattle.std.proofs.Common.{◌≡◌, replicate, take}
use Rattle.rc_nodes.proofs.table.are_empty.Given as goal

-- so far they are 0
abbrev pub invariant-loop-index : goal.invariant-loop-index
invariant-loop-index l = take l.index l.slots ≡ replicate l.index 0
