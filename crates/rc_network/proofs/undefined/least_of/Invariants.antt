use Rattle.std.proofs.Common.{◌≡◌, drop}
use Rattle.rc_network.specs.Undefined.{least_line, lower, of_kind}
use Rattle.rc_network.proofs.undefined.least_of.Given as goal

-- the least line is the lower of the one that was found and of that of the mentions that are left
abbrev pub invariant-loop-mention : goal.invariant-loop-mention
invariant-loop-mention l = lower l.least (least_line l.file (of_kind l.kind (drop l.mention-index l.mentions))) ≡ least_line l.file (of_kind l.kind l.mentions)
