use Rattle.std.proofs.Common.{◌≡◌, take}
use Rattle.rc_sectors.proofs.cut.longer.Given as goal

abbrev pub invariant-loop-bit : goal.invariant-loop-bit
invariant-loop-bit l = l.bits ≡ take l.bit-index l.sector
