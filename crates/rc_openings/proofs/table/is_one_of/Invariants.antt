use Rattle.std.proofs.Common.{◌≡◌, length}
use Rattle.rc_openings.specs.Groups.{is_one_of}
use Rattle.rc_openings.proofs.table.is_one_of.Given as goal

abbrev pub invariant-loop-bytes : goal.invariant-loop-bytes
invariant-loop-bytes l = is_one_of l.bytes l.byte ≡ is_one_of l.fn.bytes l.byte

abbrev pub decreases-loop-bytes : goal.decreases-loop-bytes
decreases-loop-bytes l = length l.bytes
