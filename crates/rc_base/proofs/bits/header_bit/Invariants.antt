use Rattle.std.proofs.Common.{◌≡◌, drop}
use Rattle.rc_base.specs.Fields.{fields}
use Rattle.rc_base.specs.Header.{bit, bit_in}
use Rattle.rc_base.proofs.bits.header_bit.Given as goal

abbrev pub invariant-loop-field : goal.invariant-loop-field
invariant-loop-field l = bit_in (drop l.field-index fields) l.header l.left ≡ bit l.header l.number
