use Rattle.std.proofs.Common.{◌≡◌, drop}
use Rattle.rc_base.specs.Fields.{fields}
use Rattle.rc_base.specs.Header.{set_bit, set_in}
use Rattle.rc_base.proofs.bits.with_header_bit.Given as goal

abbrev pub invariant-loop-field : goal.invariant-loop-field
invariant-loop-field l = set_in (drop l.field-index fields) l.header l.left ≡ set_bit l.header l.number
