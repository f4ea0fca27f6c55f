use Rattle.rc_base.proofs.BitLaws.{bit-by-fields}
use Rattle.rc_base.proofs.bits.header_bit.Goals as goal

pub loop-field-init : goal.loop-field-init
loop-field-init c = bit-by-fields c.args.header.now c.args.number
