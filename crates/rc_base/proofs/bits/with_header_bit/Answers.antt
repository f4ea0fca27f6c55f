use Rattle.std.proofs.Common.{◌≡◌, ℕ, ◌*◌, ◌-◌, ◌%◌, ◌^◌, ◌<◌, arith}
use Rattle.std.specs.Prelude.{bit_or}
use Rattle.std.proofs.Math.Pow.{pow-lt}
use Rattle.std.proofs.lemmas.Nat.{or_lt}
use Rattle.rc_base.proofs.BitLaws.{set-by-fields}
use Rattle.rc_base.proofs.bits.with_header_bit.Goals as goal

-- a number with one bit more, a bit of its field
still_fits : (n count width left : ℕ) → n < 2 ^ width → count ≡ width → left < count → bit_or n (1 * 2 ^ (count - 1 - left) % 4294967296) < 2 ^ width
still_fits n count width left small same less =
    let one : 2 ^ (count - 1 - left) < 2 ^ width = pow-lt (let e = same in omega arith) in
    or_lt width n (1 * 2 ^ (count - 1 - left) % 4294967296) small (omega arith)

pub with-requires : goal.with-requires
with-requires c = still_fits c.of.result c.width-width.result _ c.loop-field.left c.of.ensures.small c.width-width.ensures.width c.if-left-width.true

pub loop-field-init : goal.loop-field-init
loop-field-init c = set-by-fields c.args.header.now c.args.number
