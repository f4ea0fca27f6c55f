use Rattle.std.proofs.Common.{◌≡◌, length-set, Some, refl, ◌∙◌, arith, rules}
use Rattle.std.specs.Fmt.{decimal}
use Rattle.std.proofs.lemmas.Fmt.{decimal_nonempty, length-decimal-le}
use Rattle.std.proofs.lemmas.List.{append-nil}
use Rattle.rc_base.proofs.Decimal.{digit_in_front, room_left, name_from}
use Rattle.rc_base.proofs.name.Name.of_number.Goals as goal

pub loop-left-init : goal.loop-left-init
loop-left-init c = record {
  same = append-nil _;
  room = length-decimal-le 10 c.args.number (omega arith) (omega arith) (omega arith);
  within = omega arith;
  long = refl;
}

pub overflow_sub-start : goal.overflow_sub-start
overflow_sub-start c = omega (arith, decimal_nonempty c.loop-left.left (omega arith), c.loop-left.invariant.room)

pub overflow_sub-start-2 : goal.overflow_sub-start-2
overflow_sub-start-2 c = omega (arith, decimal_nonempty c.loop-left.left (omega arith), c.loop-left.invariant.room)

pub loop-left-preserved : goal.loop-left-preserved
loop-left-preserved c = record {
  same = digit_in_front c.loop-left.left c.loop-left.start c.loop-left.text _ c.loop-left-test.true (omega arith) (omega (arith, decimal_nonempty c.loop-left.left (omega arith), c.loop-left.invariant.room)) (omega (arith, c.loop-left.invariant.long, c.loop-left.invariant.within)) c.loop-left.invariant.same;
  room = room_left c.loop-left.left c.loop-left.start c.loop-left-test.true (omega arith) c.loop-left.invariant.room;
  within = omega arith;
  long = length-set _ _ _ ∙ c.loop-left.invariant.long;
}

pub unwrap-requires : goal.unwrap-requires
unwrap-requires c =
    let named : c.new.result ≡ Some (decimal c.args.number) = c.new.ensures ∙ name_from c.loop-left.left c.loop-left.start c.args.number c.loop-left.text (omega arith) c.loop-left-test.false (omega (arith, decimal_nonempty c.loop-left.left (omega arith), c.loop-left.invariant.room)) c.loop-left.invariant.within c.loop-left.invariant.long c.loop-left.invariant.same in
    rw named (search rules)

pub returns : goal.returns
returns c =
    let named : c.new.result ≡ Some (decimal c.args.number) = c.new.ensures ∙ name_from c.loop-left.left c.loop-left.start c.args.number c.loop-left.text (omega arith) c.loop-left-test.false (omega (arith, decimal_nonempty c.loop-left.left (omega arith), c.loop-left.invariant.room)) c.loop-left.invariant.within c.loop-left.invariant.long c.loop-left.invariant.same in
    cc
