use Rattle.std.proofs.Common.{refl, sym, subst}
use Rattle.rc_nodes.specs.Seats.{SeatKnows}
use Rattle.rc_nodes.proofs.KnownLaws.{knows_always}
use Rattle.rc_sets.proofs.NumberLaws.{no_bits, may_follow, followed}
use Rattle.rc_sets.proofs.number.masked_set.Goals as goal

pub loop-place-init : goal.loop-place-init
loop-place-init g c = record {
  seat = c.requires.seat;
  keeps = λ r t k. k;
  so_far = subst (SeatKnows c.args.work.now 1) (sym (no_bits c.args.last c.args.wildcard c.args.number)) (knows_always c.args.work.now);
}

pub with_bit-requires-clause-may : goal.with_bit-requires-clause-may
with_bit-requires-clause-may g c =
    let b = c.requires.bits in
    may_follow c.args.nodes.now c.loop-place.work c.args.last c.args.count c.args.wildcard c.args.number c.loop-place.place c.loop-place.set.index b.0 b.1 c.loop-place-test.true
    c.loop-place.invariant.so_far c.requires.may _ _ refl refl

pub loop-place-preserved : goal.loop-place-preserved
loop-place-preserved g c =
    let b = c.requires.bits in
    record {
      seat = c.with_bit.ensures.seat;
      keeps = λ r t k. c.with_bit.ensures.keeps r t (c.loop-place.invariant.keeps r t k);
      so_far = followed c.args.nodes.now c.loop-place.work c.args.last c.args.count c.args.wildcard c.args.number c.loop-place.place c.loop-place.set.index b.0 b.1 c.loop-place-test.true
          c.loop-place.invariant.so_far c.requires.may c.with_bit.new.work c.in_ok-set.set.index _ _ refl refl c.in_ok-set.ensures.set;
    }
