use Rattle.std.proofs.Common.{◌+◌, subst, sym, inl, inr}
use Rattle.rc_nodes.specs.declared.words.Ref.{Ref}
use Rattle.rc_bdd.proofs.ValueLaws.{IsAt, at_start, bit_small, at_high, at_low, at_end}
use Rattle.rc_bdd.proofs.value.eval.Goals as goal
use Rattle.rc_bdd.proofs.value.eval.Goals.{then-header_bit, else-header_bit, else-loop-step-test, then-loop-step-test+then-at-lt2}

pub loop-step-init : goal.loop-step-init
loop-step-init g c = record {
  seat = c.requires.seat;
  keeps = λ r t k. k;
  at = at_start c.args.seat.now c.requires.seat.sound c.args.set.index c.requires.known.0 c.requires.known.1 c.args.header.now;
}

pub header_bit-requires : goal.header_bit-requires
header_bit-requires g c = bit_small c.loop-step.invariant.at c.loop-step.invariant.seat.sound c.if-at-lt2.false c.open-node.new.seat c.open-node.result c.open-node.ensures.node

pub loop-step-preserved : goal.loop-step-preserved
loop-step-preserved g c =
    let i = c.loop-step.invariant in
    let n = c.open-node.result in
    record {
      seat = c.open-node.ensures.seat;
      keeps = λ r t k. c.open-node.ensures.keeps r t (i.keeps r t k);
      at = elim c.if-header_bit.branch [
        | then-header_bit w ↦
            subst (λ (r : Ref). IsAt c.args.seat.now c.open-node.new.seat c.args.set.index r.index (c.loop-step._step + 1) c.args.header.now) (sym w.at-is)
            (at_high i.at i.seat.sound c.if-at-lt2.false c.open-node.new.seat n c.open-node.ensures.node c.header_bit.result c.header_bit.ensures w.if-header_bit.true)
        | else-header_bit w ↦
            subst (λ (r : Ref). IsAt c.args.seat.now c.open-node.new.seat c.args.set.index r.index (c.loop-step._step + 1) c.args.header.now) (sym w.at-is)
            (at_low i.at i.seat.sound c.if-at-lt2.false c.open-node.new.seat n c.open-node.ensures.node c.header_bit.result c.header_bit.ensures w.if-header_bit.false)
      ];
    }

pub returns-clause-value : goal.returns-clause-value
returns-clause-value g c =
    let i = c.loop-step.invariant in
    at_end i.at i.seat.sound (elim c.loop-step-test.branch [ else-loop-step-test w ↦ inl w.loop-step-test.false | then-loop-step-test+then-at-lt2 w ↦ inr w.if-at-lt2.true ])
