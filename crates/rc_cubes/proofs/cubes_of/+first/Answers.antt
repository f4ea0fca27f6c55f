use Rattle.std.proofs.Common.{◌+◌, ◌∙◌, arith, ap, Some}
use Rattle.rc_cubes.proofs.WayLaws.{no_cube, whole_cube, first_low, first_high, from_kept}
use Rattle.rc_cubes.proofs.cubes_of.+first.Goals as goal

pub returns-then-set-eq0-clause-first : goal.returns-then-set-eq0-clause-first
returns-then-set-eq0-clause-first g t c = λ u k. no_cube c.args.seat.now c.args.set.index u c.if-set-eq0.true k

pub returns-then-set-eq1-clause-first : goal.returns-then-set-eq1-clause-first
returns-then-set-eq1-clause-first g t c = λ u k. ap Some c.all.ensures ∙ whole_cube c.args.seat.now c.args.set.index u c.if-set-eq1.true k

pub first-high-requires : goal.first-high-requires
first-high-requires g t c κs within =
    let n = c.node_of-node.result in
    let bit = c.node_of-node.ensures.bit in
    let keeps = c.first-low.ensures.keeps in
    let high = c.node_of-node.ensures.high in
    (omega (arith, bit, c.decreases), (within, (c.first-low.ensures.seat, ((high.0.0, keeps n.hi.index high.0.0 high.0.1), from_kept c.node_of-node.new.seat c.first-low.new.seat c.first-low.ensures.seat.sound keeps (n.var + 1) n.hi.index high.0 high.1))))

pub returns-in-Some-clause-first : goal.returns-in-Some-clause-first
returns-in-Some-clause-first g t c = λ u k. ap Some c.with_test.ensures ∙ first_low (c.node_of-node.ensures.opened u k) c.in-Some.cube c.in-Some.ensures.first

pub returns-in-None-clause-first : goal.returns-in-None-clause-first
returns-in-None-clause-first g t c = λ u k.
    c.with_test-in-None.ensures ∙ first_high (c.node_of-node.ensures.opened u k) c.first-low.new.seat c.first-low.ensures.keeps c.first-high.result c.first-high.ensures.first c.in-None.ensures.first
