use Rattle.std.proofs.Common.{◌+◌, ◌∙◌, ap, sym, Some}
use Rattle.rc_cubes.proofs.WayLaws.{no_later, later_low, later_high, later_past, from_kept}
use Rattle.rc_cubes.proofs.cubes_of.+later.Goals as goal

pub returns-then-set-lt2-clause-later : goal.returns-then-set-lt2-clause-later
returns-then-set-lt2-clause-later g t c = λ u k. no_later c.args.seat.now c.requires.seat.sound c.args.set.index c.args.last.now u c.if-set-lt2.true k

pub returns-then-header_bit-clause-later : goal.returns-then-header_bit-clause-later
returns-then-header_bit-clause-later g t c = λ u k.
    c.with_test.ensures ∙ later_high (c.node_of-node.ensures.opened u k) c.args.last.now (sym c.header_bit.ensures ∙ c.if-header_bit.true) c.later-high.result c.later-high.ensures.later

pub first-high-requires-clause-from : goal.first-high-requires-clause-from
first-high-requires-clause-from g t c =
    let n = c.node_of-node.result in
    let high = c.node_of-node.ensures.high in
    from_kept c.node_of-node.new.seat c.later-low.new.seat c.later-low.ensures.seat.sound c.later-low.ensures.keeps (n.var + 1) n.hi.index high.0 high.1

pub returns-in-Some-clause-later : goal.returns-in-Some-clause-later
returns-in-Some-clause-later g t c = λ u k.
    ap Some c.with_test-in-Some.ensures ∙ later_low (c.node_of-node.ensures.opened u k) c.args.last.now c.in-Some.cube (sym c.header_bit.ensures ∙ c.if-header_bit.false) c.in-Some.ensures.later

pub returns-in-None-clause-later : goal.returns-in-None-clause-later
returns-in-None-clause-later g t c = λ u k.
    c.with_test-in-None.ensures
    ∙ later_past (c.node_of-node.ensures.opened u k) c.later-low.new.seat c.later-low.ensures.keeps c.first-high.result c.first-high.ensures.first c.args.last.now (sym c.header_bit.ensures ∙ c.if-header_bit.false) c.in-None.ensures.later
