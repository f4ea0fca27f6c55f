use Rattle.std.proofs.Common.{◌≡◌, ◌<◌, length, sym, subst, ◌∙◌, arith}
use Rattle.std.proofs.lemmas.Bool.Decides.{nat_tests}
use Rattle.std.proofs.lemmas.List.{nil_from_length}
use Rattle.rc_spread.proofs.AloneLaws.{nothing_fresh, rest_kept}
use Rattle.rc_spread.proofs.alone.rounds_alone.Goals as goal

pub returns-then-is_empty-clause-made : goal.returns-then-is_empty-clause-made
returns-then-is_empty-clause-made g c =
    let sets = g.S.Spread.set_after c.args.spread.now in
    let count = g.S.Spread.count c.args.spread.now in
    let inv = c.loop-number.invariant in
    let none : length c.loop-number.changed.items ≡ 0 = (let e = sym c.is_empty.ensures ∙ c.if-is_empty.true in grind (arith, nat_tests)) in
    let further : c.loop-number.number < count = subst (λ n. c.loop-number.number < n) c.positions-count.ensures c.loop-number-test.true in
    let rest = rest_kept c.args.nodes.now c.args.out.now sets count c.args.work.now c.loop-number.work inv.keeps c.requires.rest in
    nothing_fresh c.args.out.now inv.mine rest inv.after inv.listed (nil_from_length c.loop-number.changed.items none) c.requires.still further
