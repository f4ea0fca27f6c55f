use Rattle.std.proofs.Common.{◌≡◌, ◌<◌, length, sym, subst, ◌∙◌, arith}
use Rattle.std.proofs.lemmas.Bool.Decides.{nat_tests}
use Rattle.std.proofs.lemmas.List.{nil_from_length}
use Rattle.rc_spread.specs.Known.{KnowsShare}
use Rattle.rc_spread.proofs.AloneLaws.{nothing_fresh, rest_kept}
use Rattle.rc_spread.proofs.Rounding.{last_after}
use Rattle.rc_spread.proofs.by_flows.rounds_by_flows.Goals as goal

pub returns-then-is_empty-clause-made : goal.returns-then-is_empty-clause-made
returns-then-is_empty-clause-made g c =
    let sets = g.S.Spread.set_after c.args.spread.now in
    let count = g.S.Spread.count c.args.spread.now in
    let inv = c.loop-number.invariant in
    let none : length c.loop-number.made.changed.items ≡ 0 = (let e = sym c.is_empty.ensures ∙ c.if-is_empty.true in grind (arith, nat_tests)) in
    let further : c.loop-number.number < count = subst (λ n. c.loop-number.number < n) c.positions-count.ensures c.loop-number-test.true in
    let rest = rest_kept c.args.nodes.now c.args.out.now sets count c.args.work c.loop-number.work inv.keeps c.requires.rest in
    subst (λ rs. KnowsShare c.loop-number.work rs.items (sets count) 0 count) (sym c.into_sets.ensures)
    (nothing_fresh c.args.out.now inv.mine rest inv.after inv.listed (nil_from_length c.loop-number.made.changed.items none) c.requires.still further)

pub next_by_flows-back-requires-clause-rest : goal.next_by_flows-back-requires-clause-rest
next_by_flows-back-requires-clause-rest g c κs within =
    rest_kept c.args.nodes.now c.args.out.now (g.S.Spread.set_after c.args.spread.now) (g.S.Spread.count c.args.spread.now) c.args.work c.loop-number.work c.loop-number.invariant.keeps c.requires.rest

pub next_by_flows-back-requires-clause-ready : goal.next_by_flows-back-requires-clause-ready
next_by_flows-back-requires-clause-ready g c κs within =
    let laws = g.met.S.Spread g.world.𝓛 g.world.𝓜 g.world.𝓡 ((λ s x. x), (λ x. x), (λ x. x), λ x. x) in
    laws.stays_ready c.args.spread.now c.args.nodes.now c.args.work c.loop-number.work c.loop-number.invariant.keeps c.requires.ready

pub next_by_flows-back-requires-clause-further : goal.next_by_flows-back-requires-clause-further
next_by_flows-back-requires-clause-further g c κs within = subst (λ k. c.loop-number.number < k) c.positions-count.ensures c.loop-number-test.true

pub returns-then-is_empty-clause-seat : goal.returns-then-is_empty-clause-seat
returns-then-is_empty-clause-seat g c = c.loop-number.invariant.mine

pub returns-then-is_empty-clause-keeps : goal.returns-then-is_empty-clause-keeps
returns-then-is_empty-clause-keeps g c = c.loop-number.invariant.keeps

pub returns-clause-seat : goal.returns-clause-seat
returns-clause-seat g c = c.loop-number.invariant.mine

pub returns-clause-keeps : goal.returns-clause-keeps
returns-clause-keeps g c = c.loop-number.invariant.keeps

pub returns-clause-made : goal.returns-clause-made
returns-clause-made g c =
    let sets = g.S.Spread.set_after c.args.spread.now in
    let n = g.S.Spread.count c.args.spread.now in
    let many = c.positions-count.ensures in
    let end = c.loop-number.auto.number-end in
    let stop = c.loop-number-test.false in
    let all : c.loop-number.number ≡ n = omega arith in
    subst (λ rs. KnowsShare c.loop-number.work rs.items (sets n) 0 n) (sym c.into_sets-2.ensures)
    (last_after c.loop-number.work c.loop-number.made.sets.items c.loop-number.made.fresh.items sets n c.loop-number.number all c.loop-number.invariant.after)
