use Rattle.std.proofs.Common.{rules, ◌≡◌, sym, subst}
use Rattle.std.proofs.lemmas.Result.{on_ok_weaker}
use Rattle.rc_nodes.specs.Seats.{SeatKnows}
use Rattle.rc_spread.proofs.PassageLaws.{no_through, passages_kept, takes_none, tests_kept}
use Rattle.rc_spread.proofs.united.put_side.Goals as goal

pub returns-then-eq-clause-put : goal.returns-then-eq-clause-put
returns-then-eq-clause-put g c = λ sets flows flow s t known set through is_set is_through.
    let none : c.side-through.result.index ≡ 0 = search rules in
    let later = c.side-through.new.self in
    let there = subst (SeatKnows later c.side-through.result.index) (sym is_through) (c.side-through.ensures.side t through) in
    takes_none later sets c.args.sides.now.items flows flow (no_through later sets c.side-through.result.index flow none there)
    (passages_kept c.args.work.now sets later c.side-through.ensures.keeps c.args.sides.now.items flows known)

pub side-set-requires-clause-from : goal.side-set-requires-clause-from
side-set-requires-clause-from g c = (tests_kept c.args.nodes.now c.args.work.now c.side-through.new.self c.side-through.ensures.seat c.side-through.ensures.keeps c.args.bit c.args.passage.now c.requires.from).set_from

pub returns-clause-put : goal.returns-clause-put
returns-clause-put g c =
    let before = c.args.work.now in
    let middle = c.side-through.new.self in
    let later = c.side-set.new.self in
    on_ok_weaker c.put_passage.result
    (λ takes. λ sets flows flow s t known set through is_set is_through.
    takes later sets flows flow
    (passages_kept middle sets later c.side-set.ensures.keeps c.args.sides.now.items flows (passages_kept before sets middle c.side-through.ensures.keeps c.args.sides.now.items flows known))
    (subst (SeatKnows later c.side-set.result.index) (sym is_set) (c.side-set.ensures.side s (c.side-through.ensures.keeps c.args.passage.now.set.index s set)))
    (c.side-set.ensures.keeps c.side-through.result.index flow.1 (subst (SeatKnows middle c.side-through.result.index) (sym is_through) (c.side-through.ensures.side t through))))
    c.put_passage.ensures
