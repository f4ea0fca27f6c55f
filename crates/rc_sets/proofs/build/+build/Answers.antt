-- The set is the join of those of its two sides.
use Rattle.std.proofs.Common.{◌+◌, arith, sym, subst, ◌∙◌}
use Rattle.rc_trees.specs.Trees.{Tree}
use Rattle.rc_nodes.specs.Seats.{SeatKnows}
use Rattle.rc_sets.specs.Marks.{IsHopSet}
use Rattle.rc_sets.proofs.StepLaws.{ArePoints, AreSides, part_of, settled_part, is_short, turns, given_turns, may_low, may_high, may_branch, built_result, is_something}
use Rattle.rc_sets.proofs.WholeLaws.{whole_part}
use Rattle.rc_sets.proofs.build.+build.Goals as goal

pub returns-then-is_settled-clause-built : goal.returns-then-is_settled-clause-built
returns-then-is_settled-clause-built g t c = λ u s.
    let p = part_of c.args.depth c.args.known c.args.routes.now c.args.given.now u s c.known_at-known.result c.known_at-known.ensures c.prefixes_below-rest.result.now c.prefixes_below-rest.ensures c.prefixes_below-left.result.now c.prefixes_below-left.ensures in
    subst (SeatKnows c.args.work.now c.constant_of.result.index) (sym (settled_part c.args.depth c.known_at-known.result c.prefixes_below-rest.result.now c.prefixes_below-left.result.now u p (sym c.is_settled.ensures ∙ c.if-is_settled.true))) (c.constant_of.ensures c.args.work.now)

pub returns-then-is_whole-clause-built : goal.returns-then-is_whole-clause-built
returns-then-is_whole-clause-built g t c = λ u s.
    let p = part_of c.args.depth c.args.known c.args.routes.now c.args.given.now u s c.known_at-known.result c.known_at-known.ensures c.prefixes_below-rest.result.now c.prefixes_below-rest.ensures c.prefixes_below-left.result.now c.prefixes_below-left.ensures in
    subst (SeatKnows c.args.work.now c.constant_of-then-is_whole.result.index) (sym (whole_part c.args.depth c.known_at-known.result c.prefixes_below-rest.result.now c.prefixes_below-left.result.now u p (sym c.is_settled-2.ensures ∙ c.if-is_settled-2.true) (c.is_whole.ensures c.if-is_whole.true))) (c.constant_of-then-is_whole.ensures c.args.work.now)

pub first_prefix-middle-requires-clause-place : goal.first_prefix-middle-requires-clause-place
first_prefix-middle-requires-clause-place g t c =
    let m = c.requires.may in
    let p = part_of c.args.depth c.args.known c.args.routes.now c.args.given.now m.tree m.set c.known_at-known.result c.known_at-known.ensures c.prefixes_below-rest.result.now c.prefixes_below-rest.ensures c.prefixes_below-left.result.now c.prefixes_below-left.ensures in
    let some = is_something c.args.depth c.known_at-known.result c.prefixes_below-rest.result.now c.prefixes_below-left.result.now m.tree p c.is_settled.result c.is_settled.ensures c.if-is_settled.false in
    is_short p some

pub first_prefix-middle-requires-clause-turns : goal.first_prefix-middle-requires-clause-turns
first_prefix-middle-requires-clause-turns g t c =
    let m = c.requires.may in
    let p = part_of c.args.depth c.args.known c.args.routes.now c.args.given.now m.tree m.set c.known_at-known.result c.known_at-known.ensures c.prefixes_below-rest.result.now c.prefixes_below-rest.ensures c.prefixes_below-left.result.now c.prefixes_below-left.ensures in
    let some = is_something c.args.depth c.known_at-known.result c.prefixes_below-rest.result.now c.prefixes_below-left.result.now m.tree p c.is_settled.result c.is_settled.ensures c.if-is_settled.false in
    turns p some

pub first_prefix-turn-requires-clause-place : goal.first_prefix-turn-requires-clause-place
first_prefix-turn-requires-clause-place g t c =
    let m = c.requires.may in
    let p = part_of c.args.depth c.args.known c.args.routes.now c.args.given.now m.tree m.set c.known_at-known.result c.known_at-known.ensures c.prefixes_below-rest.result.now c.prefixes_below-rest.ensures c.prefixes_below-left.result.now c.prefixes_below-left.ensures in
    let some = is_something c.args.depth c.known_at-known.result c.prefixes_below-rest.result.now c.prefixes_below-left.result.now m.tree p c.is_settled.result c.is_settled.ensures c.if-is_settled.false in
    is_short p some

pub first_prefix-turn-requires-clause-turns : goal.first_prefix-turn-requires-clause-turns
first_prefix-turn-requires-clause-turns g t c =
    let m = c.requires.may in
    let p = part_of c.args.depth c.args.known c.args.routes.now c.args.given.now m.tree m.set c.known_at-known.result c.known_at-known.ensures c.prefixes_below-rest.result.now c.prefixes_below-rest.ensures c.prefixes_below-left.result.now c.prefixes_below-left.ensures in
    let some = is_something c.args.depth c.known_at-known.result c.prefixes_below-rest.result.now c.prefixes_below-left.result.now m.tree p c.is_settled.result c.is_settled.ensures c.if-is_settled.false in
    given_turns p some

pub build-requires : goal.build-requires
build-requires g t c κs within =
    let m = c.requires.may in
    let p = part_of c.args.depth c.args.known c.args.routes.now c.args.given.now m.tree m.set c.known_at-known.result c.known_at-known.ensures c.prefixes_below-rest.result.now c.prefixes_below-rest.ensures c.prefixes_below-left.result.now c.prefixes_below-left.ensures in
    let some = is_something c.args.depth c.known_at-known.result c.prefixes_below-rest.result.now c.prefixes_below-left.result.now m.tree p c.is_settled.result c.is_settled.ensures c.if-is_settled.false in
    let at : ArePoints c.args.depth c.prefixes_below-rest.result.now c.prefixes_below-left.result.now c.first_prefix-middle.result c.first_prefix-turn.result = record { within = c.first_prefix-middle.ensures.bound; point = c.first_prefix-middle.ensures.turns; given_within = c.first_prefix-turn.ensures.bound; given_point = c.first_prefix-turn.ensures.turns } in
    let sides : AreSides c.prefixes_below-rest.result.now c.prefixes_below-left.result.now c.first_prefix-middle.result c.first_prefix-turn.result c.split_at.result.0.now c.split_at.result.1.now c.split_at-2.result.0.now c.split_at-2.result.1.now = record { front_is = c.split_at.ensures.front; back_is = c.split_at.ensures.back; given_front_is = c.split_at-2.ensures.front; given_back_is = c.split_at-2.ensures.back } in
    let less = is_short p some in
    (omega (arith, less, c.decreases), (within, (c.requires.seat, may_low p some at sides c.args.nodes.now.may m.allowed)))

pub build-requires-2 : goal.build-requires-2
build-requires-2 g t c κs within =
    let m = c.requires.may in
    let p = part_of c.args.depth c.args.known c.args.routes.now c.args.given.now m.tree m.set c.known_at-known.result c.known_at-known.ensures c.prefixes_below-rest.result.now c.prefixes_below-rest.ensures c.prefixes_below-left.result.now c.prefixes_below-left.ensures in
    let some = is_something c.args.depth c.known_at-known.result c.prefixes_below-rest.result.now c.prefixes_below-left.result.now m.tree p c.is_settled.result c.is_settled.ensures c.if-is_settled.false in
    let at : ArePoints c.args.depth c.prefixes_below-rest.result.now c.prefixes_below-left.result.now c.first_prefix-middle.result c.first_prefix-turn.result = record { within = c.first_prefix-middle.ensures.bound; point = c.first_prefix-middle.ensures.turns; given_within = c.first_prefix-turn.ensures.bound; given_point = c.first_prefix-turn.ensures.turns } in
    let sides : AreSides c.prefixes_below-rest.result.now c.prefixes_below-left.result.now c.first_prefix-middle.result c.first_prefix-turn.result c.split_at.result.0.now c.split_at.result.1.now c.split_at-2.result.0.now c.split_at-2.result.1.now = record { front_is = c.split_at.ensures.front; back_is = c.split_at.ensures.back; given_front_is = c.split_at-2.ensures.front; given_back_is = c.split_at-2.ensures.back } in
    let less = is_short p some in
    (omega (arith, less, c.decreases), (within, (c.build.ensures.seat, may_high p some at sides c.args.nodes.now.may m.allowed)))

pub branch-work-requires-clause-may : goal.branch-work-requires-clause-may
branch-work-requires-clause-may g t c =
    let m = c.requires.may in
    let p = part_of c.args.depth c.args.known c.args.routes.now c.args.given.now m.tree m.set c.known_at-known.result c.known_at-known.ensures c.prefixes_below-rest.result.now c.prefixes_below-rest.ensures c.prefixes_below-left.result.now c.prefixes_below-left.ensures in
    let some = is_something c.args.depth c.known_at-known.result c.prefixes_below-rest.result.now c.prefixes_below-left.result.now m.tree p c.is_settled.result c.is_settled.ensures c.if-is_settled.false in
    let at : ArePoints c.args.depth c.prefixes_below-rest.result.now c.prefixes_below-left.result.now c.first_prefix-middle.result c.first_prefix-turn.result = record { within = c.first_prefix-middle.ensures.bound; point = c.first_prefix-middle.ensures.turns; given_within = c.first_prefix-turn.ensures.bound; given_point = c.first_prefix-turn.ensures.turns } in
    let sides : AreSides c.prefixes_below-rest.result.now c.prefixes_below-left.result.now c.first_prefix-middle.result c.first_prefix-turn.result c.split_at.result.0.now c.split_at.result.1.now c.split_at-2.result.0.now c.split_at-2.result.1.now = record { front_is = c.split_at.ensures.front; back_is = c.split_at.ensures.back; given_front_is = c.split_at-2.ensures.front; given_back_is = c.split_at-2.ensures.back } in
    let low = λ (u : Tree) (s : IsHopSet (c.args.depth + 1) c.known_at-known.result c.split_at.result.0.now c.split_at-2.result.0.now u). c.build-2.ensures.keeps c.in_ok-low.low.index u (c.in_ok-low.ensures.built u s) in
    may_branch p some at sides c.build-2.new.work c.in_ok-low.low.index c.in_ok-high.high.index low c.in_ok-high.ensures.built c.args.nodes.now m.allowed

pub returns-clause-built : goal.returns-clause-built
returns-clause-built g t c =
    let m = c.requires.may in
    let p = part_of c.args.depth c.args.known c.args.routes.now c.args.given.now m.tree m.set c.known_at-known.result c.known_at-known.ensures c.prefixes_below-rest.result.now c.prefixes_below-rest.ensures c.prefixes_below-left.result.now c.prefixes_below-left.ensures in
    let some = is_something c.args.depth c.known_at-known.result c.prefixes_below-rest.result.now c.prefixes_below-left.result.now m.tree p c.is_settled.result c.is_settled.ensures c.if-is_settled.false in
    let at : ArePoints c.args.depth c.prefixes_below-rest.result.now c.prefixes_below-left.result.now c.first_prefix-middle.result c.first_prefix-turn.result = record { within = c.first_prefix-middle.ensures.bound; point = c.first_prefix-middle.ensures.turns; given_within = c.first_prefix-turn.ensures.bound; given_point = c.first_prefix-turn.ensures.turns } in
    let sides : AreSides c.prefixes_below-rest.result.now c.prefixes_below-left.result.now c.first_prefix-middle.result c.first_prefix-turn.result c.split_at.result.0.now c.split_at.result.1.now c.split_at-2.result.0.now c.split_at-2.result.1.now = record { front_is = c.split_at.ensures.front; back_is = c.split_at.ensures.back; given_front_is = c.split_at-2.ensures.front; given_back_is = c.split_at-2.ensures.back } in
    let low = λ (u : Tree) (s : IsHopSet (c.args.depth + 1) c.known_at-known.result c.split_at.result.0.now c.split_at-2.result.0.now u). c.build-2.ensures.keeps c.in_ok-low.low.index u (c.in_ok-low.ensures.built u s) in
    built_result c.args.depth c.args.known c.args.routes.now c.args.given.now c.known_at-known.result c.known_at-known.ensures c.prefixes_below-rest.result.now c.prefixes_below-rest.ensures c.prefixes_below-left.result.now c.prefixes_below-left.ensures some c.first_prefix-middle.result c.first_prefix-turn.result at
    c.split_at.result.0.now c.split_at.result.1.now c.split_at-2.result.0.now c.split_at-2.result.1.now sides c.build-2.new.work c.branch-work.new.self c.in_ok-low.low.index c.in_ok-high.high.index low c.in_ok-high.ensures.built c.branch-work.result c.branch-work.ensures.joined

pub overflow_add-depth : goal.overflow_add-depth
overflow_add-depth g t c =
    let m = c.requires.may in
    let p = part_of c.args.depth c.args.known c.args.routes.now c.args.given.now m.tree m.set c.known_at-known.result c.known_at-known.ensures c.prefixes_below-rest.result.now c.prefixes_below-rest.ensures c.prefixes_below-left.result.now c.prefixes_below-left.ensures in
    let some = is_something c.args.depth c.known_at-known.result c.prefixes_below-rest.result.now c.prefixes_below-left.result.now m.tree p c.is_settled.result c.is_settled.ensures c.if-is_settled.false in
    let less = is_short p some in
    omega (arith, less)

pub overflow_add-depth-2 : goal.overflow_add-depth-2
overflow_add-depth-2 g t c =
    let m = c.requires.may in
    let p = part_of c.args.depth c.args.known c.args.routes.now c.args.given.now m.tree m.set c.known_at-known.result c.known_at-known.ensures c.prefixes_below-rest.result.now c.prefixes_below-rest.ensures c.prefixes_below-left.result.now c.prefixes_below-left.ensures in
    let some = is_something c.args.depth c.known_at-known.result c.prefixes_below-rest.result.now c.prefixes_below-left.result.now m.tree p c.is_settled.result c.is_settled.ensures c.if-is_settled.false in
    let less = is_short p some in
    omega (arith, less)
