use Rattle.std.proofs.Common.{◌≡◌, ◌+◌, ◌-◌, subst, sym, ◌∙◌, arith}
use Rattle.rc_trees.specs.Trees.{node}
use Rattle.rc_nodes.specs.Views.{Knows}
use Rattle.rc_nodes.specs.Seats.{SeatKnows}
use Rattle.rc_nodes.proofs.Probe.{known_small, knows_more, looked_grows, opened, open_node}
use Rattle.rc_nodes.proofs.table.Nodes.open.Goals as goal

pub look-word-requires-clause-at : goal.look-word-requires-clause-at
unfolding SeatKnows
look-word-requires-clause-at g c =
    let small = known_small c.args.seat.now.view c.requires.seat.sound c.args.r.index c.requires.known.1.0 c.requires.known.1.1 in
    let two = c.requires.known.0 in let cap = c.requires.seat.capacity in omega arith

pub unpack-requires : goal.unpack-requires
unfolding SeatKnows
unpack-requires g c =
    let two = c.requires.known.0 in
    let k : c.args.r.index ≡ c.args.r.index - 2 + 2 = omega arith in
    let there = opened c.args.seat.now.view c.look-word.new.seat.view (c.args.r.index - 2) c.look-word.result c.look-word.ensures.looked
    c.requires.known.1.0 (subst (λ n. Knows c.args.seat.now.view n c.requires.known.1.0) k c.requires.known.1.1) in
    (c.look-word.ensures.seat.sound.word (c.args.r.index - 2) c.look-word.result there).0

pub returns-clause-keeps : goal.returns-clause-keeps
unfolding SeatKnows
returns-clause-keeps g c =
    knows_more c.args.seat.now.view c.look-word.new.seat.view (looked_grows c.args.seat.now.view c.look-word.new.seat.view (c.args.r.index - 2) c.look-word.result c.look-word.ensures.looked)

pub returns-clause-node : goal.returns-clause-node
unfolding SeatKnows
returns-clause-node g c = λ var low high u.
    let two = c.requires.known.0 in
    let k : c.args.r.index ≡ c.args.r.index - 2 + 2 = omega arith in
    let (ev, ul, uh) = open_node c.args.seat.now.view c.look-word.new.seat.view (c.args.r.index - 2) c.look-word.result c.look-word.ensures.looked var low high
    (subst (λ n. Knows c.args.seat.now.view n (node var low high)) k u) in
    let parts = c.unpack.ensures.parts in
    (parts.0 ∙ ev, subst (λ n. Knows c.look-word.new.seat.view n low) (sym parts.1) ul, subst (λ n. Knows c.look-word.new.seat.view n high) (sym parts.2) uh)
