-- The operation is the joined sides' operations.
use Rattle.std.proofs.Common.{arith, sym, subst}
use Rattle.rc_nodes.specs.Seats.{SeatView, IsSeatOf, SeatKnows, Keeps}
use Rattle.rc_trees.specs.Combine.{combined}
use Rattle.rc_trees.specs.Trees.{low_side, high_side}
use Rattle.rc_bdd.specs.Work.{truth}
use Rattle.rc_nodes.proofs.KnownLaws.{one_known}
use Rattle.rc_bdd.proofs.StepLaws.{IsStep, bit, falls, may_low, may_high, from_left_low, from_right_low, from_left_high, from_right_high, may_branch, known_result}
use Rattle.rc_bdd.proofs.work.Work.+combine.Goals as goal

pub combine_sides-overflow_add-next : goal.combine_sides-overflow_add-next
combine_sides-overflow_add-next g t c =
    let m = c.requires.may in
    let w : IsStep c.args.nodes.now (truth c.args.operation) c.args.self.now c.args.left.index c.args.right.index c.sides-sides.new.self c.sides-sides.result =
    record { sound = c.requires.seat.sound; may = m; two = c.requires.two; at = c.sides-sides.ensures.sides m.left m.right m.knows_left m.knows_right } in
    omega (arith, bit w)

pub combine_sides-combine-requires : goal.combine_sides-combine-requires
combine_sides-combine-requires g t c κs within =
    let m = c.requires.may in
    let w : IsStep c.args.nodes.now (truth c.args.operation) c.args.self.now c.args.left.index c.args.right.index c.sides-sides.new.self c.sides-sides.result =
    record { sound = c.requires.seat.sound; may = m; two = c.requires.two; at = c.sides-sides.ensures.sides m.left m.right m.knows_left m.knows_right } in
    let less = falls w c.args.from c.requires.from.0 c.requires.from.1 in
    let seat = c.sides-sides.ensures.seat in
    (omega (arith, less, c.decreases), (within, (seat, (may_low w, (from_left_low w c.sides-sides.new.self (λ r u k. k) seat.sound, from_right_low w c.sides-sides.new.self (λ r u k. k) seat.sound)))))

pub combine_sides-combine-requires-2 : goal.combine_sides-combine-requires-2
combine_sides-combine-requires-2 g t c κs within =
    let m = c.requires.may in
    let w : IsStep c.args.nodes.now (truth c.args.operation) c.args.self.now c.args.left.index c.args.right.index c.sides-sides.new.self c.sides-sides.result =
    record { sound = c.requires.seat.sound; may = m; two = c.requires.two; at = c.sides-sides.ensures.sides m.left m.right m.knows_left m.knows_right } in
    let less = falls w c.args.from c.requires.from.0 c.requires.from.1 in
    let seat = c.combine.ensures.seat in let keeps = c.combine.ensures.keeps in
    (omega (arith, less, c.decreases), (within, (seat, (may_high w c.combine.new.self keeps, (from_left_high w c.combine.new.self keeps seat.sound, from_right_high w c.combine.new.self keeps seat.sound)))))

pub combine_sides-branch-self-requires-clause-may : goal.combine_sides-branch-self-requires-clause-may
combine_sides-branch-self-requires-clause-may g t c =
    let m = c.requires.may in let f = truth c.args.operation in
    let at = c.sides-sides.ensures.sides m.left m.right m.knows_left m.knows_right in
    let sides = c.sides-sides.result in
    let w : IsStep c.args.nodes.now (truth c.args.operation) c.args.self.now c.args.left.index c.args.right.index c.sides-sides.new.self c.sides-sides.result =
    record { sound = c.requires.seat.sound; may = m; two = c.requires.two; at = at } in
    let low = c.combine-2.ensures.keeps c.in_ok-low.low.index (combined f (low_side sides.var m.left) (low_side sides.var m.right)) (c.in_ok-low.ensures.combined (low_side sides.var m.left) (low_side sides.var m.right) at.left_low at.right_low) in
    let keeps = c.combine.ensures.keeps in
    let high = c.in_ok-high.ensures.combined (high_side sides.var m.left) (high_side sides.var m.right)
    (keeps sides.left_high.index (high_side sides.var m.left) at.left_high) (keeps sides.right_high.index (high_side sides.var m.right) at.right_high) in
    may_branch w c.in_ok-low.low.index c.in_ok-high.high.index c.combine-2.new.self low high

pub combine_sides-note-requires : goal.combine_sides-note-requires
combine_sides-note-requires g t c =
    let m = c.requires.may in let f = truth c.args.operation in
    let at = c.sides-sides.ensures.sides m.left m.right m.knows_left m.knows_right in
    let sides = c.sides-sides.result in
    let w : IsStep c.args.nodes.now (truth c.args.operation) c.args.self.now c.args.left.index c.args.right.index c.sides-sides.new.self c.sides-sides.result =
    record { sound = c.requires.seat.sound; may = m; two = c.requires.two; at = at } in
    let low = c.combine-2.ensures.keeps c.in_ok-low.low.index (combined f (low_side sides.var m.left) (low_side sides.var m.right)) (c.in_ok-low.ensures.combined (low_side sides.var m.left) (low_side sides.var m.right) at.left_low at.right_low) in
    let keeps = c.combine.ensures.keeps in
    let high = c.in_ok-high.ensures.combined (high_side sides.var m.left) (high_side sides.var m.right)
    (keeps sides.left_high.index (high_side sides.var m.left) at.left_high) (keeps sides.right_high.index (high_side sides.var m.right) at.right_high) in
    let all : Keeps c.args.self.now c.branch-self.new.self = λ r u k. c.branch-self.ensures.keeps r u (c.combine-2.ensures.keeps r u (keeps r u (c.sides-sides.ensures.keeps r u k))) in
    record {
      left = m.left;
      right = m.right;
      knows_left = all c.args.left.index m.left m.knows_left;
      knows_right = all c.args.right.index m.right m.knows_right;
      knows_result = known_result w c.in_ok-low.low.index c.in_ok-high.high.index c.combine-2.new.self low high c.branch-self.new.self c.in_ok-result.result.index c.in_ok-result.ensures.joined;
    }

pub combine_sides-returns-clause-combined : goal.combine_sides-returns-clause-combined
combine_sides-returns-clause-combined g t c =
    let m = c.requires.may in let f = truth c.args.operation in
    let at = c.sides-sides.ensures.sides m.left m.right m.knows_left m.knows_right in
    let sides = c.sides-sides.result in
    let w : IsStep c.args.nodes.now (truth c.args.operation) c.args.self.now c.args.left.index c.args.right.index c.sides-sides.new.self c.sides-sides.result =
    record { sound = c.requires.seat.sound; may = m; two = c.requires.two; at = at } in
    let low = c.combine-2.ensures.keeps c.in_ok-low.low.index (combined f (low_side sides.var m.left) (low_side sides.var m.right)) (c.in_ok-low.ensures.combined (low_side sides.var m.left) (low_side sides.var m.right) at.left_low at.right_low) in
    let keeps = c.combine.ensures.keeps in
    let high = c.in_ok-high.ensures.combined (high_side sides.var m.left) (high_side sides.var m.right)
    (keeps sides.left_high.index (high_side sides.var m.left) at.left_high) (keeps sides.right_high.index (high_side sides.var m.right) at.right_high) in
    let there = known_result w c.in_ok-low.low.index c.in_ok-high.high.index c.combine-2.new.self low high c.branch-self.new.self c.in_ok-result.result.index c.in_ok-result.ensures.joined in
    λ s u ks ku.
    let p = one_known c.args.self.now c.requires.seat.sound c.args.left.index m.left s m.knows_left ks in
    let q = one_known c.args.self.now c.requires.seat.sound c.args.right.index m.right u m.knows_right ku in
    subst (λ (x : SeatView). SeatKnows x c.in_ok-result.result.index (combined f s u)) (sym c.note.ensures)
    (subst (SeatKnows c.branch-self.new.self c.in_ok-result.result.index) (λ i. combined f (p i) (q i)) there)

pub combine_sides-recall-requires : goal.combine_sides-recall-requires
combine_sides-recall-requires g t c = c.requires.seat.sound

pub combine_sides-sides-sides-requires-clause-known : goal.combine_sides-sides-sides-requires-clause-known
combine_sides-sides-sides-requires-clause-known g t c =
    let m = c.requires.may in
    ((m.left, m.knows_left), (m.right, m.knows_right))

pub combine-returns-in-Some-clause-combined : goal.combine-returns-in-Some-clause-combined
combine-returns-in-Some-clause-combined g t c = λ s u ks ku. c.in-Some.ensures c.args.self.now s u c.requires.seat.sound ks ku

pub combine_sides-returns-in-Some-clause-combined : goal.combine_sides-returns-in-Some-clause-combined
combine_sides-returns-in-Some-clause-combined g t c = c.in-Some.ensures

pub combine_sides-returns-in_err-low-clause-keeps : goal.combine_sides-returns-in_err-low-clause-keeps
combine_sides-returns-in_err-low-clause-keeps g t c = λ r u k. c.combine.ensures.keeps r u (c.sides-sides.ensures.keeps r u k)

pub combine_sides-returns-in_err-high-clause-keeps : goal.combine_sides-returns-in_err-high-clause-keeps
combine_sides-returns-in_err-high-clause-keeps g t c = λ r u k. c.combine-2.ensures.keeps r u (c.combine.ensures.keeps r u (c.sides-sides.ensures.keeps r u k))

pub combine_sides-returns-in_err-result-clause-keeps : goal.combine_sides-returns-in_err-result-clause-keeps
combine_sides-returns-in_err-result-clause-keeps g t c = λ r u k. c.branch-self.ensures.keeps r u (c.combine-2.ensures.keeps r u (c.combine.ensures.keeps r u (c.sides-sides.ensures.keeps r u k)))

pub combine_sides-returns-clause-seat : goal.combine_sides-returns-clause-seat
combine_sides-returns-clause-seat g t c = subst (λ (s : SeatView). IsSeatOf c.args.nodes.now s) (sym c.note.ensures) c.branch-self.ensures.seat

pub combine_sides-returns-clause-keeps : goal.combine_sides-returns-clause-keeps
combine_sides-returns-clause-keeps g t c = λ r u k.
    subst (λ (s : SeatView). SeatKnows s r u) (sym c.note.ensures)
    (c.branch-self.ensures.keeps r u (c.combine-2.ensures.keeps r u (c.combine.ensures.keeps r u (c.sides-sides.ensures.keeps r u k))))
