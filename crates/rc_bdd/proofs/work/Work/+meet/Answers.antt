-- Two sets have a header in common where their sides have one.
use Rattle.std.proofs.Common.{arith, sym, ap, ◌∙◌, ◌≡◌, ◌||◌, false}
use Rattle.rc_nodes.specs.Seats.{Keeps}
use Rattle.rc_trees.specs.Trees.{low_side, high_side}
use Rattle.rc_bdd.proofs.StepLaws.{bit, falls, from_left_low, from_right_low, from_left_high, from_right_high}
use Rattle.rc_bdd.proofs.MeetLaws.{AreBeside, met, as_step, by_sides, some_known, apart_note}
use Rattle.rc_bdd.proofs.work.Work.+meet.Goals as goal

pub returns-in-Some-clause-meets : goal.returns-in-Some-clause-meets
returns-in-Some-clause-meets g t c = λ s u ks ku. some_known c.args.self.now c.requires.seat.sound c.in-Some.known.index _ (c.in-Some.ensures c.args.self.now s u c.requires.seat.sound ks ku)

pub returns-in-Some-recall-clause-meets : goal.returns-in-Some-recall-clause-meets
returns-in-Some-recall-clause-meets g t c = λ s u ks ku. some_known c.args.self.now c.requires.seat.sound c.in-Some-recall.known.index _ (c.in-Some-recall.ensures s u ks ku)

pub overflow_add-next : goal.overflow_add-next
overflow_add-next g t c =
    let (s, ks) = c.requires.known.0 in let (u, ku) = c.requires.known.1 in
    let at = c.sides-sides.ensures.sides s u ks ku in
    let b : AreBeside c.args.self.now c.args.left.index c.args.right.index s u c.sides-sides.new.self c.sides-sides.result = record { sound = c.requires.seat.sound; knows_left = ks; knows_right = ku; two = c.in_default.ensures; at = at } in
    omega (arith, bit (as_step b))

pub meet-requires : goal.meet-requires
meet-requires g t c κs within =
    let (s, ks) = c.requires.known.0 in let (u, ku) = c.requires.known.1 in
    let at = c.sides-sides.ensures.sides s u ks ku in
    let b : AreBeside c.args.self.now c.args.left.index c.args.right.index s u c.sides-sides.new.self c.sides-sides.result = record { sound = c.requires.seat.sound; knows_left = ks; knows_right = ku; two = c.in_default.ensures; at = at } in
    let w = as_step b in
    let less = falls w c.args.from c.requires.from.0 c.requires.from.1 in
    let seat = c.sides-sides.ensures.seat in
    let v = c.sides-sides.result.var in (
      omega (arith, less, c.decreases),
      (
        within,
        (
          seat,
          (
            ((low_side v s, at.left_low), (low_side v u, at.right_low)),
            (from_left_low w c.sides-sides.new.self (λ r x k. k) seat.sound, from_right_low w c.sides-sides.new.self (λ r x k. k) seat.sound),
          ),
        ),
      ),
    )

pub meet-requires-2 : goal.meet-requires-2
meet-requires-2 g t c κs within =
    let (s, ks) = c.requires.known.0 in let (u, ku) = c.requires.known.1 in
    let at = c.sides-sides.ensures.sides s u ks ku in
    let b : AreBeside c.args.self.now c.args.left.index c.args.right.index s u c.sides-sides.new.self c.sides-sides.result = record { sound = c.requires.seat.sound; knows_left = ks; knows_right = ku; two = c.in_default.ensures; at = at } in
    let w = as_step b in
    let less = falls w c.args.from c.requires.from.0 c.requires.from.1 in
    let seat = c.meet.ensures.seat in let keeps = c.meet.ensures.keeps in
    let sides = c.sides-sides.result in
    let v = sides.var in (
      omega (arith, less, c.decreases),
      (
        within,
        (
          seat,
          (
            ((high_side v s, keeps sides.left_high.index (high_side v s) at.left_high), (high_side v u, keeps sides.right_high.index (high_side v u) at.right_high)),
            (from_left_high w c.meet.new.self keeps seat.sound, from_right_high w c.meet.new.self keeps seat.sound),
          ),
        ),
      ),
    )

pub returns-then-meet-clause-meets : goal.returns-then-meet-clause-meets
returns-then-meet-clause-meets g t c = λ s u ks ku.
    let at = c.sides-sides.ensures.sides s u ks ku in
    let v = c.sides-sides.result.var in
    let low = sym (c.meet.ensures.meets (low_side v s) (low_side v u) at.left_low at.right_low) ∙ c.if-meet.true in
    let b : AreBeside c.args.self.now c.args.left.index c.args.right.index s u c.sides-sides.new.self c.sides-sides.result = record { sound = c.requires.seat.sound; knows_left = ks; knows_right = ku; two = c.in_default.ensures; at = at } in
    sym (by_sides b ∙ ap (λ b. b || met (high_side v s) (high_side v u)) low)

pub returns-then-meet-2-clause-meets : goal.returns-then-meet-2-clause-meets
returns-then-meet-2-clause-meets g t c = λ s u ks ku.
    let at = c.sides-sides.ensures.sides s u ks ku in
    let sides = c.sides-sides.result in
    let v = sides.var in
    let keeps = c.meet.ensures.keeps in
    let low = sym (c.meet.ensures.meets (low_side v s) (low_side v u) at.left_low at.right_low) ∙ c.if-meet.false in
    let high = sym (c.meet-2.ensures.meets (high_side v s) (high_side v u) (keeps sides.left_high.index (high_side v s) at.left_high) (keeps sides.right_high.index (high_side v u) at.right_high)) ∙ c.if-meet-2.true in
    let b : AreBeside c.args.self.now c.args.left.index c.args.right.index s u c.sides-sides.new.self c.sides-sides.result = record { sound = c.requires.seat.sound; knows_left = ks; knows_right = ku; two = c.in_default.ensures; at = at } in
    sym (by_sides b ∙ (λ i. low i || high i))

pub note-requires : goal.note-requires
note-requires g t c =
    let (s, ks) = c.requires.known.0 in let (u, ku) = c.requires.known.1 in
    let at = c.sides-sides.ensures.sides s u ks ku in
    let sides = c.sides-sides.result in
    let v = sides.var in
    let keeps = c.meet.ensures.keeps in
    let low = sym (c.meet.ensures.meets (low_side v s) (low_side v u) at.left_low at.right_low) ∙ c.if-meet.false in
    let high = sym (c.meet-2.ensures.meets (high_side v s) (high_side v u) (keeps sides.left_high.index (high_side v s) at.left_high) (keeps sides.right_high.index (high_side v u) at.right_high)) ∙ c.if-meet-2.false in
    let b : AreBeside c.args.self.now c.args.left.index c.args.right.index s u c.sides-sides.new.self c.sides-sides.result = record { sound = c.requires.seat.sound; knows_left = ks; knows_right = ku; two = c.in_default.ensures; at = at } in
    let none : met s u ≡ false = by_sides b ∙ (λ i. low i || high i) in
    let all : Keeps c.args.self.now c.meet-2.new.self = λ r x k. c.meet-2.ensures.keeps r x (keeps r x (c.sides-sides.ensures.keeps r x k)) in
    apart_note c.meet-2.new.self c.args.left c.args.right s u (all c.args.left.index s ks) (all c.args.right.index u ku) none

pub returns-clause-meets : goal.returns-clause-meets
returns-clause-meets g t c = λ s u ks ku.
    let at = c.sides-sides.ensures.sides s u ks ku in
    let sides = c.sides-sides.result in
    let v = sides.var in
    let keeps = c.meet.ensures.keeps in
    let low = sym (c.meet.ensures.meets (low_side v s) (low_side v u) at.left_low at.right_low) ∙ c.if-meet.false in
    let high = sym (c.meet-2.ensures.meets (high_side v s) (high_side v u) (keeps sides.left_high.index (high_side v s) at.left_high) (keeps sides.right_high.index (high_side v u) at.right_high)) ∙ c.if-meet-2.false in
    let b : AreBeside c.args.self.now c.args.left.index c.args.right.index s u c.sides-sides.new.self c.sides-sides.result = record { sound = c.requires.seat.sound; knows_left = ks; knows_right = ku; two = c.in_default.ensures; at = at } in
    sym (by_sides b ∙ (λ i. low i || high i))
