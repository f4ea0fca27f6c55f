use Rattle.std.proofs.Common.{◌≡◌, ◌≢◌, ℕ, ◌+◌, ◌<◌, ◌≤◌, ◌∙◌, refl, ap, subst, arith}
use Rattle.rc_nodes.specs.Seats.{SawAll, SeatKnows, SeatView, TableView}
use Rattle.rc_nodes.specs.Views.{Has}
use Rattle.rc_nodes.specs.Words.{slot_at}
use Rattle.rc_nodes.proofs.Probe.{known_small, knows_more, may_write, made, saw_all, next_slot, next_slot_in, passed_more}
use Rattle.rc_nodes.proofs.Crowd.{crowded}
use Rattle.rc_nodes.proofs.table.Nodes.make.Goals as goal
use Rattle.rc_nodes.proofs.table.Nodes.make.Goals.{then-at-capacity, else-at-capacity}

pub try_slot-requires-clause-may : goal.try_slot-requires-clause-may
try_slot-requires-clause-may g c =
    let i = c.loop-step.invariant in
    may_write c.args.self.now c.args.seat.now c.loop-step.seat.view c.pack-word.result c.args.var c.args.lo.index c.args.hi.index c.loop-step.at c.loop-step.step
    c.requires.may i.grows i.mine.may i.mine.capacity c.pack-word.ensures.fits c.pack-word.ensures.var c.pack-word.ensures.lo c.pack-word.ensures.hi
    (omega arith) i.at_is i.passed

pub returns-then-try_slot-clause-keeps : goal.returns-then-try_slot-clause-keeps
unfolding SeatKnows
returns-then-try_slot-clause-keeps g c =
    knows_more c.args.seat.now.view c.try_slot.new.seat.view (λ k x h. c.try_slot.ensures.grows k x (c.loop-step.invariant.grows k x h))

pub returns-then-try_slot-clause-made : goal.returns-then-try_slot-clause-made
unfolding SeatKnows
returns-then-try_slot-clause-made g c =
    made c.args.self.now c.args.seat.now c.try_slot.new.seat.view c.pack-word.result c.args.var c.args.lo.index c.args.hi.index c.loop-step.at
    c.requires.may (λ k x h. c.try_slot.ensures.grows k x (c.loop-step.invariant.grows k x h)) c.try_slot.ensures.seat.sound
    c.pack-word.ensures.var c.pack-word.ensures.lo c.pack-word.ensures.hi (c.try_slot.ensures.there c.if-try_slot.true)

pub returns-then-try_slot-clause-word : goal.returns-then-try_slot-clause-word
returns-then-try_slot-clause-word g c = (c.loop-step.at, refl, subst (Has c.try_slot.new.seat.view.seen c.loop-step.at) c.pack-word.ensures.word (c.try_slot.ensures.there c.if-try_slot.true))

pub loop-step-preserved : goal.loop-step-preserved
loop-step-preserved g c =
    let i = c.loop-step.invariant in
    let cap = c.args.self.now.capacity in
    let pos : 0 < cap = omega arith in
    let next = elim c.if-at-capacity.branch as (λ _. c.if-at-capacity.at ≡ slot_at cap c.pack-word.result (c.loop-step.step + 1)) [
      | then-at-capacity w ↦ w.at-is ∙ next_slot cap c.pack-word.result c.loop-step.step c.loop-step.at pos i.at_is (omega arith)
      | else-at-capacity w ↦ w.at-is ∙ next_slot_in cap c.pack-word.result c.loop-step.step c.loop-step.at pos i.at_is (λ e. absurd (omega arith))
    ] in
    record {
      mine = c.try_slot.ensures.seat;
      grows = λ k x h. c.try_slot.ensures.grows k x (i.grows k x h);
      at_is = next;
      inside = elim c.if-at-capacity.branch [ then-at-capacity w ↦ omega arith | else-at-capacity w ↦ omega arith ];
      passed = passed_more cap c.pack-word.result c.loop-step.step c.loop-step.at c.loop-step.seat.view c.try_slot.new.seat.view c.try_slot.ensures.grows i.passed i.at_is
          (c.try_slot.ensures.another c.if-try_slot.false);
      moves = omega arith;
      size = i.size;
    }

pub returns-clause-keeps : goal.returns-clause-keeps
unfolding SeatKnows
returns-clause-keeps g c = knows_more c.args.seat.now.view c.loop-step.seat.view c.loop-step.invariant.grows

-- where each step passed, the whole path has words other than the one that is wanted
saw_others : (nodes : TableView) (seat : SeatView) (x step : ℕ) → nodes.capacity ≤ step → ((j : ℕ) → j < step → (y : ℕ) × Has seat.view.seen (slot_at nodes.capacity x j) y × (y ≢ x)) → SawAll nodes seat x
saw_others nodes seat x step done passed = saw_all nodes seat x (λ j lt. passed j (omega arith))

pub returns-clause-saw : goal.returns-clause-saw
returns-clause-saw g c =
    let done : c.args.self.now.capacity ≤ c.loop-step.step = omega arith in
    subst (SawAll c.args.self.now c.loop-step.seat) c.pack-word.ensures.word (saw_others c.args.self.now c.loop-step.seat c.pack-word.result c.loop-step.step done c.loop-step.invariant.passed)

pub returns-clause-full : goal.returns-clause-full
returns-clause-full g c =
    let i = c.loop-step.invariant in
    let done : c.args.self.now.capacity ≤ c.loop-step.step = omega arith in
    crowded c.args.self.now c.args.seat.now c.loop-step.seat c.pack-word.result c.args.var c.args.lo.index c.args.hi.index i.mine c.requires.may i.grows
    c.pack-word.ensures.fits c.pack-word.ensures.var c.pack-word.ensures.lo c.pack-word.ensures.hi
    (saw_others c.args.self.now c.loop-step.seat c.pack-word.result c.loop-step.step done i.passed)

pub pack-word-requires-clause-lo : goal.pack-word-requires-clause-lo
unfolding SeatKnows
pack-word-requires-clause-lo g c =
    let small = known_small c.args.seat.now.view c.requires.seat.sound c.args.lo.index c.requires.may.low c.requires.may.knows_low in
    let cap = c.requires.seat.capacity in let most = c.self.invariant.3 in let same = ap (λ (s : TableView). s.capacity) c.self.view_is in omega arith

pub pack-word-requires-clause-hi : goal.pack-word-requires-clause-hi
unfolding SeatKnows
pack-word-requires-clause-hi g c =
    let small = known_small c.args.seat.now.view c.requires.seat.sound c.args.hi.index c.requires.may.high c.requires.may.knows_high in
    let cap = c.requires.seat.capacity in let most = c.self.invariant.3 in let same = ap (λ (s : TableView). s.capacity) c.self.view_is in omega arith
