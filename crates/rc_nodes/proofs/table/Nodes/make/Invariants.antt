use Rattle.std.proofs.Common.{◌≡◌, ◌≢◌, ℕ, ◌+◌, ◌*◌, ◌<◌, ◌≤◌}
use Rattle.rc_nodes.specs.Words.{slot_at}
use Rattle.rc_nodes.specs.Views.{Has, Grows}
use Rattle.rc_nodes.specs.Seats.{IsSeatOf}
use Rattle.rc_nodes.proofs.table.Nodes.make.Given as goal

abbrev pub invariant-loop-step : goal.invariant-loop-step
invariant-loop-step g l = record {
  mine : IsSeatOf l.self l.seat;
  grows : Grows l.fn.seat.view l.seat.view;
  at_is : l.at ≡ slot_at l.self.capacity l.word l.step;
  inside : l.at < l.self.capacity;
  passed : (j : ℕ) → j < l.step → (y : ℕ) × Has l.seat.view.seen (slot_at l.self.capacity l.word j) y × (y ≢ l.word);
  moves : l.seat.view.moves ≤ l.fn.seat.view.moves + 2 * l.step;
  size : l.capacity ≡ l.self.capacity;
}
