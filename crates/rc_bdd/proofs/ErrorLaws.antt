-- Why an operation fails.
use Rattle.std.proofs.Common.{Result, Ok, Err, IfErr}
use Rattle.rc_nodes.specs.Seats.{TableView, SeatView}
use Rattle.rc_bdd.specs.Work.{IsCause, IsWantOfRoom}
use Rattle.rc_bdd.specs.declared.work.SetError.{SetError}

pub room_is_cause : {V : Type 0} (nodes : TableView) (seat : SeatView) (r : Result V SetError) → IfErr r (IsWantOfRoom nodes seat) → IfErr r (IsCause nodes seat)
room_is_cause nodes seat (Ok v) room = tt
room_is_cause nodes seat (Err e) room = λ _. room.1
