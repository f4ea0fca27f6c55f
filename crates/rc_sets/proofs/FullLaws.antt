-- Where the table is full, more trees may be made than it has slots.
use Rattle.std.proofs.Common.{◌≡◌, ◌<◌, Result, Ok, Err, IfErr}
use Rattle.std.specs.Set.{distinct_count}
use Rattle.rc_bdd.specs.Work.{IsCause}
use Rattle.rc_bdd.specs.declared.work.SetError.{SetError}
use Rattle.rc_bdd.specs.declared.work.SetError.TheVariants.{Full}
use Rattle.rc_nodes.specs.Seats.{TableView, SeatView}
use Rattle.rc_nodes.proofs.CountLaws.{more_than_slots}
use Rattle.rc_trees.specs.Trees.{same_tree}

pub full_means_more : {A : Type 0} (r : Result A SetError) (nodes : TableView) (seat : SeatView) → IfErr r (IsCause nodes seat) → IfErr r (λ e. e ≡ Full → nodes.capacity < distinct_count same_tree nodes.may)
full_means_more (Ok a) nodes seat cause = tt
full_means_more (Err e) nodes seat cause = λ is. let full = cause is in more_than_slots nodes seat full.0 full.1
