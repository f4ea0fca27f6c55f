-- What is made of a share.
use Rattle.std.specs.Prelude.{ℕ, Result, IfOk, IfErr}
use Rattle.rc_bdd.specs.Work.{IsCause}
use Rattle.rc_bdd.specs.declared.work.SetError.{SetError}
use Rattle.rc_nodes.specs.Seats.{IsSeatOf, Keeps, SeatView, TableView}

-- a worker who had a seat has this one of the same table, which knows all that the other knew and what was made of the items from one
-- number up to another; or there is a cause for which nothing was made
pub record IsMadeOf {X : Type 0} (nodes : TableView) (knows : SeatView → ℕ → ℕ → X → Type 0) (before : SeatView) (from to : ℕ) (after : SeatView) (outcome : Result X SetError) : Type 0 where
  pub seat : IsSeatOf nodes after
  pub keeps : Keeps before after
  pub made : IfOk outcome (knows after from to)
  pub cause : IfErr outcome (IsCause nodes after)
