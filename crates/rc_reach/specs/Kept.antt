-- What a seat knew of a propagation it knows for good.
use Rattle.std.specs.Prelude.{Bool, List}
use Rattle.rc_base.specs.declared.position.Pos.{Pos}
use Rattle.rc_jobs.specs.Kept.{edges_kept, flows_kept}
use Rattle.rc_jobs.specs.declared.flow.Flow.{Flow}
use Rattle.rc_moves.specs.Moves.{DataPlane}
use Rattle.rc_nodes.specs.Seats.{TableView, SeatView, Keeps}
use Rattle.rc_reach.specs.Rounds.{MayCome}
use Rattle.rc_reach.specs.Sectored.{Sectored, MayReachIn}

module _ (v w : SeatView) (keeps : Keeps v w) where
  pub coming_kept : {nodes : TableView} {plane : DataPlane} {place : Pos} {sector : List Bool} {into : List (List Flow)} → MayCome nodes v plane place sector into → MayCome nodes w plane place sector into
  coming_kept m = record { plane_is = m.plane_is; short = m.short; as_many = m.as_many; edges = edges_kept v w keeps m.edges; may = m.may }

  pub sectors_kept : {nodes : TableView} {asked : Sectored} → MayReachIn nodes v asked → MayReachIn nodes w asked
  sectors_kept m = record {
    plane_is = m.plane_is;
    there = m.there;
    number = m.number;
    short = m.short;
    as_many = m.as_many;
    few = m.few;
    edges = edges_kept v w keeps m.edges;
    out = m.out;
    endings = flows_kept v w keeps _ _ m.endings;
    rounds = m.rounds;
    may = m.may;
  }
