-- What goes on from a position, and what is known of it.
use Rattle.std.specs.Prelude.{Bool, filter, length}
use Rattle.rc_base.specs.declared.ending.Ends.{Ends}
use Rattle.rc_base.specs.declared.ending.Kind.{Kind}
use Rattle.rc_base.specs.declared.position.Pos.{Pos}
use Rattle.rc_config.specs.Members.{positions}
use Rattle.rc_router_sets.specs.Edges.{edge}
use Rattle.rc_edges.specs.Given.{IsRow}
use Rattle.rc_router_sets.specs.Made.{IsMade}
use Rattle.rc_edges.specs.Prepare.{end_trees}
use Rattle.rc_router_sets.specs.Query.{kinds_of}
use Rattle.rc_edges.specs.Stops.{AreKnown, sets_of}
use Rattle.rc_edges.specs.declared.position_sets.Sending.{Sending}
use Rattle.rc_nodes.specs.Seats.{TableView, SeatView}
use Rattle.rc_places.specs.Places.{position_at}
use Rattle.rc_trees.specs.Recipes.{tree}
use Rattle.rc_moves.specs.Moves.{DataPlane}

-- what is made of the router is known, what the position sends to each other one, and what may end there of what is asked for, of each
-- choice of kinds
pub record IsSending (nodes : TableView) (seat : SeatView) (plane : DataPlane) (ends : Ends) (q : Pos) (s : Sending) : Type 0 where
  pub made : IsMade nodes seat plane q s.made
  pub row : IsRow seat s.row (length (positions plane.network)) (λ t. tree (edge plane q (position_at plane.network t)))
  pub stops : (these : Kind → Bool) → AreKnown seat (sets_of these s.stops.items) (end_trees plane q (filter these (kinds_of ends)))
