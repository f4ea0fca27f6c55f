-- Rounds of propagation from a place.
use Rattle.std.specs.Prelude.{◌≡◌, ℕ, ◌<◌, ◌≤◌, Bool, List, length}
use Rattle.rc_base.specs.Header.{bit_count}
use Rattle.rc_base.specs.declared.position.Pos.{Pos}
use Rattle.rc_config.specs.Members as members
use Rattle.rc_edges.specs.Prepare.{edge_at}
use Rattle.rc_router_sets.specs.Planes.{IsPlane}
use Rattle.rc_router_sets.specs.Query.{reached}
use Rattle.rc_sectors.specs.Sectors.{within}
use Rattle.rc_jobs.specs.Flows.{KnowsEdges, edges_to, positions}
use Rattle.rc_jobs.specs.declared.flow.Flow.{Flow}
use Rattle.rc_moves.specs.Moves.{DataPlane}
use Rattle.rc_nodes.specs.Seats.{TableView, SeatView}
use Rattle.rc_places.specs.Places.{position_at}
use Rattle.rc_spread.specs.Gathered.{MayGather}
use Rattle.rc_trees.specs.Recipes.{tree}
use Rattle.rc_trees.specs.Trees.{Tree}

-- the tree of the headers that the position of a number has got from a place after so many rounds
abbrev pub reached_at : DataPlane → Pos → ℕ → ℕ → Tree
reached_at plane place k q = tree (reached plane place k (position_at plane.network q))

-- the operations of all rounds from a place, at so many positions, may be done
abbrev pub MayRounds : List Tree → DataPlane → Pos → ℕ → Type 0
MayRounds may plane place count = (k q : ℕ) → k < count → q < count → MayGather may (reached_at plane place k) (reached_at plane place k q) (edges_to (edge_at plane) (positions count) q)

-- what the position of a number has got of the headers of a sector
abbrev pub reached_in : DataPlane → Pos → List Bool → ℕ → ℕ → Tree
reached_in plane place sector k q = within sector (reached_at plane place k q)

-- the headers of a place may be propagated in a sector: the seat knows the edges into each position, and the operations of all rounds may be
-- done
pub record MayCome (nodes : TableView) (seat : SeatView) (plane : DataPlane) (place : Pos) (sector : List Bool) (into : List (List Flow)) : Type 0 where
  pub plane_is : IsPlane plane
  pub short : length sector ≤ bit_count
  pub as_many : length into ≡ length (members.positions plane.network)
  pub edges : KnowsEdges seat into (edge_at plane)
  pub may : MayRounds nodes.may plane place (length into)
