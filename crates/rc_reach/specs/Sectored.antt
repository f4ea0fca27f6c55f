-- A question that is answered sector by sector.
use Rattle.std.specs.Prelude.{◌≡◌, ℕ, ◌≤◌, All, Bool, List, [], length, slice_index_or}
use Rattle.rc_base.specs.declared.ending.Ends.{Ends}
use Rattle.rc_base.specs.declared.position.Pos.{Pos}
use Rattle.rc_config.specs.Lawful.{IsPosition}
use Rattle.rc_config.specs.Members as members
use Rattle.rc_edges.specs.Prepare.{edge_at, ends_at}
use Rattle.rc_jobs.specs.Flows.{KnowsEdges, KnowsFlows, real_endings}
use Rattle.rc_jobs.specs.declared.flow.Flow.{Flow}
use Rattle.rc_moves.specs.Moves.{DataPlane}
use Rattle.rc_nodes.specs.Seats.{TableView, SeatView}
use Rattle.rc_places.specs.Places.{number_of}
use Rattle.rc_router_sets.specs.Planes.{IsPlane}
use Rattle.rc_router_sets.specs.Query.{query_nodes, reaching}
use Rattle.rc_sectors.specs.Sectors.{within}
use Rattle.rc_spread.specs.Turned.{AreOut}
use Rattle.rc_trees.specs.Recipes.{tree}
use Rattle.rc_trees.specs.Trees.{Tree, HasNodes}
use Rattle.rc_reach.specs.Rounds.{MayRounds}

-- what is asked, by the flows into positions, the flows out of them, those of the endings asked for, and some sectors
pub record Sectored : Type 0 where
  pub plane : DataPlane
  pub place : Pos
  pub place_number : ℕ
  pub ends : Ends
  pub into : List (List Flow)
  pub out_of : List (List Flow)
  pub flows : List Flow
  pub sectors : List (List Bool)

-- it may be answered in each of the sectors: the seat knows the edges and the endings, and the operations of all rounds, and those of the
-- answer, may be done
pub record MayReachIn (nodes : TableView) (seat : SeatView) (asked : Sectored) : Type 0 where
  pub plane_is : IsPlane asked.plane
  pub there : IsPosition asked.plane.network asked.place
  pub number : asked.place_number ≡ number_of asked.plane.network asked.place
  pub short : All (λ s. length s ≤ 32) asked.sectors
  pub as_many : length asked.into ≡ length (members.positions asked.plane.network)
  pub few : length asked.into ≤ 131584
  pub edges : KnowsEdges seat asked.into (edge_at asked.plane)
  pub out : AreOut asked.into (length asked.into) asked.out_of
  pub endings : KnowsFlows seat asked.flows (real_endings (ends_at asked.plane asked.ends) (length (members.positions asked.plane.network)))
  pub rounds : MayRounds nodes.may asked.plane asked.place (length asked.into)
  pub may : HasNodes nodes.may (query_nodes asked.plane asked.place asked.ends)

-- what the answer is in the sector of a number
abbrev pub answer_in : Sectored → ℕ → Tree
answer_in asked i = within (slice_index_or asked.sectors i []) (tree (reaching asked.plane asked.place asked.ends))
