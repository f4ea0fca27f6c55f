-- What a position sends to others so far, and the flows of the positions before it.
use Rattle.std.specs.Prelude.{◌≡◌, ℕ, ◌<◌, ◌==◌, All, Bool, false, not, ◌&&◌, Option, Some, None, List, [], ◌∷◌, ◌++◌, length, filter, flat_map, slice_get, slice_index_or, unwrap_or, if◌then◌else◌}
use Rattle.std.specs.List.{fold, list_any}
use Rattle.rc_base.specs.Positions.{same_interface}
use Rattle.rc_base.specs.declared.position.IfId.{IfId}
use Rattle.rc_base.specs.declared.position.Pos.{Pos}
use Rattle.rc_base.specs.declared.position.Pos.TheVariants.{Own, Entering}
use Rattle.rc_router_sets.specs.Edges.{takes, towards, union}
use Rattle.rc_edges.specs.declared.outgoing.Row.{Row}
use Rattle.rc_jobs.specs.Collecting.{with_flow}
use Rattle.rc_jobs.specs.Flows.{no_header}
use Rattle.rc_jobs.specs.declared.flow.Flow.{Flow}
use Rattle.rc_nodes.specs.Seats.{TableView, SeatView, SeatKnows}
use Rattle.rc_nodes.specs.declared.words.Ref.{Ref}
use Rattle.rc_places.specs.Places.{position_at}
use Rattle.rc_route.specs.declared.route.Hop.{Hop}
use Rattle.rc_route.specs.declared.route.Hop.TheVariants.{Null, Dev, Via}
use Rattle.rc_topology.specs.Links.{are_linked, linked, port_is, takers}
use Rattle.rc_topology.specs.Ports.{is_loopback}
use Rattle.rc_topology.specs.Topology.{Topology}
use Rattle.rc_trees.specs.Recipes.{Recipe, parts, tree}
use Rattle.rc_trees.specs.Trees.{Tree, HasNodes}
use Rattle.rc_moves.specs.Moves.{DataPlane}

-- ---- what one position sends

-- the set of a number, where there is one
abbrev pub set_at : List (Option Ref) → ℕ → Option Ref
set_at sets t = unwrap_or (slice_get sets t) None

abbrev pub no_set : Option Ref
no_set = None

-- that of no header where there is none
abbrev pub or_none : Option Ref → Ref
or_none o = unwrap_or o no_header

-- a number as often as it is among some
abbrev pub those : ℕ → List ℕ → List ℕ
those t us = filter (λ u. t == u) us

-- once where there is a set
abbrev pub touch_of : Option Ref → ℕ → List ℕ
touch_of None t = []
touch_of (Some r) t = t ∷ []

-- with a number that had no set before
abbrev pub touched_with : List ℕ → Option Ref → ℕ → List ℕ
touched_with us None n = us ++ n ∷ []
touched_with us (Some r) n = us

-- to each position these sets are known, and each that has one is among the touched ones once
pub record IsRow (seat : SeatView) (row : Row) (count : ℕ) (sent : ℕ → Tree) : Type 0 where
  pub as_many : length row.sets.items ≡ count
  pub sets : (t : ℕ) → t < count → SeatKnows seat (or_none (set_at row.sets.items t)).index (sent t)
  pub within : All (λ t. t < count) row.touched.items
  pub once : (t : ℕ) → t < count → those t row.touched.items ≡ touch_of (set_at row.sets.items t) t

-- what some sets give to each position
abbrev pub joined : (ℕ → List Recipe) → ℕ → Tree
joined given t = tree (union (given t))

-- nothing yet
abbrev pub nothing : ℕ → List Recipe
nothing t = []

-- and these sets to one position
abbrev pub with_sets : (ℕ → List Recipe) → ℕ → List Recipe → ℕ → List Recipe
with_sets given n sets t = if t == n then given t ++ sets else given t

-- after the step one position has got these sets too
pub record Gives (before after : SeatView) (row next : Row) (onto : ℕ) (sets : List Recipe) : Type 0 where
  pub as_many : length next.sets.items ≡ length row.sets.items
  pub gives : (given : ℕ → List Recipe) → IsRow before row (length row.sets.items) (joined given) → IsRow after next (length row.sets.items) (joined (with_sets given onto sets))

-- one position may get these sets too
pub record MayGet (nodes : TableView) (seat : SeatView) (row : Row) (onto : ℕ) (sets : List Recipe) : Type 0 where
  pub given : ℕ → List Recipe
  pub is_row : IsRow seat row (length row.sets.items) (joined given)
  pub allowed : HasNodes nodes.may (parts (union (given onto ++ sets)))

-- a known set may be given to one position
pub record MayGive (nodes : TableView) (seat : SeatView) (row : Row) (onto set : ℕ) : Type 0 where
  pub more : Recipe
  pub knows : SeatKnows seat set (tree more)
  pub may : MayGet nodes seat row onto (more ∷ [])

-- ---- hop by hop

-- what one hop gives towards a position
abbrev pub sets_to : DataPlane → Pos → Pos → Hop → List Recipe
sets_to plane q (Own r) x = []
sets_to plane q (Entering t) x = towards plane q t x

-- the interfaces onto which a hop leads
abbrev pub hop_targets : Topology → Hop → List IfId
hop_targets links Null = []
hop_targets links (Dev i) = if port_is links is_loopback i then [] else linked links i
hop_targets links (Via g None) = []
hop_targets links (Via g (Some i)) = if port_is links is_loopback i then [] else takers links i g

-- a hop leads onto an interface
abbrev pub leads_onto : Topology → Hop → IfId → Bool
leads_onto links Null t = false
leads_onto links (Dev i) t = not (port_is links is_loopback i) && are_linked links i t
leads_onto links (Via g None) t = false
leads_onto links (Via g (Some i)) t = not (port_is links is_loopback i) && takes links i g t

-- a position is one where a packet enters by one of these interfaces
abbrev pub is_entry : List IfId → Pos → Bool
is_entry ts (Own r) = false
is_entry ts (Entering t) = list_any (same_interface t) ts

-- what some hops give to each position, and one hop more onto some interfaces
abbrev pub given_by : DataPlane → Pos → List Hop → ℕ → List Recipe
given_by plane q xs t = flat_map (sets_to plane q (position_at plane.network t)) xs

abbrev pub given_onto : DataPlane → Pos → List Hop → Hop → List IfId → ℕ → List Recipe
given_onto plane q xs x ts t =
    given_by plane q xs t ++ (if is_entry ts (position_at plane.network t) then sets_to plane q (position_at plane.network t) x else [])

-- ---- flows

-- behind some flows those of the sets of some numbers
abbrev pub flows_with : List (Option Ref) → ℕ → List Flow → List ℕ → List Flow
flows_with sets from flows us = fold (λ fs u. with_flow fs from (or_none (set_at sets u))) flows us

-- behind the flows into each position stands what a row sends there
pub record AreFlushed (into : List (List Flow)) (row : Row) (from : ℕ) (after : List (List Flow)) : Type 0 where
  pub as_many : length after ≡ length into
  pub each : (t : ℕ) (d : List Flow) → t < length into → slice_index_or after t d ≡ flows_with row.sets.items from (slice_index_or into t []) (those t row.touched.items)
