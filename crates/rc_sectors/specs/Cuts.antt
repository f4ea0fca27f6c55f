-- All headers cut into sectors, and a set told by what it is in each.
use Rattle.std.specs.Prelude.{◌≡◌, ◌+◌, ◌<◌, ◌≤◌, ℕ, Bool, true, false, List, [], ◌∷◌, ◌++◌, All, length, map, slice_index_or}
use Rattle.rc_nodes.specs.Seats.{TableView, SeatView, SeatKnows}
use Rattle.rc_nodes.specs.declared.words.Ref.{Ref}
use Rattle.rc_trees.specs.Trees.{Tree, HasNodesOf, IsReduced}
use Rattle.rc_sectors.specs.Sectors.{within}

-- how all headers are cut: not at all, or in two halves at the next bit, each of which is cut again
pub data Halves : Type 0 where
  uncut : Halves
  halved : Halves → Halves → Halves

-- the sectors that this makes, in the order of their bits
abbrev pub sectors_of : Halves → List (List Bool)
sectors_of uncut = [] ∷ []
sectors_of (halved low high) = map (λ s. false ∷ s) (sectors_of low) ++ map (λ s. true ∷ s) (sectors_of high)

-- sectors into which all headers are cut: each header is in exactly one of them. None has more bits than a destination
pub record AreCut (sectors : List (List Bool)) : Type 0 where
  pub halves : Halves
  pub are : sectors ≡ sectors_of halves
  pub short : All (λ s. length s ≤ 32) sectors

-- a seat knows what a set is in each of some sectors
pub record AreWithin (seat : SeatView) (sectors : List (List Bool)) (sets : List Ref) (t : Tree) : Type 0 where
  pub as_many : length sets ≡ length sectors
  pub each : (i : ℕ) (d : Ref) (e : List Bool) → i < length sets → SeatKnows seat (slice_index_or sets i d).index (within (slice_index_or sectors i e) t)

-- a set that may be made is known in each sector of a cut
pub record MayPutTogether (nodes : TableView) (seat : SeatView) (sectors : List (List Bool)) (sets : List Ref) : Type 0 where
  pub cut : AreCut sectors
  pub whole : Tree
  pub reduced : IsReduced whole
  pub allowed : HasNodesOf nodes.may whole
  pub are : AreWithin seat sectors sets whole

-- ---- inside

-- the sectors into which one is cut: its bits, and behind them those of each
abbrev pub sectors_below : List Bool → Halves → List (List Bool)
sectors_below sector halves = map (λ s. sector ++ s) (sectors_of halves)

-- behind other sectors come those into which one is cut
pub record AreBelow (sector : List Bool) (before after : List (List Bool)) : Type 0 where
  pub halves : Halves
  pub are : after ≡ before ++ sectors_below sector halves
  pub short : All (λ s. length s ≤ 32) (sectors_below sector halves)

-- the sectors into which one is cut stand in a list from a place on
pub record AreFrom (sectors : List (List Bool)) (at : ℕ) (sector : List Bool) (halves : Halves) : Type 0 where
  pub front : List (List Bool)
  pub back : List (List Bool)
  pub are : sectors ≡ front ++ (sectors_below sector halves ++ back)
  pub place : length front ≡ at

-- those of some sector of so many bits do
pub record StandFrom (sectors : List (List Bool)) (at bits : ℕ) : Type 0 where
  pub sector : List Bool
  pub halves : Halves
  pub as_long : length sector ≡ bits
  pub stand : AreFrom sectors at sector halves

-- a set that was made for what stands from a place on: it is, in a sector of so many bits that is cut into these, each set that the seat
-- knew in each of them; and the place behind them
pub record IsMade (before after : SeatView) (sectors : List (List Bool)) (sets : List Ref) (at bits set end : ℕ) : Type 0 where
  pub behind : (sector : List Bool) (halves : Halves) → length sector ≡ bits → AreFrom sectors at sector halves → end ≡ at + length (sectors_of halves)
  pub knows : (sector : List Bool) (halves : Halves) (t : Tree) → length sector ≡ bits → AreFrom sectors at sector halves → IsReduced t → AreWithin before sectors sets t → SeatKnows after set (within sector t)
