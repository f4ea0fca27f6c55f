-- Where a search for a move that meets a goal stands, as the program has it.
use Rattle.std.specs.Prelude.{◌≡◌, ℕ, ◌+◌, ◌<◌, ◌≤◌, Bool, true, List, [], ◌∷◌, ◌++◌, map, length, slice_get, slice_index, slice_index_or, Option, Some, None, if◌then◌else◌}
use Rattle.std.specs.List.{IsDistinct}
use Rattle.rc_base.specs.declared.header.Header.{Header}
use Rattle.rc_base.specs.declared.position.Pos.{Pos}
use Rattle.rc_base.specs.Positions.{same_position}
use Rattle.rc_walk.specs.declared.goal.Goal.{Goal}
use Rattle.rc_moves.specs.declared.walk.Move.{Move}
use Rattle.rc_moves.specs.declared.walk.Move.TheVariants.{Next, End}
use Rattle.rc_walk.specs.Goals.{is_met, is_met_by}
use Rattle.rc_moves.specs.Moves.{DataPlane, moves}
use Rattle.rc_walk.specs.Search.{IsSearch}
use Rattle.rc_moves.specs.Walks.{stands_in}

-- where a move leads on
abbrev pub position_of : Option Move → Option Pos
position_of None = None
position_of (Some (Next t)) = Some t
position_of (Some (End kind)) = None

-- ---- one move is looked at

-- the positions found, with the next one where it is new
abbrev pub found_with : List Pos → Move → List Pos
found_with found (Next t) = if stands_in found t then found else found ++ t ∷ []
found_with found (End kind) = found

-- the places from which moves lead there, with this one
abbrev pub from_with : List Pos → List ℕ → ℕ → Move → List ℕ
from_with found from place (Next t) = if stands_in found t then from else from ++ place ∷ []
from_with found from place (End kind) = from

-- and the choices that lead there, with this one
abbrev pub by_with : List Pos → List ℕ → ℕ → Move → List ℕ
by_with found by c (Next t) = if stands_in found t then by else by ++ c ∷ []
by_with found by c (End kind) = by

-- ---- back from a place, by the places from which moves lead there: the positions and the choices, the last first

pub data WaysBack (found : List Pos) (from by : List ℕ) : ℕ → List Pos → List ℕ → Type 0 where
  at_first : {p : Pos} → slice_get found 0 ≡ Some p → WaysBack found from by 0 (p ∷ []) []
  further : {j : ℕ} {p : Pos} {ps : List Pos} {cs : List ℕ} → 0 < j → slice_get found j ≡ Some p → WaysBack found from by (slice_index from j) ps cs → WaysBack found from by j (p ∷ ps) (slice_index by j ∷ cs)

-- each place but the first has an earlier one
abbrev pub AreLinked : List Pos → List ℕ → Type 0
AreLinked found from = (j : ℕ) → 0 < j → j < length found → slice_index from j < j

-- ---- the search

abbrev pub Entry : Type 0
Entry = Pos × List ℕ

module _ (plane : DataPlane) (h : Header) where
  abbrev pub leads_to : Pos → ℕ → Option Pos
  leads_to q c = position_of (slice_get (moves plane h q) c)

  -- by one choice more
  pub record IsLed (start : Pos) (all : List Entry) (j from choice : ℕ) : Type 0 where
    pub earlier : from < j
    pub choices : (slice_index_or all j (start, [])).1 ≡ choice ∷ (slice_index_or all from (start, [])).1
    pub on : slice_get (moves plane h (slice_index_or all from (start, [])).0) choice ≡ Some (Next (slice_index_or all j (start, [])).0)

  module _ (goal : Goal) where
    abbrev pub meets_by : Pos → ℕ → Bool
    meets_by q c = is_met_by goal (slice_get (moves plane h q) c)

    -- the positions found are those of a search that has looked at c moves of the position at a place
    pub record IsUnderWay (start : Pos) (found : List Pos) (from by : List ℕ) (place c : ℕ) : Type 0 where
      pub done : List Entry
      pub here : Entry
      pub rest : List Entry
      pub search : IsSearch leads_to meets_by start done here rest c
      pub at_place : length done ≡ place
      pub spots : map (λ (e : Entry). e.0) (done ++ here ∷ rest) ≡ found
      pub once : IsDistinct same_position found
      pub first : slice_index_or (done ++ here ∷ rest) 0 (start, []) ≡ (start, [])
      pub as_many : length from ≡ length found
      pub as_many_by : length by ≡ length found
      pub led : (j : ℕ) → 0 < j → j < length found → IsLed start (done ++ here ∷ rest) j (slice_index from j) (slice_index by j)

    -- and the next move is what is looked for
    pub record IsAtEnd (start : Pos) (found : List Pos) (from by : List ℕ) (place choice : ℕ) (last : Move) : Type 0 where
      pub way : IsUnderWay start found from by place choice
      pub ended : slice_get (moves plane h way.here.0) choice ≡ Some last
      pub met : is_met goal last ≡ true

    -- and there is no further move
    pub record HasLooked (start : Pos) (found : List Pos) (from by : List ℕ) (place : ℕ) : Type 0 where
      pub many : ℕ
      pub way : IsUnderWay start found from by place many
      pub all : length (moves plane h way.here.0) ≤ many

-- all moves of all positions were looked at, the last one's too
pub record IsAllLooked (plane : DataPlane) (h : Header) (goal : Goal) (start : Pos) (found : List Pos) (from by : List ℕ) : Type 0 where
  pub place : ℕ
  pub looked : HasLooked plane h goal start found from by place
  pub whole : place + 1 ≡ length found
