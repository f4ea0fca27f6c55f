-- Choices that lead from a position to another one, and back to it, listed the last one first.
use Rattle.std.specs.Prelude.{◌≡◌, ℕ, ◌<◌, ◌⊎◌, true, List, ◌∷◌, ◌++◌, Option, Some, MatchOption, reverse, slice_get}
use Rattle.rc_base.specs.declared.header.Header.{Header}
use Rattle.rc_base.specs.declared.position.Pos.{Pos}
use Rattle.rc_moves.specs.Moves.{DataPlane}
use Rattle.rc_walk.specs.Search.{Lead}
use Rattle.rc_walk.specs.ShortestWalks.{ComeBefore, AreChoicesTo}
use Rattle.rc_moves.specs.Walks.{stands_in}
use Rattle.rc_moves.specs.declared.walk.Move.TheVariants.{Next}
use Rattle.rc_walk.specs.declared.way.Way.{Way}
use Rattle.rc_walk.specs.Searching.{leads_to}

-- choices that are others, or come before them
abbrev pub IsUpTo : List ℕ → List ℕ → Type 0
IsUpTo cs ds = (cs ≡ ds) ⊎ ComeBefore cs ds

module _ (plane : DataPlane) (h : Header) where
  -- the choices lead from one position to another
  abbrev pub LeadFrom : Pos → List ℕ → Pos → Type 0
  LeadFrom q cs t = Lead (leads_to plane h) q cs t

  -- they lead to a position, and by at least one more back to it
  pub record IsLasso (q : Pos) (choices : List ℕ) : Type 0 where
    pub turn : Pos
    pub path : List ℕ
    pub last : ℕ
    pub back : List ℕ
    pub made : choices ≡ (last ∷ back) ++ path
    pub out : LeadFrom q path turn
    pub home : LeadFrom turn (last ∷ back) turn

  -- by these choices these positions are passed, and the last one leads onto one of them
  pub record IsRound (q : Pos) (steps : List Pos) (choices : List ℕ) : Type 0 where
    pub onto : Pos
    pub chosen : AreChoicesTo plane h q steps (Next onto) choices
    pub among : stands_in (q ∷ steps) onto ≡ true

  -- a way back whose choices come no later than others that turn at these positions
  pub record IsFirstRound (q : Pos) (turns : Pos → Type 0) (way : Way) : Type 0 where
    pub steps : List Pos
    pub positions : way.positions.items ≡ q ∷ steps
    pub round : IsRound q steps way.choices.items
    pub first : (others : List ℕ) (l : IsLasso q others) → turns l.turn → IsUpTo way.choices.items (reverse others)

  -- nothing turns at them
  pub record NoRound (q : Pos) (turns : Pos → Type 0) : Type 0 where
    pub none : (others : List ℕ) (l : IsLasso q others) → turns l.turn → ⊥

  abbrev pub IsBest : Pos → (Pos → Type 0) → Option Way → Type 0
  IsBest q turns way = MatchOption way (NoRound q turns) (IsFirstRound q turns)

-- one position
abbrev pub itself : Pos → Pos → Type 0
itself t p = p ≡ t

-- one of the first so many positions that were found
pub record IsOneOfFirst (found : List Pos) (count : ℕ) (p : Pos) : Type 0 where
  pub place : ℕ
  pub low : place < count
  pub there : slice_get found place ≡ Some p
