-- The shortest walk of a packet that comes back to one of its own positions: of several the one whose choices come first.
use Rattle.std.specs.Prelude.{◌≡◌, ℕ, ◌⊎◌, Bool, true, false, List, ◌∷◌, Option}
use Rattle.std.specs.List.{IsDistinct}
use Rattle.rc_base.specs.declared.header.Header.{Header}
use Rattle.rc_base.specs.declared.position.Pos.{Pos}
use Rattle.rc_base.specs.Positions.{same_position}
use Rattle.rc_moves.specs.declared.walk.Move.{Move}
use Rattle.rc_moves.specs.declared.walk.Move.TheVariants.{Next, End}
use Rattle.rc_moves.specs.declared.walk.Stop.TheVariants.{Loop}
use Rattle.rc_moves.specs.declared.walk.Walk.{Walk}
use Rattle.rc_moves.specs.Moves.{DataPlane}
use Rattle.rc_walk.specs.ShortestWalks.{AreChoicesTo, ComeBefore, shortest_by}
use Rattle.rc_moves.specs.Walks.{stands_in}

-- a move onto a position that was walked
abbrev pub is_back : List Pos → Move → Bool
is_back walked (Next t) = stands_in walked t
is_back walked (End kind) = false

module _ (plane : DataPlane) (h : Header) where
  -- by these choices a walk from a position, which passes none twice, comes back to one of its own
  pub record IsLoop (q : Pos) (w : Walk) (choices : List ℕ) : Type 0 where
    pub steps : List Pos
    pub back : Pos
    pub positions : w.positions ≡ q ∷ steps
    pub stop : w.stop ≡ Loop
    pub among : stands_in (q ∷ steps) back ≡ true
    pub chosen : AreChoicesTo plane h q steps (Next back) choices
    pub once : IsDistinct same_position (q ∷ steps)

  -- a walk that comes back to one of its own positions, of which no other such walk's choices come before its own; the returning move's
  -- is the last of them
  pub record IsShortestLoop (q : Pos) (w : Walk) : Type 0 where
    pub choices : List ℕ
    pub loop : IsLoop q w choices
    pub first : (v : Walk) (others : List ℕ) → IsLoop q v others → (choices ≡ others) ⊎ ComeBefore choices others

  -- no walk from a position comes back to one of its own
  abbrev pub NoLoop : Pos → Type 0
  NoLoop q = (v : Walk) (others : List ℕ) → ¬ (IsLoop q v others)

  -- ---- the same, computed

  -- the shortest walk that comes back to one of its own positions, computed by lengths (`there_is_a_shortest_loop`)
  abbrev pub shortest_loop : Pos → Option Walk
  shortest_loop q = shortest_by plane h is_back q
