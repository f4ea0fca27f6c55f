-- Walks of a packet: lists of positions without repeats, each a move of the one before.
use Rattle.std.specs.Prelude.{◌≡◌, ℕ, suc, Bool, true, List, [], ◌∷◌, length, Contains}
use Rattle.std.specs.List.{list_any, IsDistinct}
use Rattle.rc_base.specs.declared.header.Header.{Header}
use Rattle.rc_base.specs.declared.position.Pos.{Pos}
use Rattle.rc_base.specs.Positions.{same_position}
use Rattle.rc_moves.specs.declared.walk.Move.TheVariants.{Next, End}
use Rattle.rc_moves.specs.declared.walk.Stop.{Stop}
use Rattle.rc_moves.specs.declared.walk.Stop.TheVariants.{At, Loop}
use Rattle.rc_moves.specs.declared.walk.Walk.{Walk}
use Rattle.rc_moves.specs.Moves.{DataPlane, moves}

abbrev pub stands_in : List Pos → Pos → Bool
stands_in qs q = list_any (same_position q) qs

-- the last of some positions, the first of which is given
abbrev pub last_position : Pos → List Pos → Pos
last_position q [] = q
last_position q (t ∷ ts) = last_position t ts

module _ (plane : DataPlane) (h : Header) where
  -- ---- walks, whichever moves the packet takes

  -- each position is among the moves of the one before
  abbrev pub AreMoves : Pos → List Pos → Type 0
  AreMoves q [] = Unit {0}
  AreMoves q (t ∷ ts) = Contains (moves plane h q) (Next t) × AreMoves t ts

  -- in an ending that the last position may take, or before a position that is among these already
  abbrev pub MayStopAt : List Pos → Pos → Stop → Type 0
  MayStopAt walked last (At kind) = Contains (moves plane h last) (End kind)
  MayStopAt walked last Loop = (t : Pos) × Contains (moves plane h last) (Next t) × (stands_in walked t ≡ true)

  -- a walk from a position: a move each time, no position twice, to an ending or up to a repeat
  pub record IsWalk (q : Pos) (w : Walk) : Type 0 where
    pub steps : List Pos
    pub positions : w.positions ≡ q ∷ steps
    pub each : AreMoves q steps
    pub once : IsDistinct same_position (q ∷ steps)
    pub stops : MayStopAt w.positions (last_position q steps) w.stop

  -- ---- moves without end

  -- from a position some walk has one of its own positions among the moves of its last one
  pub record IsLooping (q : Pos) : Type 0 where
    pub walk : Walk
    pub is_walk : IsWalk q walk
    pub back : walk.stop ≡ Loop

  -- so many moves one after another from a position, with or without repeats
  pub record HasChain (q : Pos) (many : ℕ) : Type 0 where
    pub steps : List Pos
    pub as_many : length steps ≡ many
    pub each : AreMoves q steps

  -- moves one after another from a position without end
  pub record GoesOnForEver (q : Pos) : Type 0 where
    pub path : ℕ → Pos
    pub from : path 0 ≡ q
    pub each : (k : ℕ) → Contains (moves plane h (path k)) (Next (path (suc k)))
