-- The first walk of a packet: the first move each time.
use Rattle.std.specs.Prelude.{◌≡◌, ℕ, zero, suc, true, List, [], ◌∷◌, ◌++◌, Option, Some, None, length, slice_get, if◌then◌else◌}
use Rattle.std.specs.List.{IsDistinct}
use Rattle.rc_base.specs.declared.header.Header.{Header}
use Rattle.rc_base.specs.declared.position.Pos.{Pos}
use Rattle.rc_base.specs.Positions.{same_position}
use Rattle.rc_moves.specs.Moves.{DataPlane, moves}
use Rattle.rc_moves.specs.Walks.{stands_in, last_position}
use Rattle.rc_moves.specs.declared.walk.Move.{Move}
use Rattle.rc_moves.specs.declared.walk.Move.TheVariants.{Next, End}
use Rattle.rc_moves.specs.declared.walk.Stop.{Stop}
use Rattle.rc_moves.specs.declared.walk.Stop.TheVariants.{At, Loop}
use Rattle.rc_moves.specs.declared.walk.Walk.{Walk}
use Rattle.rc_topology.specs.Links.{all_ids}

module _ (plane : DataPlane) (h : Header) where
  -- the first move at a position
  abbrev pub first_move : Pos → Option Move
  first_move q = slice_get (moves plane h q) 0

  -- each position is the first move of the one before
  abbrev pub AreFirstMoves : Pos → List Pos → Type 0
  AreFirstMoves q [] = Unit {0}
  AreFirstMoves q (t ∷ ts) = (first_move q ≡ Some (Next t)) × AreFirstMoves t ts

  -- at its ending, or before a position that is among these already
  abbrev pub StopsAt : List Pos → Pos → Stop → Type 0
  StopsAt walked last (At kind) = first_move last ≡ Some (End kind)
  StopsAt walked last Loop = (t : Pos) × (first_move last ≡ Some (Next t)) × (stands_in walked t ≡ true)

  -- the first walk from a position: the first move each time, no position twice, to its ending or up to the first repeat
  pub record IsFirstWalk (q : Pos) (w : Walk) : Type 0 where
    pub steps : List Pos
    pub positions : w.positions ≡ q ∷ steps
    pub first : AreFirstMoves q steps
    pub once : IsDistinct same_position (q ∷ steps)
    pub stops : StopsAt w.positions (last_position q steps) w.stop

  -- ---- the same, computed

  -- on from the positions that are walked by the first move of the last one. Where each hop says where a packet goes there is one.
  abbrev pub follow : (Pos → Walk) → List Pos → Option Move → Walk
  follow go_on walked (Some (End kind)) = record { positions = walked; stop = At kind }
  follow go_on walked (Some (Next t)) = let rest = go_on t in if stands_in walked t then record { positions = walked; stop = Loop } else rest
  follow go_on walked None = record { positions = walked; stop = Loop }

  -- behind the positions that are walked the first walk from the next one, where at most so many positions are to come
  abbrev pub first_walk_on : ℕ → List Pos → Pos → Walk
  first_walk_on zero walked q = record { positions = walked; stop = Loop }
  first_walk_on (suc more) walked q = follow (first_walk_on more (walked ++ q ∷ [])) (walked ++ q ∷ []) (first_move q)

  -- the first walk from a position. Behind that one each position enters a router, by an interface of its own: the count never
  -- runs out (`there_is_a_first_walk`).
  abbrev pub first_walk : Pos → Walk
  first_walk q = first_walk_on (suc (length (all_ids plane.links))) [] q
