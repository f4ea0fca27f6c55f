-- The shortest walk of a packet to an ending that is asked for: of several the one whose choices come first.
use Rattle.std.specs.Prelude.{◌≡◌, ℕ, zero, suc, ◌<◌, ◌⊎◌, Bool, true, false, List, [], ◌∷◌, ◌++◌, Option, Some, None, length, slice_get, if◌then◌else◌}
use Rattle.std.specs.Option.{option_map, option_or}
use Rattle.rc_base.specs.declared.ending.Ends.{Ends}
use Rattle.rc_base.specs.declared.ending.Kind.{Kind}
use Rattle.rc_base.specs.declared.header.Header.{Header}
use Rattle.rc_base.specs.declared.position.Pos.{Pos}
use Rattle.rc_base.specs.Positions.{is_among}
use Rattle.rc_topology.specs.Links.{all_ids}
use Rattle.rc_moves.specs.declared.walk.Move.{Move}
use Rattle.rc_moves.specs.declared.walk.Move.TheVariants.{Next, End}
use Rattle.rc_moves.specs.declared.walk.Stop.{Stop}
use Rattle.rc_moves.specs.declared.walk.Stop.TheVariants.{At, Loop}
use Rattle.rc_moves.specs.declared.walk.Walk.{Walk}
use Rattle.rc_moves.specs.Moves.{DataPlane, moves}
use Rattle.rc_moves.specs.Walks.{IsWalk}

-- ---- lists of choices

-- of two lists that are as long, the first choice that differs is less in this one
abbrev pub IsLess : List ℕ → List ℕ → Type 0
IsLess [] ds = ⊥
IsLess (c ∷ cs) [] = ⊥
IsLess (c ∷ cs) (d ∷ ds) = (c < d) ⊎ ((c ≡ d) × IsLess cs ds)

-- fewer choices come before more, and of as many the first that differ decide
abbrev pub ComeBefore : List ℕ → List ℕ → Type 0
ComeBefore cs ds = (length cs < length ds) ⊎ ((length cs ≡ length ds) × IsLess cs ds)

-- ---- moves

-- further positions of a walk, and its last move
abbrev pub Rest : Type 0
Rest = List Pos × Move

-- what the first of some moves gives that gives something
abbrev pub first_of : {A : Type 0} → (Move → Option A) → List Move → Option A
first_of f [] = None
first_of f (m ∷ ms) = option_or (f m) (first_of f ms)

-- a last move, where it is one that is sought
abbrev pub last_by : (Move → Bool) → Move → Option Rest
last_by is_sought m = if is_sought m then Some ([], m) else None

-- the next position, and what is further from there
abbrev pub rest_by : (Pos → Option Rest) → Move → Option Rest
rest_by further (End kind) = None
rest_by further (Next t) = option_map (λ (r : Rest). (t ∷ r.0, r.1)) (further t)

-- how a walk with this last move stops
abbrev pub stop_by : Move → Stop
stop_by (End kind) = At kind
stop_by (Next t) = Loop

-- an ending that is asked for
abbrev pub is_asked_end : Ends → Move → Bool
is_asked_end ends (Next t) = false
is_asked_end ends (End kind) = is_among ends kind

module _ (plane : DataPlane) (h : Header) where
  -- the choices that bring a packet from a position over these to a last move: at each position the place, among its moves, of the next
  -- one, and at the last that of this move
  abbrev pub AreChoicesTo : Pos → List Pos → Move → List ℕ → Type 0
  AreChoicesTo q ts m [] = ⊥
  AreChoicesTo q [] m (c ∷ cs) = (slice_get (moves plane h q) c ≡ Some m) × (cs ≡ [])
  AreChoicesTo q (t ∷ ts) m (c ∷ cs) = (slice_get (moves plane h q) c ≡ Some (Next t)) × AreChoicesTo t ts m cs

  -- and those to an ending
  abbrev pub AreChoices : Pos → List Pos → Kind → List ℕ → Type 0
  AreChoices q ts kind cs = AreChoicesTo q ts (End kind) cs

  module _ (ends : Ends) where
    -- by these choices a walk from a position comes to an ending that is asked for
    pub record IsWalkTo (q : Pos) (w : Walk) (choices : List ℕ) : Type 0 where
      pub walk : IsWalk plane h q w
      pub kind : Kind
      pub stop : w.stop ≡ At kind
      pub asked : is_among ends kind ≡ true
      pub chosen : AreChoices q walk.steps kind choices

    -- a walk to an ending that is asked for, of which no other such walk's choices come before its own
    pub record IsShortestWalk (q : Pos) (w : Walk) : Type 0 where
      pub choices : List ℕ
      pub walk : IsWalkTo q w choices
      pub first : (v : Walk) (others : List ℕ) → IsWalkTo q v others → (choices ≡ others) ⊎ ComeBefore choices others

    -- no walk from a position comes to such an ending
    abbrev pub NoWalkEnds : Pos → Type 0
    NoWalkEnds q = (v : Walk) (others : List ℕ) → ¬ (IsWalkTo q v others)

  -- ---- the same, computed

  -- the walk whose last move is one that is sought, where that may hang on the positions that were walked
  module _ (is_sought : List Pos → Move → Bool) where
    -- over so many further positions to such a move, by the first choices that lead to one
    abbrev pub rest_of : ℕ → List Pos → Pos → Option Rest
    rest_of zero walked q = first_of (last_by (is_sought walked)) (moves plane h q)
    rest_of (suc more) walked q = first_of (rest_by (λ t. rest_of more (walked ++ t ∷ []) t)) (moves plane h q)

    -- over the fewest further positions: so many, or else one more, and so on
    abbrev pub fewest_from : ℕ → ℕ → Pos → Option Rest
    fewest_from zero few q = rest_of few (q ∷ []) q
    fewest_from (suc more) few q = elim (rest_of few (q ∷ []) q) as (λ _. Option Rest) [ Some rest ↦ Some rest | None ↦ fewest_from more (suc few) q ]

    -- behind the first position each one enters a router by an interface of its own, so that there are no more of these than interfaces
    abbrev pub shortest_by : Pos → Option Walk
    shortest_by q = option_map (λ (r : Rest). record { positions = q ∷ r.0; stop = stop_by r.1 }) (fewest_from (length (all_ids plane.links)) 0 q)

  -- the shortest walk to an ending that is asked for, computed by lengths (`there_is_a_shortest_walk`)
  abbrev pub shortest_walk : Ends → Pos → Option Walk
  shortest_walk ends q = shortest_by (λ walked. is_asked_end ends) q
