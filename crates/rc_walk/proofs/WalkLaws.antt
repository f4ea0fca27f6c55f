-- A position has one first walk, and it is a walk.
use Rattle.std.proofs.Common.{refl, ◌≡◌, ap, sym, ◌∙◌, subst, true, false, List, [], ◌∷◌, ◌++◌, append_assoc, Some, Contains, arith}
use Rattle.std.specs.List.{IsDistinct, slice_get}
use Rattle.rc_base.specs.declared.header.Header.{Header}
use Rattle.rc_base.specs.declared.position.Pos.{Pos}
use Rattle.rc_base.specs.Positions.{same_position}
use Rattle.rc_moves.specs.declared.walk.Move.TheVariants.{Next, End}
use Rattle.rc_moves.specs.declared.walk.Stop.{Stop}
use Rattle.rc_moves.specs.declared.walk.Stop.TheVariants.{At, Loop}
use Rattle.rc_moves.specs.declared.walk.Walk.{Walk}
use Rattle.rc_moves.specs.Moves.{DataPlane, moves}
use Rattle.rc_walk.specs.FirstWalks.{first_move, AreFirstMoves, StopsAt, IsFirstWalk}
use Rattle.rc_moves.specs.Walks.{stands_in, last_position, AreMoves, MayStopAt, IsWalk}
use Rattle.rc_moves.proofs.PositionLaws.{apart_behind}

pub in_first : {A : Type 0} (xs : List A) (x : A) → slice_get xs 0 ≡ Some x → Contains xs x
in_first [] x e = absurd (cc)
in_first (y ∷ ys) x e = let same : y ≡ x = cc in (0, omega arith, same)

module _ (plane : DataPlane) (h : Header) where
  abbrev Distinct : List Pos → Type 0
  Distinct qs = IsDistinct same_position qs

  -- a walk that stops at a position doesn't go on from it
  stops_once : (before : List Pos) (q u : Pos) (us : List Pos) (s : Stop) → first_move plane h q ≡ Some (Next u) → Distinct (before ++ q ∷ u ∷ us) → StopsAt plane h (before ++ q ∷ []) q s → ⊥
  stops_once before q u us (At kind) e d stop = absurd (cc)
  stops_once before q u us Loop e d stop =
      let same : stop.0 ≡ u = cc (stop.1, e) in
      let there : stands_in (before ++ q ∷ []) u ≡ true = subst (λ t. stands_in (before ++ q ∷ []) t ≡ true) same stop.2 in
      let apart : stands_in (before ++ q ∷ []) u ≡ false = apart_behind (before ++ q ∷ []) us u (subst Distinct (sym (append_assoc before (q ∷ []) (u ∷ us))) d) in
      cc (there, apart)

  stops_alike : (walked : List Pos) (q : Pos) (s r : Stop) → StopsAt plane h walked q s → StopsAt plane h walked q r → s ≡ r
  stops_alike walked q (At kind) (At ending) a b = cc (a, b)
  stops_alike walked q (At kind) Loop a b = absurd (cc (a, b.1))
  stops_alike walked q Loop (At kind) a b = absurd (cc (a.1, b))
  stops_alike walked q Loop Loop a b = refl

  -- two first walks that go on alike from one position, behind the same positions
  same_steps : (before : List Pos) (q : Pos) (ts us : List Pos) (s r : Stop) → AreFirstMoves plane h q ts → AreFirstMoves plane h q us → Distinct (before ++ q ∷ ts) → Distinct (before ++ q ∷ us) → StopsAt plane h (before ++ q ∷ ts) (last_position q ts) s → StopsAt plane h (before ++ q ∷ us) (last_position q us) r → (ts ≡ us) × (s ≡ r)
  same_steps before q [] [] s r f g d e a b = (refl, stops_alike (before ++ q ∷ []) q s r a b)
  same_steps before q [] (u ∷ us) s r f g d e a b = absurd (stops_once before q u us s g.0 e a)
  same_steps before q (t ∷ ts) [] s r f g d e a b = absurd (stops_once before q t ts r f.0 d b)
  same_steps before q (t ∷ ts) (u ∷ us) s r f g d e a b =
      let same : u ≡ t = cc (f.0, g.0) in
      let moved : AreFirstMoves plane h t us = subst (λ x. AreFirstMoves plane h x us) same g.1 in
      let apart : Distinct (before ++ q ∷ t ∷ us) = subst (λ x. Distinct (before ++ q ∷ x ∷ us)) same e in
      let stop : StopsAt plane h (before ++ q ∷ t ∷ us) (last_position t us) r = subst (λ x. StopsAt plane h (before ++ q ∷ x ∷ us) (last_position x us) r) same b in
      let past : (vs : List Pos) → before ++ q ∷ t ∷ vs ≡ (before ++ q ∷ []) ++ t ∷ vs = λ vs. sym (append_assoc before (q ∷ []) (t ∷ vs)) in
      let rest = same_steps (before ++ q ∷ []) t ts us s r f.1 moved (subst Distinct (past ts) d) (subst Distinct (past us) apart) (subst (λ ps. StopsAt plane h ps (last_position t ts) s) (past ts) a) (subst (λ ps. StopsAt plane h ps (last_position t us) r) (past us) stop) in
      (λ i. sym same i ∷ rest.0 i, rest.1)

  -- two first walks of a header from one position are equal
  pub one_first_walk : (q : Pos) (w v : Walk) → IsFirstWalk plane h q w → IsFirstWalk plane h q v → w ≡ v
  one_first_walk q w v a b =
      let stop : StopsAt plane h (q ∷ a.steps) (last_position q a.steps) w.stop = subst (λ ps. StopsAt plane h ps (last_position q a.steps) w.stop) a.positions a.stops in
      let stop' : StopsAt plane h (q ∷ b.steps) (last_position q b.steps) v.stop = subst (λ ps. StopsAt plane h ps (last_position q b.steps) v.stop) b.positions b.stops in
      let same = same_steps [] q a.steps b.steps w.stop v.stop a.first b.first a.once b.once stop stop' in
      let positions : w.positions ≡ v.positions = a.positions ∙ ap (λ ts. q ∷ ts) same.0 ∙ sym b.positions in
      λ i. record { positions = positions i; stop = same.1 i }

  pub among_moves : (q : Pos) (ts : List Pos) → AreFirstMoves plane h q ts → AreMoves plane h q ts
  among_moves q [] f = tt
  among_moves q (t ∷ ts) f = (in_first (moves plane h q) (Next t) f.0, among_moves t ts f.1)

  may_stop : (walked : List Pos) (q : Pos) (s : Stop) → StopsAt plane h walked q s → MayStopAt plane h walked q s
  may_stop walked q (At kind) a = in_first (moves plane h q) (End kind) a
  may_stop walked q Loop a = (a.0, in_first (moves plane h q) (Next a.0) a.1, a.2)

  -- the first walk is a walk
  pub first_walk_is_a_walk : (q : Pos) (w : Walk) → IsFirstWalk plane h q w → IsWalk plane h q w
  first_walk_is_a_walk q w a = record {
    steps = a.steps;
    positions = a.positions;
    each = among_moves q a.steps a.first;
    once = a.once;
    stops = may_stop w.positions (last_position q a.steps) w.stop a.stops;
  }
