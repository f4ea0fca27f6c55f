-- After so many rounds a position has exactly the headers that a walk of at most as many steps brings there.
use Rattle.std.proofs.Common.{refl, ◌≡◌, ap, sym, ◌∙◌, subst, ℕ, zero, suc, ◌≤◌, Bool, true, false, ◌||◌, cond, List, [], ◌∷◌, ◌++◌, length, Contains, inl, inr, ◌⊎◌, arith}
use Rattle.std.specs.Prelude.{◌↔◌}
use Rattle.std.specs.List.{list_any}
use Rattle.std.proofs.lemmas.Bool.{and_parts, and_from, or_cases, or_left, or_right}
use Rattle.std.proofs.lemmas.List.{length-append}
use Rattle.rc_base.proofs.KeepLaws.{In, any_yes}
use Rattle.rc_base.specs.Positions.{same_position}
use Rattle.rc_base.specs.declared.header.Header.{Header}
use Rattle.rc_base.specs.declared.position.Pos.{Pos}
use Rattle.rc_config.specs.Members.{positions}
use Rattle.rc_trees.specs.Trees.{always, never, value}
use Rattle.rc_trees.specs.Recipes.{has}
use Rattle.rc_trees.proofs.RecipeLaws.{has-and, has-fold_or}
use Rattle.rc_base.specs.Header.{IsHeader, bit}
use Rattle.rc_sets.proofs.LongestLaws.{any-in}
use Rattle.rc_moves.proofs.PositionLaws.{same_position-Decides}
use Rattle.rc_moves.specs.Moves.{DataPlane, moves}
use Rattle.rc_moves.specs.Walks.{AreMoves, last_position}
use Rattle.rc_moves.specs.declared.walk.Move.TheVariants.{Next}
use Rattle.rc_router_sets.specs.Edges.{edge}
use Rattle.rc_router_sets.specs.Planes.{IsPlane}
use Rattle.rc_router_sets.specs.Query.{IsBrought, reached}
use Rattle.rc_router_sets.proofs.EdgeLaws.{has-edge}
use Rattle.rc_router_sets.proofs.MoveLaws.{edge_is_move}
use Rattle.rc_router_sets.proofs.PositionLaws.{move_there}
use Rattle.rc_router_sets.proofs.QueryLaws.{coming}

module _ (plane : DataPlane) (ok : IsPlane plane) (h : Header) (header : IsHeader h) (place : Pos) where
  abbrev all : List Pos
  all = positions plane.network

  -- ---- one step more

  more_moves : (p : Pos) (steps : List Pos) (q : Pos) → AreMoves plane h p steps → Contains (moves plane h (last_position p steps)) (Next q) → AreMoves plane h p (steps ++ q ∷ [])
  more_moves p [] q are next = (next, tt)
  more_moves p (t ∷ ts) q are next = (are.0, more_moves t ts q are.1 next)

  last-more : (p : Pos) (steps : List Pos) (q : Pos) → last_position p (steps ++ q ∷ []) ≡ q
  last-more p [] q = refl
  last-more p (t ∷ ts) q = last-more t ts q

  fewer_moves : (p : Pos) (steps : List Pos) (q : Pos) → AreMoves plane h p (steps ++ q ∷ []) → AreMoves plane h p steps × Contains (moves plane h (last_position p steps)) (Next q)
  fewer_moves p [] q are = (tt, are.0)
  fewer_moves p (t ∷ ts) q are = let rest = fewer_moves t ts q are.1 in ((are.0, rest.0), rest.1)

  ends : (t : Pos) (ts : List Pos) → (init : List Pos) × (u : Pos) × (t ∷ ts ≡ init ++ u ∷ [])
  ends t [] = ([], t, refl)
  ends t (u ∷ us) = let rest = ends u us in (t ∷ rest.0, rest.1, ap (λ xs. t ∷ xs) rest.2)

  -- a walk from a position of the network stays in it
  pub stays : (p : Pos) (steps : List Pos) → In p all → AreMoves plane h p steps → In (last_position p steps) all
  stays p [] there are = there
  stays p (t ∷ ts) there are = stays t ts (move_there plane ok h header p t (sym (has-edge plane ok h header p t) ∙ (edge_is_move plane h p t ok header).1 are.0)) are.1

  -- ---- rounds

  at_start : (b : Bool) → value (cond b always never) (bit h) ≡ b
  at_start true = refl
  at_start false = refl

  round : (k : ℕ) (q : Pos) → has (reached plane place (suc k) q) h ≡ (has (reached plane place k q) h || list_any (λ p. has (coming plane place k q p) h) all)
  unfolding reached
  round k q = has-fold_or (coming plane place k q) h (reached plane place k q) all

  pub brought : (k : ℕ) (q : Pos) → has (reached plane place k q) h ≡ true → IsBrought plane h place k q
  unfolding reached
  brought zero q is =
      let same : place ≡ q = (same_position-Decides place q).0 (sym (at_start (same_position place q)) ∙ is) in
      record { steps = []; few = (let x : zero ≤ zero = omega arith in x); moves = tt; there = same }
  brought (suc k) q is = by (or_cases _ _ (sym (round k q) ∙ is)) (brought k q) (brought k)
    where
      by : (has (reached plane place k q) h ≡ true) ⊎ (list_any (λ p. has (coming plane place k q p) h) all ≡ true) → (has (reached plane place k q) h ≡ true → IsBrought plane h place k q) → ((p : Pos) → has (reached plane place k p) h ≡ true → IsBrought plane h place k p) → IsBrought plane h place (suc k) q
      by (inl sooner) before each =
          let w = before sooner in
          record { steps = w.steps; few = (let a = w.few in let x : length w.steps ≤ suc k = omega arith in x); moves = w.moves; there = w.there }
      by (inr now) before each =
          let one = any_yes (λ p. has (coming plane place k q p) h) all now in
          let p = one.0 in
          let parts = and_parts (has (reached plane place k p) h) (has (edge plane p q) h) (sym (has-and h (reached plane place k p) (edge plane p q)) ∙ one.2) in
          let w = each p parts.0 in
          let next : Contains (moves plane h p) (Next q) = (edge_is_move plane h p q ok header).0 parts.1 in
          record {
            steps = w.steps ++ q ∷ [];
            few = (let a = w.few in let b = length-append w.steps (q ∷ []) in let x : length (w.steps ++ q ∷ []) ≤ suc k = omega arith in x);
            moves = more_moves place w.steps q w.moves (subst (λ u. Contains (moves plane h u) (Next q)) (sym w.there) next);
            there = last-more place w.steps q;
          }

  module _ (start : In place all) where
    pub reached_if_brought : (k : ℕ) (steps : List Pos) → length steps ≤ k → AreMoves plane h place steps → has (reached plane place k (last_position place steps)) h ≡ true
    unfolding reached
    reached_if_brought zero [] le are = at_start (same_position place place) ∙ (same_position-Decides place place).1 refl
    reached_if_brought zero (t ∷ ts) le are = absurd (omega arith)
    reached_if_brought (suc k) [] le are = round k place ∙ or_left _ _ (reached_if_brought k [] (omega arith) are)
    reached_if_brought (suc k) (t ∷ ts) le are =
        let split = ends t ts in
        let init = split.0 in
        let u = split.1 in
        let are' : AreMoves plane h place (init ++ u ∷ []) = subst (AreMoves plane h place) split.2 are in
        let parts = fewer_moves place init u are' in
        let p = last_position place init in
        let long = length-append init (u ∷ []) in
        let same = ap length split.2 in
        let before = reached_if_brought k init (let x : length init ≤ k = omega arith in x) parts.0 in
        let edge_has : has (edge plane p u) h ≡ true = (edge_is_move plane h p u ok header).1 parts.1 in
        let coming_has : has (coming plane place k u p) h ≡ true = has-and h (reached plane place k p) (edge plane p u) ∙ and_from _ _ before edge_has in
        let there : has (reached plane place (suc k) u) h ≡ true
        = round k u ∙ or_right _ _ (any-in (λ p. has (coming plane place k u p) h) p all (stays place init start parts.0) coming_has) in
        subst (λ v. has (reached plane place (suc k) v) h ≡ true) (sym (ap (last_position place) split.2 ∙ last-more place init u)) there

    -- after k rounds
    pub reached_is_brought : (k : ℕ) (q : Pos) → (has (reached plane place k q) h ≡ true) ↔ IsBrought plane h place k q
    reached_is_brought k q =
        (brought k q, λ w. subst (λ v. has (reached plane place k v) h ≡ true) w.there (reached_if_brought k w.steps w.few w.moves))
