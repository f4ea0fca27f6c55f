-- What is made of a router stays known.
use Rattle.std.proofs.Common.{refl, ◌≡◌, ap, sym, ◌∙◌, subst, ℕ, zero, suc, List, [], ◌∷◌, Option, Some, None, Result, Ok, Err, IfOk, ◌⊎◌, inl, inr}
use Rattle.std.specs.Prelude.{slice_get, slice_set, unwrap_or}
use Rattle.rc_base.specs.declared.position.Pos.{Pos}
use Rattle.rc_router_sets.specs.Made.{IsKnownIfMade, IsMade}
use Rattle.rc_router_sets.specs.HopParts.{no_parts, part_in, parts_of, with_part}
use Rattle.rc_router_sets.specs.Sent.{forwarded, hops_at, to_router}
use Rattle.rc_router_sets.specs.Steps.{fixed}
use Rattle.rc_router_sets.specs.declared.hop_steps.Part.{Part}
use Rattle.rc_router_sets.specs.declared.hop_steps.Part.TheVariants.{Over, LetOut, Taken, Subnets}
use Rattle.rc_router_sets.specs.declared.router_sets.HopParts.{HopParts}
use Rattle.rc_router_sets.specs.declared.router_sets.RouterSets.{RouterSets}
use Rattle.rc_nodes.specs.Seats.{TableView, SeatView, IsSeatOf, Keeps, SeatKnows}
use Rattle.rc_nodes.specs.declared.words.Ref.{Ref}
use Rattle.rc_route.specs.declared.route.Hop.{Hop}
use Rattle.rc_trees.specs.Recipes.{Recipe, tree}
use Rattle.rc_moves.specs.Moves.{DataPlane, router_of}

pub known_kept : (v w : SeatView) → Keeps v w → (made : Option Ref) (r : Recipe) → IsKnownIfMade v made r → IsKnownIfMade w made r
known_kept v w keeps None r known = tt
known_kept v w keeps (Some s) r known = keeps s.index (tree r) known

-- whatever an operation answers
pub whenever : {A E : Type 0} (result : Result A E) (P : Type 0) → P → IfOk result (λ _. P)
whenever (Ok x) P holds = holds
whenever (Err e) P holds = tt

pub get-set : {A : Type 0} (xs : List A) (k i : ℕ) (y : A) → (slice_get (slice_set xs i y) k ≡ slice_get xs k) ⊎ ((k ≡ i) × (slice_get (slice_set xs i y) k ≡ Some y))
get-set [] k i y = inl refl
get-set (x ∷ xs) zero zero y = inr (refl, refl)
get-set (x ∷ xs) zero (suc i) y = inl refl
get-set (x ∷ xs) (suc k) zero y = inl refl
get-set (x ∷ xs) (suc k) (suc i) y = by (get-set xs k i y)
  where
    by : (slice_get (slice_set xs i y) k ≡ slice_get xs k) ⊎ ((k ≡ i) × (slice_get (slice_set xs i y) k ≡ Some y)) → (slice_get (slice_set xs i y) k ≡ slice_get xs k) ⊎ ((suc k ≡ suc i) × (slice_get (slice_set xs i y) k ≡ Some y))
    by (inl same) = inl same
    by (inr new) = inr (ap suc new.0, new.1)

same_some : {A : Type 0} (o : Option A) (x y : A) → o ≡ Some x → o ≡ Some y → x ≡ y
same_some o x y p q = let e : Some x ≡ Some y = sym p ∙ q in cc

-- a part that is put in is there, and the others stay
part_with : (s : HopParts) (p o : Part) (r : Ref) → (part_in (with_part s p r) o ≡ part_in s o) ⊎ ((o ≡ p) × (part_in (with_part s p r) o ≡ Some r))
part_with s Over Over r = inr (refl, refl)
part_with s Over LetOut r = inl refl
part_with s Over Taken r = inl refl
part_with s Over Subnets r = inl refl
part_with s LetOut Over r = inl refl
part_with s LetOut LetOut r = inr (refl, refl)
part_with s LetOut Taken r = inl refl
part_with s LetOut Subnets r = inl refl
part_with s Taken Over r = inl refl
part_with s Taken LetOut r = inl refl
part_with s Taken Taken r = inr (refl, refl)
part_with s Taken Subnets r = inl refl
part_with s Subnets Over r = inl refl
part_with s Subnets LetOut r = inl refl
part_with s Subnets Taken r = inl refl
part_with s Subnets Subnets r = inr (refl, refl)

module _ (nodes : TableView) (plane : DataPlane) (q : Pos) where
  abbrev r : ℕ
  r = router_of q

  pub made_kept : (made : RouterSets) (v w : SeatView) → IsMade nodes v plane q made → IsSeatOf nodes w → Keeps v w → IsMade nodes w plane q made
  made_kept made v w m table keeps = record {
    table = table;
    hops = m.hops;
    parts = λ k x p at. known_kept v w keeps (part_in (parts_of made.parts.items k) p) (fixed plane r p x) (m.parts k x p at);
    owned = known_kept v w keeps made.owned (to_router plane r) m.owned;
    forwarded = known_kept v w keeps made.forwarded (forwarded plane q) m.forwarded;
  }

  module _ (made next : RouterSets) (v : SeatView) (m : IsMade nodes v plane q made) (hops : next.hops ≡ made.hops) where
    -- with the set of the own addresses
    pub with_owned : next.parts.items ≡ made.parts.items → next.forwarded ≡ made.forwarded → (s : Ref) → next.owned ≡ Some s → SeatKnows v s.index (tree (to_router plane r)) → IsMade nodes v plane q next
    with_owned same still s is known = record {
      table = m.table;
      hops = hops ∙ m.hops;
      parts = λ k x p at. subst (λ o. IsKnownIfMade v (part_in (parts_of o k) p) (fixed plane r p x)) (sym same) (m.parts k x p (ap (λ hs. slice_get hs k) (sym hops) ∙ at));
      owned = subst (λ o. IsKnownIfMade v o (to_router plane r)) (sym is) known;
      forwarded = subst (λ o. IsKnownIfMade v o (forwarded plane q)) (sym still) m.forwarded;
    }

    -- with what is forwarded
    pub with_forwarded : next.parts.items ≡ made.parts.items → next.owned ≡ made.owned → (s : Ref) → next.forwarded ≡ Some s → SeatKnows v s.index (tree (forwarded plane q)) → IsMade nodes v plane q next
    with_forwarded same still s is known = record {
      table = m.table;
      hops = hops ∙ m.hops;
      parts = λ k x p at. subst (λ o. IsKnownIfMade v (part_in (parts_of o k) p) (fixed plane r p x)) (sym same) (m.parts k x p (ap (λ hs. slice_get hs k) (sym hops) ∙ at));
      owned = subst (λ o. IsKnownIfMade v o (to_router plane r)) (sym still) m.owned;
      forwarded = subst (λ o. IsKnownIfMade v o (forwarded plane q)) (sym is) known;
    }

    -- with a part of a hop
    pub noted : next.owned ≡ made.owned → next.forwarded ≡ made.forwarded → (i : ℕ) (x : Hop) (p : Part) (s : Ref) → slice_get (hops_at plane q) i ≡ Some x → next.parts.items ≡ slice_set made.parts.items i (with_part (parts_of made.parts.items i) p s)
        → SeatKnows v s.index (tree (fixed plane r p x)) → IsMade nodes v plane q next
    noted same still i x p s here is known = record {
      table = m.table;
      hops = hops ∙ m.hops;
      parts = λ k y o at. subst (λ all. IsKnownIfMade v (part_in (parts_of all k) o) (fixed plane r o y)) (sym is) (by k y o (ap (λ hs. slice_get hs k) (sym hops) ∙ at) (get-set made.parts.items k i new));
      owned = subst (λ o. IsKnownIfMade v o (to_router plane r)) (sym same) m.owned;
      forwarded = subst (λ o. IsKnownIfMade v o (forwarded plane q)) (sym still) m.forwarded;
    }
      where
        new : HopParts
        new = with_part (parts_of made.parts.items i) p s

        same_hop : (k : ℕ) (y : Hop) → slice_get made.hops k ≡ Some y → k ≡ i → x ≡ y
        same_hop k y at e = same_some (slice_get (hops_at plane q) i) x y here (ap (slice_get (hops_at plane q)) (sym e) ∙ ap (λ hs. slice_get hs k) (sym m.hops) ∙ at)

        one : (k : ℕ) (y : Hop) (o : Part) → slice_get made.hops k ≡ Some y → k ≡ i → (part_in new o ≡ part_in (parts_of made.parts.items i) o) ⊎ ((o ≡ p) × (part_in new o ≡ Some s)) → IsKnownIfMade v (part_in new o) (fixed plane r o y)
        one k y o at e (inl old) = subst (λ z. IsKnownIfMade v z (fixed plane r o y)) (sym old) (subst (λ n. IsKnownIfMade v (part_in (parts_of made.parts.items n) o) (fixed plane r o y)) e (m.parts k y o at))
        one k y o at e (inr there) =
            subst (λ z. IsKnownIfMade v z (fixed plane r o y)) (sym there.1)
            (subst (λ z. SeatKnows v s.index (tree (fixed plane r z y))) (sym there.0) (subst (λ z. SeatKnows v s.index (tree (fixed plane r p z))) (same_hop k y at e) known))

        by : (k : ℕ) (y : Hop) (o : Part) → slice_get made.hops k ≡ Some y
            → (slice_get (slice_set made.parts.items i new) k ≡ slice_get made.parts.items k) ⊎ ((k ≡ i) × (slice_get (slice_set made.parts.items i new) k ≡ Some new))
            → IsKnownIfMade v (part_in (parts_of (slice_set made.parts.items i new) k) o) (fixed plane r o y)
        by k y o at (inl old) = subst (λ z. IsKnownIfMade v (part_in (unwrap_or z no_parts) o) (fixed plane r o y)) (sym old) (m.parts k y o at)
        by k y o at (inr there) = subst (λ z. IsKnownIfMade v (part_in (unwrap_or z no_parts) o) (fixed plane r o y)) (sym there.1) (one k y o at there.0 (part_with (parts_of made.parts.items i) p o s))

pub known_some : (v : SeatView) (made : Option Ref) (r : Recipe) (s : Ref) → made ≡ Some s → IsKnownIfMade v made r → SeatKnows v s.index (tree r)
known_some v made r s is known = subst (λ o. IsKnownIfMade v o r) is known
