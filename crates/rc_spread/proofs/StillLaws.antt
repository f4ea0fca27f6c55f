-- Where nothing new has come nothing new is sent, and a round that changes nothing is the last one.
use Rattle.std.proofs.Common.{refl, ◌≡◌, ap, sym, ◌∙◌, subst, ℕ, zero, suc, ◌+◌, ◌<◌, List, [], ◌∷◌, slice_index_or, length, All, arith}
use Rattle.std.proofs.lemmas.List.Elements.{All-head, All-tail}
use Rattle.std.proofs.lemmas.List.FromFn.{length-map-range_with_len, get_or-map-range_with_len}
use Rattle.rc_trees.specs.Trees.{Tree, never}
use Rattle.rc_trees.specs.Combine.{and, or}
use Rattle.rc_jobs.specs.Flows.{edges_to, positions}
use Rattle.rc_spread.specs.Known.{StaysStill}
use Rattle.rc_spread.specs.Onward.{onward, turned}
use Rattle.rc_spread.specs.Gathered.{before, gathered, IsInside}
use Rattle.rc_spread.proofs.GatherLaws.{nothing_sent, sent_inside}
use Rattle.rc_spread.proofs.PositionLaws.{edges_all}

-- what is gathered depends on the sets of the sources alone
pub gathered_agree : (f g : ℕ → Tree) (fs : List (ℕ × Tree)) (s : Tree) → All (λ (e : ℕ × Tree). f e.0 ≡ g e.0) fs → gathered f s fs ≡ gathered g s fs
gathered_agree f g [] s all = refl
gathered_agree f g (e ∷ es) s all =
    ap (λ t. gathered f (or s (and t e.1)) es) (All-head (λ (e : ℕ × Tree). f e.0 ≡ g e.0) e es all) ∙ gathered_agree f g es (or s (and (g e.0) e.1)) (All-tail (λ (e : ℕ × Tree). f e.0 ≡ g e.0) e es all)

-- sets of which each position gets in a round what all positions send there
module _ (edge : ℕ → ℕ → Tree) (count : ℕ) (sets : ℕ → ℕ → Tree) (round : (k q : ℕ) → sets (suc k) q ≡ gathered (sets k) (sets k q) (edges_to edge (positions count) q)) where
  -- what a position sends has come a round later
  comes : (k p q : ℕ) → p < count → IsInside (and (sets k p) (edge p q)) (sets (suc k) q)
  comes k p q less =
      let flows : List (ℕ × Tree) = edges_to edge (positions count) q in
      let many : length flows ≡ count = length-map-range_with_len (λ p. (p, edge p q)) 0 count in
      let at : slice_index_or flows p (p, edge p q) ≡ (p, edge p q) = get_or-map-range_with_len (λ p. (p, edge p q)) 0 count p p (p, edge p q) less (omega arith) in
      let inside : IsInside (and (sets k p) (edge p q)) (gathered (sets k) (sets k q) flows) = subst (λ (f : ℕ × Tree). IsInside (and (sets k f.0) f.1) (gathered (sets k) (sets k q) flows)) at (sent_inside (sets k) flows (sets k q) p (p, edge p q) (omega arith)) in
      subst (λ (t : Tree). IsInside (and (sets k p) (edge p q)) t) (sym (round k q)) inside

  -- a position that got nothing in the last round sends nothing new
  pub settled_inside : (k p q : ℕ) → p < count → sets k p ≡ before sets k p → IsInside (and (sets k p) (edge p q)) (sets k q)
  settled_inside zero p q less still = subst (λ t. IsInside (and t (edge p q)) (sets 0 q)) (sym still) (nothing_sent (edge p q) (sets 0 q))
  settled_inside (suc k) p q less still = subst (λ t. IsInside (and t (edge p q)) (sets (suc k) q)) (sym still) (comes k p q less)

  -- a round that changes nothing is followed by none that does
  pub gathered_still : StaysStill sets count
  gathered_still = record {
    next = λ k still q less.
        round (suc k) q
        ∙ ap (λ s. gathered (sets (suc k)) s (edges_to edge (positions count) q)) (still q less)
        ∙ gathered_agree (sets (suc k)) (sets k) (edges_to edge (positions count) q) (sets k q) (edges_all (λ p. sets (suc k) p ≡ sets k p) edge count q still)
        ∙ sym (round k q);
  }

-- a round by which nothing less goes on is followed by none by which less does
pub onward_still : (edge : ℕ → ℕ → Tree) (count : ℕ) → StaysStill (onward edge count) count
unfolding onward
onward_still edge count = record {
  next = λ k still q less.
      gathered_agree (onward edge count (suc k)) (onward edge count k) (edges_to (turned edge) (positions count) q) never (edges_all (λ p. onward edge count (suc k) p ≡ onward edge count k p) (turned edge) count q still);
}

-- nothing new in a round for all n later ones
module _ (sets : ℕ → ℕ → Tree) (count : ℕ) (stays : StaysStill sets count) (k : ℕ) (still : (q : ℕ) → q < count → sets (suc k) q ≡ sets k q) where
  stays_so : (n q : ℕ) → q < count → sets (suc (n + k)) q ≡ sets (n + k) q
  stays_so zero q less = let e : zero + k ≡ k = omega arith in subst (λ m. sets (suc m) q ≡ sets m q) (sym e) (still q less)
  stays_so (suc n) q less =
      let e : suc n + k ≡ suc (n + k) = omega arith in
      subst (λ m. sets (suc m) q ≡ sets m q) (sym e) (stays.next (n + k) (stays_so n) q less)

  pub still_later : (n q : ℕ) → q < count → sets (n + k) q ≡ sets k q
  still_later zero q less = let e : zero + k ≡ k = omega arith in ap (λ m. sets m q) e
  still_later (suc n) q less =
      let e : suc n + k ≡ suc (n + k) = omega arith in
      ap (λ m. sets m q) e ∙ stays_so n q less ∙ still_later n q less
