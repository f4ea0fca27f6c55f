-- What is inside already may be left out: the trees stay the same, and no others are made.
use Rattle.std.proofs.Common.{refl, ◌≡◌, ap, sym, ◌∙◌, subst, ℕ, zero, suc, ◌<◌, Bool, true, false, ◌||◌, ◌&&◌, cond, List, [], ◌∷◌, ◌++◌, length, slice_index_or, All, arith}
use Rattle.std.specs.List.{filter}
use Rattle.std.proofs.lemmas.List.Elements.{All-head, All-tail}
use Rattle.rc_trees.specs.Trees.{Tree, never, IsReduced, value}
use Rattle.rc_trees.specs.Combine.{and, or}
use Rattle.rc_trees.proofs.TreeLaws.{value-and, value-or}
use Rattle.rc_trees.proofs.OneTree.{or-inside}
use Rattle.rc_trees.proofs.ReducedLaws.{reduced-and, reduced-or}
use Rattle.rc_spread.specs.Gathered.{gathered, IsInside, MayGather}

left_true : (a b : Bool) → a ≡ true → (a || b) ≡ true
left_true a b e = ap (λ c. c || b) e

right_true : (a b : Bool) → b ≡ true → (a || b) ≡ true
right_true true b e = refl
right_true false b e = e

second_true : (a b : Bool) → (a && b) ≡ true → b ≡ true
second_true true b e = e
second_true false b e = absurd (cc)

first_true : (a b : Bool) → (a && b) ≡ true → a ≡ true
first_true true b e = refl
first_true false b e = absurd (cc)

inside_first : (s t u : Tree) → IsInside u s → IsInside u (or s t)
inside_first s t u inside bits e = value-or bits s t ∙ left_true (value s bits) (value t bits) (inside bits e)

inside_second : (s t : Tree) → IsInside t (or s t)
inside_second s t bits e = value-or bits s t ∙ right_true (value s bits) (value t bits) e

-- nothing lets nothing pass
pub nothing_passes : (s t : Tree) → IsInside (and s never) t
nothing_passes s t bits e = let no = second_true (value s bits) false (sym (value-and bits s never) ∙ e) in absurd (let none : ⊥ = cc (no) in none)

-- and of nothing nothing passes
pub nothing_sent : (s t : Tree) → IsInside (and never s) t
nothing_sent s t bits e = let no = first_true false (value s bits) (sym (value-and bits never s) ∙ e) in absurd (let none : ⊥ = cc (no) in none)

module _ (sets : ℕ → Tree) where
  -- what a position sends
  abbrev pub passed : ℕ × Tree → Tree
  passed f = and (sets f.0) f.1

  -- set and filter are reduced
  abbrev pub AreReduced : ℕ × Tree → Type 0
  AreReduced f = IsReduced (sets f.0) × IsReduced f.1

  pub gathered_reduced : (fs : List (ℕ × Tree)) (s : Tree) → IsReduced s → All AreReduced fs → IsReduced (gathered sets s fs)
  gathered_reduced [] s r all = r
  gathered_reduced (f ∷ fs) s r all =
      let both = All-head AreReduced f fs all in
      gathered_reduced fs (or s (passed f)) (reduced-or s (passed f) r (reduced-and (sets f.0) f.1 both.0 both.1)) (All-tail AreReduced f fs all)

  pub gathered-append : (fs gs : List (ℕ × Tree)) (s : Tree) → gathered sets s (fs ++ gs) ≡ gathered sets (gathered sets s fs) gs
  gathered-append [] gs s = refl
  gathered-append (f ∷ fs) gs s = gathered-append fs gs (or s (passed f))

  -- what stood there stays
  pub gathered_inside : (fs : List (ℕ × Tree)) (s u : Tree) → IsInside u s → IsInside u (gathered sets s fs)
  gathered_inside [] s u inside = inside
  gathered_inside (f ∷ fs) s u inside = gathered_inside fs (or s (passed f)) u (inside_first s (passed f) u inside)

  -- and what is sent comes
  pub sent_inside : (fs : List (ℕ × Tree)) (s : Tree) (i : ℕ) (d : ℕ × Tree) → i < length fs → IsInside (passed (slice_index_or fs i d)) (gathered sets s fs)
  sent_inside [] s i d less = absurd (omega arith)
  sent_inside (f ∷ fs) s zero d less = gathered_inside fs (or s (passed f)) (passed f) (inside_second s (passed f))
  sent_inside (f ∷ fs) s (suc i) d less = sent_inside fs (or s (passed f)) i d (omega arith)

  -- where all of it is inside nothing new comes
  pub gathered_settled : (fs : List (ℕ × Tree)) (s : Tree) → IsReduced s → All AreReduced fs → All (λ f. IsInside (passed f) s) fs → gathered sets s fs ≡ s
  gathered_settled [] s r all inside = refl
  gathered_settled (f ∷ fs) s r all inside =
      let both = All-head AreReduced f fs all in
      ap (λ t. gathered sets t fs) (or-inside s (passed f) r (reduced-and (sets f.0) f.1 both.0 both.1) (All-head (λ f. IsInside (passed f) s) f fs inside))
      ∙ gathered_settled fs s r (All-tail AreReduced f fs all) (All-tail (λ f. IsInside (passed f) s) f fs inside)

  module _ (keep : ℕ × Tree → Bool) where
    -- where it is left out it is inside
    abbrev pub IsSpared : Tree → ℕ × Tree → Type 0
    IsSpared s f = keep f ≡ false → IsInside (passed f) s

    all_later : (s : Tree) (f : ℕ × Tree) (fs : List (ℕ × Tree)) → All (IsSpared s) fs → All (IsSpared (or s (passed f))) fs
    all_later s f fs all = λ i d less. λ out. inside_first s (passed f) (passed (slice_index_or fs i d)) (all i d less out)

    -- without what is inside the same is gathered
    pub gathered_without : (fs : List (ℕ × Tree)) (s : Tree) → IsReduced s → All AreReduced fs → All (IsSpared s) fs → gathered sets s (filter keep fs) ≡ gathered sets s fs
    gathered_without [] s r all spared = refl
    gathered_without (f ∷ fs) s r all spared =
        let both = All-head AreReduced f fs all in
        let rp = reduced-and (sets f.0) f.1 both.0 both.1 in
        let r' = reduced-or s (passed f) r rp in
        let rest = All-tail AreReduced f fs all in
        let later = All-tail (IsSpared s) f fs spared in
        by (keep f) refl (gathered_without fs (or s (passed f)) r' rest (all_later s f fs later)) (gathered_without fs s r rest later)
      where
        by : (b : Bool) → keep f ≡ b → gathered sets (or s (passed f)) (filter keep fs) ≡ gathered sets (or s (passed f)) fs → gathered sets s (filter keep fs) ≡ gathered sets s fs → gathered sets s (cond b (f ∷ filter keep fs) (filter keep fs)) ≡ gathered sets (or s (passed f)) fs
        by true e kept left = kept
        by false e kept left =
            let both = All-head AreReduced f fs all in
            left ∙ ap (λ t. gathered sets t fs) (sym (or-inside s (passed f) r (reduced-and (sets f.0) f.1 both.0 both.1) (All-head (IsSpared s) f fs spared e)))

    -- by operations that are among those of gathering all
    pub may_without : (may : List Tree) (fs : List (ℕ × Tree)) (s : Tree) → IsReduced s → All AreReduced fs → All (IsSpared s) fs → MayGather may sets s fs → MayGather may sets s (filter keep fs)
    unfolding MayGather
    may_without may [] s r all spared m = tt
    may_without may (f ∷ fs) s r all spared m =
        let both = All-head AreReduced f fs all in
        let rp = reduced-and (sets f.0) f.1 both.0 both.1 in
        let r' = reduced-or s (passed f) r rp in
        let rest = All-tail AreReduced f fs all in
        let later = All-tail (IsSpared s) f fs spared in
        by (keep f) refl (may_without may fs (or s (passed f)) r' rest (all_later s f fs later) m.2) (λ n. may_without may fs s r rest later n)
      where
        by : (b : Bool) → keep f ≡ b → MayGather may sets (or s (passed f)) (filter keep fs) → (MayGather may sets s fs → MayGather may sets s (filter keep fs)) → MayGather may sets s (cond b (f ∷ filter keep fs) (filter keep fs))
        by true e kept left = (m.0, m.1, kept)
        by false e kept left =
            let both = All-head AreReduced f fs all in
            left (subst (λ t. MayGather may sets t fs) (or-inside s (passed f) r (reduced-and (sets f.0) f.1 both.0 both.1) (All-head (IsSpared s) f fs spared e)) m.2)
