-- A header is in one cube of the sets that hold it, and in none of the others.
use Rattle.std.proofs.Common.{◌≡◌, ◌≢◌, ℕ, ◌<◌, ◌≤◌, inl, inr, Bool, true, false, cond, refl, sym, ap, subst, ◌∙◌, arith, List, [], ◌∷◌, ◌++◌, map}
use Rattle.std.proofs.Math.Decide.{ℕ_discrete}
use Rattle.std.specs.List.{AllByRecursion}
use Rattle.rc_base.specs.Header.{bit, bit_count, set_bit}
use Rattle.rc_base.specs.declared.header.Header.{Header}
use Rattle.rc_base.proofs.BitLaws.{now_set, not_set, zero_bit}
use Rattle.rc_trees.specs.Trees.{Tree, never, always, node, top, IsReduced}
use Rattle.rc_trees.specs.Trees.{value, holds}
use Rattle.rc_trees.proofs.ReducedLaws.{top-le}
use Rattle.rc_cubes.specs.declared.cube.Cube.{Cube}
use Rattle.rc_cubes.specs.Cubes.{with_test, cubes, IsIn, IsInNone, IsInOne, IsTight}
use Rattle.rc_cubes.proofs.CubeLaws.{IsClear, tested, others, clear_below}

mask_of : (v : ℕ) (x : Bool) (c : Cube) → (with_test v x c).mask ≡ set_bit c.mask v
unfolding with_test
mask_of v x c = refl

-- the mask has no bit below n
abbrev IsFree : ℕ → Cube → Type 0
IsFree n c = (k : ℕ) → k < n → bit c.mask k ≡ false

mask_other : (v : ℕ) (x : Bool) (c : Cube) (k : ℕ) → v ≢ k → bit (with_test v x c).mask k ≡ bit c.mask k
mask_other v x c k ne = ap (λ (h : Header). bit h k) (mask_of v x c) ∙ not_set c.mask v k ne

mask_here : (v : ℕ) (x : Bool) (c : Cube) → v < bit_count → bit (with_test v x c).mask v ≡ true
mask_here v x c less = ap (λ (h : Header). bit h v) (mask_of v x c) ∙ now_set c.mask v less

free_below : (n v : ℕ) (x : Bool) (c : Cube) → v < n → IsFree n c → IsFree v (with_test v x c)
free_below n v x c lt f k below = mask_other v x c k (omega arith) ∙ f k (omega arith)

-- ---- one cube that tests one bit more

module _ (n v : ℕ) (lt : v < n) (le : n ≤ bit_count) (x : Bool) (c : Cube) (clear : IsClear n c) (free : IsFree n c) (bits : ℕ → Bool) where
  in_more : bits v ≡ x → IsIn c bits → IsIn (with_test v x c) bits
  in_more e f k lk m = elim (ℕ_discrete v k) [
    | yes same ↦ subst (λ i. bits i ≡ bit (with_test v x c).value i) same (e ∙ sym (tested v x c (omega arith) (clear v lt)))
    | no ne ↦ f k lk (sym (mask_other v x c k ne) ∙ m) ∙ sym (others v x c k ne)
  ]

  in_less : IsIn (with_test v x c) bits → IsIn c bits
  in_less f k lk m = elim (ℕ_discrete v k) [
    | yes same ↦ let clash : true ≡ false = sym m ∙ ap (λ i. bit c.mask i) (sym same) ∙ free v lt in absurd (cc clash)
    | no ne ↦ f k lk (mask_other v x c k ne ∙ m) ∙ others v x c k ne
  ]

  in_bit : IsIn (with_test v x c) bits → bits v ≡ x
  in_bit f = f v (omega arith) (mask_here v x c (omega arith)) ∙ tested v x c (omega arith) (clear v lt)

-- ---- lists of cubes

abbrev AreAbove : ℕ → List Cube → Type 0
AreAbove n cs = AllByRecursion (λ (c : Cube). IsClear n c × IsFree n c) cs

above_map : (n v : ℕ) (x : Bool) (cs : List Cube) → v < n → AreAbove n cs → AreAbove v (map (with_test v x) cs)
above_map n v x [] lt a = tt
above_map n v x (c ∷ cs) lt a = ((clear_below n v x c lt a.0.0, free_below n v x c lt a.0.1), above_map n v x cs lt a.1)

above_both : (n : ℕ) (xs ys : List Cube) → AreAbove n xs → AreAbove n ys → AreAbove n (xs ++ ys)
above_both n [] ys a b = b
above_both n (x ∷ xs) ys a b = (a.0, above_both n xs ys a.1 b)

above : (t : Tree) → IsReduced t → AreAbove (top t) (cubes t)
above never r = tt
above always r = (((λ k lt. zero_bit k), (λ k lt. zero_bit k)), tt)
above (node v l h) r =
    above_both v (map (with_test v false) (cubes l)) (map (with_test v true) (cubes h))
    (above_map (top l) v false (cubes l) r.0 (above l r.3)) (above_map (top h) v true (cubes h) r.1 (above h r.4))

none_other : (n v : ℕ) (x : Bool) (bits : ℕ → Bool) (cs : List Cube) → v < n → n ≤ bit_count → AreAbove n cs → bits v ≢ x → IsInNone (map (with_test v x) cs) bits
none_other n v x bits [] lt le a ne = tt
none_other n v x bits (c ∷ cs) lt le a ne = ((λ f. ne (in_bit n v lt le x c a.0.0 a.0.1 bits f)), none_other n v x bits cs lt le a.1 ne)

none_more : (n v : ℕ) (x : Bool) (bits : ℕ → Bool) (cs : List Cube) → v < n → n ≤ bit_count → AreAbove n cs → IsInNone cs bits → IsInNone (map (with_test v x) cs) bits
none_more n v x bits [] lt le a f = tt
none_more n v x bits (c ∷ cs) lt le a f = ((λ m. f.0 (in_less n v lt le x c a.0.0 a.0.1 bits m)), none_more n v x bits cs lt le a.1 f.1)

one_more : (n v : ℕ) (x : Bool) (bits : ℕ → Bool) (cs : List Cube) → v < n → n ≤ bit_count → AreAbove n cs → bits v ≡ x → IsInOne cs bits → IsInOne (map (with_test v x) cs) bits
one_more n v x bits [] lt le a e f = absurd f
one_more n v x bits (c ∷ cs) lt le a e (inl (here, none)) = inl (in_more n v lt le x c a.0.0 a.0.1 bits e here, none_more n v x bits cs lt le a.1 none)
one_more n v x bits (c ∷ cs) lt le a e (inr (not_here, one)) = inr ((λ m. not_here (in_less n v lt le x c a.0.0 a.0.1 bits m)), one_more n v x bits cs lt le a.1 e one)

none_both : (xs ys : List Cube) (bits : ℕ → Bool) → IsInNone xs bits → IsInNone ys bits → IsInNone (xs ++ ys) bits
none_both [] ys bits a b = b
none_both (x ∷ xs) ys bits a b = (a.0, none_both xs ys bits a.1 b)

one_front : (xs ys : List Cube) (bits : ℕ → Bool) → IsInOne xs bits → IsInNone ys bits → IsInOne (xs ++ ys) bits
one_front [] ys bits a b = absurd a
one_front (x ∷ xs) ys bits (inl (here, none)) b = inl (here, none_both xs ys bits none b)
one_front (x ∷ xs) ys bits (inr (not_here, one)) b = inr (not_here, one_front xs ys bits one b)

one_behind : (xs ys : List Cube) (bits : ℕ → Bool) → IsInNone xs bits → IsInOne ys bits → IsInOne (xs ++ ys) bits
one_behind [] ys bits a b = b
one_behind (x ∷ xs) ys bits a b = inr (a.0, one_behind xs ys bits a.1 b)

-- ---- the cubes of a tree

abbrev IsCovered : Bool → List Cube → (ℕ → Bool) → Type 0
IsCovered true cs bits = IsInOne cs bits
IsCovered false cs bits = IsInNone cs bits

module _ (v : ℕ) (l h : Tree) (r : IsReduced (node v l h)) (bits : ℕ → Bool) where
  low_side : bits v ≡ false → (b : Bool) → IsCovered b (cubes l) bits → IsCovered b (map (with_test v false) (cubes l) ++ map (with_test v true) (cubes h)) bits
  low_side e b c =
      let no_high = none_other (top h) v true bits (cubes h) r.1 (top-le h r.4) (above h r.4) (λ f. let clash : false ≡ true = sym e ∙ f in absurd (cc clash)) in
      go b c no_high
    where
      go : (b : Bool) → IsCovered b (cubes l) bits → IsInNone (map (with_test v true) (cubes h)) bits → IsCovered b (map (with_test v false) (cubes l) ++ map (with_test v true) (cubes h)) bits
      go true c none = one_front (map (with_test v false) (cubes l)) (map (with_test v true) (cubes h)) bits (one_more (top l) v false bits (cubes l) r.0 (top-le l r.3) (above l r.3) e c) none
      go false c none = none_both (map (with_test v false) (cubes l)) (map (with_test v true) (cubes h)) bits (none_more (top l) v false bits (cubes l) r.0 (top-le l r.3) (above l r.3) c) none

  high_side : bits v ≡ true → (b : Bool) → IsCovered b (cubes h) bits → IsCovered b (map (with_test v false) (cubes l) ++ map (with_test v true) (cubes h)) bits
  high_side e b c =
      let no_low = none_other (top l) v false bits (cubes l) r.0 (top-le l r.3) (above l r.3) (λ f. let clash : true ≡ false = sym e ∙ f in absurd (cc clash)) in
      go b c no_low
    where
      go : (b : Bool) → IsCovered b (cubes h) bits → IsInNone (map (with_test v false) (cubes l)) bits → IsCovered b (map (with_test v false) (cubes l) ++ map (with_test v true) (cubes h)) bits
      go true c none = one_behind (map (with_test v false) (cubes l)) (map (with_test v true) (cubes h)) bits none (one_more (top h) v true bits (cubes h) r.1 (top-le h r.4) (above h r.4) e c)
      go false c none = none_both (map (with_test v false) (cubes l)) (map (with_test v true) (cubes h)) bits none (none_more (top h) v true bits (cubes h) r.1 (top-le h r.4) (above h r.4) c)

by_bit : (v : ℕ) (l h : Tree) (r : IsReduced (node v l h)) (bits : ℕ → Bool) → IsCovered (value l bits) (cubes l) bits → IsCovered (value h bits) (cubes h) bits → (b : Bool) → bits v ≡ b
    → IsCovered (cond b (value h bits) (value l bits)) (map (with_test v false) (cubes l) ++ map (with_test v true) (cubes h)) bits
by_bit v l h r bits cl ch true e = high_side v l h r bits e (value h bits) ch
by_bit v l h r bits cl ch false e = low_side v l h r bits e (value l bits) cl

-- in one cube alone where the tree holds the bits, else in none
pub covered : (t : Tree) → IsReduced t → (bits : ℕ → Bool) → IsCovered (value t bits) (cubes t) bits
covered never r bits = tt
covered always r bits = inl ((λ k lt m. let clash : false ≡ true = sym (zero_bit k) ∙ m in absurd (cc clash)), tt)
covered (node v l h) r bits = by_bit v l h r bits (covered l r.3 bits) (covered h r.4 bits) (bits v) refl

pub in_one : (t : Tree) → IsReduced t → (h : Header) → holds t h ≡ true → IsInOne (cubes t) (bit h)
in_one t r h e = subst (λ b. IsCovered b (cubes t) (bit h)) e (covered t r (bit h))

pub in_none : (t : Tree) → IsReduced t → (h : Header) → holds t h ≡ false → IsInNone (cubes t) (bit h)
in_none t r h e = subst (λ b. IsCovered b (cubes t) (bit h)) e (covered t r (bit h))

-- ---- free bits

tight_more : (v : ℕ) (x : Bool) (c : Cube) → v < bit_count → IsTight c → IsTight (with_test v x c)
tight_more v x c lv tight k lk free = elim (ℕ_discrete v k) [
  | yes same ↦ let clash : false ≡ true = sym free ∙ ap (λ i. bit (with_test v x c).mask i) (sym same) ∙ mask_here v x c lv in absurd (cc clash)
  | no ne ↦ others v x c k ne ∙ tight k lk (sym (mask_other v x c k ne) ∙ free)
]

tight_map : (v : ℕ) (x : Bool) (cs : List Cube) → v < bit_count → AllByRecursion IsTight cs → AllByRecursion IsTight (map (with_test v x) cs)
tight_map v x [] lv all = tt
tight_map v x (c ∷ cs) lv all = (tight_more v x c lv all.0, tight_map v x cs lv all.1)

tight_both : (xs ys : List Cube) → AllByRecursion IsTight xs → AllByRecursion IsTight ys → AllByRecursion IsTight (xs ++ ys)
tight_both [] ys a b = b
tight_both (x ∷ xs) ys a b = (a.0, tight_both xs ys a.1 b)

-- each cube of a tree has 0 in each bit that it doesn't test
pub tight : (t : Tree) → IsReduced t → AllByRecursion IsTight (cubes t)
tight never r = tt
tight always r = ((λ k lk free. zero_bit k), tt)
tight (node v l h) r =
    let lv : v < bit_count = (let a = r.0 in let b = top-le l r.3 in omega arith) in
    tight_both (map (with_test v false) (cubes l)) (map (with_test v true) (cubes h)) (tight_map v false (cubes l) lv (tight l r.3)) (tight_map v true (cubes h) lv (tight h r.4))
