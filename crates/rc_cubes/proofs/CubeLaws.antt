-- The cubes that are left, one after another.
use Rattle.std.proofs.Common.{sym, ◌≡◌, ◌≢◌, ℕ, ◌<◌, ◌≤◌, Bool, true, false, cond, refl, ap, subst, ◌∙◌, arith, List, [], ◌∷◌, ◌++◌, map, Option, Some, None}
use Rattle.rc_base.specs.Header.{bit, bit_count, set_bit}
use Rattle.rc_base.specs.declared.header.Header.{Header}
use Rattle.rc_base.proofs.BitLaws.{now_set, not_set, zero_bit}
use Rattle.rc_trees.specs.Trees.{Tree, never, always, node, top, IsReduced}
use Rattle.rc_trees.proofs.ReducedLaws.{top-le}
use Rattle.rc_cubes.specs.declared.cube.Cube.{Cube}
use Rattle.rc_cubes.specs.Cubes.{with_test, cubes, later, left}

-- ---- the bits of a cube's value

value_of : (v : ℕ) (x : Bool) (c : Cube) → (with_test v x c).value ≡ cond x (set_bit c.value v) c.value
unfolding with_test
value_of v x c = refl

-- the cube tests no bit below n
abbrev pub IsClear : ℕ → Cube → Type 0
IsClear n c = (k : ℕ) → k < n → bit c.value k ≡ false

pub tested : (v : ℕ) (x : Bool) (c : Cube) → v < bit_count → bit c.value v ≡ false → bit (with_test v x c).value v ≡ x
tested v true c less e = ap (λ (h : Header). bit h v) (value_of v true c) ∙ now_set c.value v less
tested v false c less e = ap (λ (h : Header). bit h v) (value_of v false c) ∙ e

pub others : (v : ℕ) (x : Bool) (c : Cube) (k : ℕ) → v ≢ k → bit (with_test v x c).value k ≡ bit c.value k
others v true c k ne = ap (λ (h : Header). bit h k) (value_of v true c) ∙ not_set c.value v k ne
others v false c k ne = ap (λ (h : Header). bit h k) (value_of v false c)

pub clear_below : (n v : ℕ) (x : Bool) (c : Cube) → v < n → IsClear n c → IsClear v (with_test v x c)
clear_below n v x c lt f k below = others v x c k (omega arith) ∙ f k (omega arith)

-- ---- what is behind a cube depends on the bits that the tree tests

same_later : (t : Tree) → IsReduced t → (c d : Cube) → ((k : ℕ) → top t ≤ k → k < bit_count → bit c.value k ≡ bit d.value k) → later c t ≡ later d t
same_later never r c d f = refl
same_later always r c d f = refl
same_later (node v l h) r c d f =
    let small = top-le l r.3 in
    let low = same_later l r.3 c d (λ k le lt. f k (let a = r.0 in omega arith) lt) in
    let high = same_later h r.4 c d (λ k le lt. f k (let a = r.1 in omega arith) lt) in
    let here = f v (omega arith) (let a = r.0 in omega arith) in
    λ i. cond (here i) (map (with_test v true) (high i)) (map (with_test v false) (low i) ++ map (with_test v true) (cubes h))

-- the first of the cubes has the others behind it
abbrev IsNext : Tree → List Cube → Type 0
IsNext t [] = Unit {0}
IsNext t (c ∷ cs) = (later c t ≡ cs) × IsClear (top t) c

module _ (v : ℕ) (l h : Tree) (r : IsReduced (node v l h)) where
  small_l : top l ≤ bit_count
  small_l = top-le l r.3

  small_h : top h ≤ bit_count
  small_h = top-le h r.4

  high_next : (cs : List Cube) → IsNext h cs → IsNext (node v l h) (map (with_test v true) cs)
  high_next [] n = tt
  high_next (c ∷ cs) (e, clear) =
      let up = r.1 in let le = small_h in
      let tests : bit (with_test v true c).value v ≡ true = tested v true c (omega arith) (clear v up) in
      let inner : later (with_test v true c) h ≡ later c h = same_later h r.4 (with_test v true c) c (λ k low lt. others v true c k (omega arith)) in (
        (λ i. cond (tests i) (map (with_test v true) (inner i)) (map (with_test v false) (later (with_test v true c) l) ++ map (with_test v true) (cubes h))) ∙ ap (map (with_test v true)) e,
        clear_below (top h) v true c up clear,
      )

  low_next : (cs : List Cube) → IsNext l cs → IsNext h (cubes h) → IsNext (node v l h) (map (with_test v false) cs ++ map (with_test v true) (cubes h))
  low_next [] n first = high_next (cubes h) first
  low_next (c ∷ cs) (e, clear) first =
      let up = r.0 in let le = small_l in
      let tests : bit (with_test v false c).value v ≡ false = tested v false c (omega arith) (clear v up) in
      let inner : later (with_test v false c) l ≡ later c l = same_later l r.3 (with_test v false c) c (λ k low lt. others v false c k (omega arith)) in (
        (λ i. cond (tests i) (map (with_test v true) (later (with_test v false c) h)) (map (with_test v false) (inner i) ++ map (with_test v true) (cubes h)))
            ∙ ap (λ x. map (with_test v false) x ++ map (with_test v true) (cubes h)) e,
        clear_below (top l) v false c up clear,
      )

cubes_next : (t : Tree) → IsReduced t → IsNext t (cubes t)
cubes_next never r = tt
cubes_next always r = (refl, (λ k lt. zero_bit k))
cubes_next (node v l h) r = low_next v l h r (cubes l) (cubes_next l r.3) (cubes_next h r.4)

later_next : (c : Cube) (t : Tree) → IsReduced t → IsNext t (later c t)
later_next c never r = tt
later_next c always r = tt
later_next c (node v l h) r =
    let high = high_next v l h r (later c h) (later_next c h r.4) in
    let low = low_next v l h r (later c l) (later_next c l r.3) (cubes_next h r.4) in
    elim (bit c.value v) as (λ b. IsNext (node v l h) (cond b (map (with_test v true) (later c h)) (map (with_test v false) (later c l) ++ map (with_test v true) (cubes h)))) [ true ↦ high | false ↦ low ]

pub left_next : (o : Option Cube) (t : Tree) → IsReduced t → (c : Cube) (cs : List Cube) → left o t ≡ c ∷ cs → left (Some c) t ≡ cs
left_next None t r c cs e = let n = subst (IsNext t) e (cubes_next t r) in n.0
left_next (Some d) t r c cs e = let n = subst (IsNext t) e (later_next d t r) in n.0

left_behind : (t : Tree) → IsReduced t → (o : Option Cube) (front back : List Cube) (c : Cube) → left o t ≡ front ++ c ∷ back → left (Some c) t ≡ back
left_behind t r o [] back c e = left_next o t r c back e
left_behind t r o (d ∷ front) back c e = left_behind t r (Some d) front back c (left_next o t r d (front ++ c ∷ back) e)

pub behind_in_list : (t : Tree) (front back : List Cube) (c : Cube) → IsReduced t → cubes t ≡ front ++ c ∷ back → left (Some c) t ≡ back
behind_in_list t front back c r e = left_behind t r None front back c e

-- ---- what is left is an end of the list, whatever the last one was

abbrev IsEnd : List Cube → List Cube → Type 0
IsEnd whole back = (front : List Cube) × (whole ≡ front ++ back)

mapped : (f : Cube → Cube) (xs ys : List Cube) → map f (xs ++ ys) ≡ map f xs ++ map f ys
mapped f [] ys = refl
mapped f (x ∷ xs) ys = ap (λ zs. f x ∷ zs) (mapped f xs ys)

appended : (xs ys zs : List Cube) → (xs ++ ys) ++ zs ≡ xs ++ (ys ++ zs)
appended [] ys zs = refl
appended (x ∷ xs) ys zs = ap (λ ws. x ∷ ws) (appended xs ys zs)

at_end : (xs : List Cube) → xs ≡ xs ++ []
at_end [] = refl
at_end (x ∷ xs) = ap (λ ws. x ∷ ws) (at_end xs)

high_end : (f g : Cube → Cube) (low high back : List Cube) → IsEnd high back → IsEnd (map f low ++ map g high) (map g back)
high_end f g low high back (front, e) = (map f low ++ map g front, ap (λ xs. map f low ++ xs) (ap (map g) e ∙ mapped g front back) ∙ sym (appended (map f low) (map g front) (map g back)))

low_end : (f g : Cube → Cube) (low high back : List Cube) → IsEnd low back → IsEnd (map f low ++ map g high) (map f back ++ map g high)
low_end f g low high back (front, e) = (map f front, ap (λ xs. xs ++ map g high) (ap (map f) e ∙ mapped f front back) ∙ appended (map f front) (map f back) (map g high))

later_end : (c : Cube) (t : Tree) → IsEnd (cubes t) (later c t)
later_end c never = ([], refl)
later_end c always = (cubes always, at_end (cubes always))
later_end c (node v l h) =
    let high = high_end (with_test v false) (with_test v true) (cubes l) (cubes h) (later c h) (later_end c h) in
    let low = low_end (with_test v false) (with_test v true) (cubes l) (cubes h) (later c l) (later_end c l) in
    elim (bit c.value v) as (λ b. IsEnd (cubes (node v l h)) (cond b (map (with_test v true) (later c h)) (map (with_test v false) (later c l) ++ map (with_test v true) (cubes h)))) [ true ↦ high | false ↦ low ]

pub left_end : (t : Tree) (o : Option Cube) → (front : List Cube) × (cubes t ≡ front ++ left o t)
left_end t None = ([], refl)
left_end t (Some c) = later_end c t
