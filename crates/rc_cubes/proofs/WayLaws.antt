-- A step of the way to a cube.
use Rattle.std.proofs.Common.{◌≡◌, ℕ, ◌+◌, ◌<◌, ◌≤◌, true, false, cond, refl, sym, ap, subst, ◌∙◌, arith, List, [], ◌∷◌, ◌++◌, map, Option, Some, None, slice_get}
use Rattle.std.specs.Option.{option_map}
use Rattle.rc_base.specs.Header.{bit, bit_count}
use Rattle.rc_trees.specs.Trees.{Tree, never, always, node, top, IsReduced}
use Rattle.rc_nodes.specs.Views.{Sound}
use Rattle.rc_nodes.specs.Seats.{SeatView, SeatKnows, Keeps}
use Rattle.rc_nodes.specs.declared.words.Node.{Node}
use Rattle.rc_nodes.specs.Seats.{IsKnown}
use Rattle.rc_bdd.specs.Work.{IsFrom}
use Rattle.rc_trees.proofs.ReducedLaws.{top-le}
use Rattle.rc_nodes.proofs.KnownLaws.{known_never, known_always, known_node, known_reduced, one_known, small_tops}
use Rattle.rc_cubes.specs.declared.cube.Cube.{Cube}
use Rattle.rc_cubes.specs.Cubes.{all, with_test, cubes, later, left, IsOpened}
use Rattle.rc_cubes.proofs.CubeLaws.{left_next}

-- ---- a node is opened

module _ (seat after : SeatView) (set : ℕ) (n : Node) (sound : Sound seat.view) (two : 2 ≤ set)
    (opens : (v : ℕ) (l h : Tree) → SeatKnows seat set (node v l h) → (n.var ≡ v) × SeatKnows after n.lo.index l × SeatKnows after n.hi.index h) where
  pub opened : (t : Tree) → SeatKnows seat set t → IsOpened after n t
  opened t k =
      let (v, l, h, e) = known_node seat set t two k in
      let (ev, kl, kh) = opens v l h (subst (SeatKnows seat set) e k) in
      record { low = l; high = h; is_node = e ∙ ap (λ x. node x l h) (sym ev); knows_low = kl; knows_high = kh }

  reduced_node : (t : Tree) (k : SeatKnows seat set t) → IsReduced (node n.var (opened t k).low (opened t k).high)
  reduced_node t k = subst IsReduced (opened t k).is_node (known_reduced seat sound set t k)

  pub in_range : IsKnown seat set → (from : ℕ) → IsFrom seat from set → (from ≤ n.var) × (n.var < bit_count)
  in_range (t, k) from f =
      let r = reduced_node t k in
      let up : from ≤ n.var = subst (λ u. from ≤ top u) (opened t k).is_node (f t k) in
      (up, let a = r.0 in let b = top-le (opened t k).low r.3 in omega arith)

  pub low_side : IsKnown seat set → Sound after.view → IsKnown after n.lo.index × IsFrom after (n.var + 1) n.lo.index
  low_side (t, k) later_sound =
      let o = opened t k in let r = reduced_node t k in
      ((o.low, o.knows_low), (λ u ku. let e = ap (λ x. top x) (one_known after later_sound n.lo.index u o.low ku o.knows_low) in let a = r.0 in omega arith))

  pub high_side : IsKnown seat set → Sound after.view → IsKnown after n.hi.index × IsFrom after (n.var + 1) n.hi.index
  high_side (t, k) later_sound =
      let o = opened t k in let r = reduced_node t k in
      ((o.high, o.knows_high), (λ u ku. let e = ap (λ x. top x) (one_known after later_sound n.hi.index u o.high ku o.knows_high) in let a = r.1 in omega arith))

-- ---- what stands first

abbrev head : List Cube → Option Cube
head cs = slice_get cs 0

head_map : (f : Cube → Cube) (xs : List Cube) → option_map f (head xs) ≡ head (map f xs)
head_map f [] = refl
head_map f (x ∷ xs) = refl

head_front : (f : Cube → Cube) (xs ys : List Cube) (c : Cube) → Some c ≡ head xs → Some (f c) ≡ head (map f xs ++ ys)
head_front f [] ys c e = absurd (cc)
head_front f (x ∷ xs) ys c e = let same : c ≡ x = cc in ap (λ z. Some (f z)) same

head_behind : (f : Cube → Cube) (xs ys : List Cube) → None ≡ head xs → head (map f xs ++ ys) ≡ head ys
head_behind f [] ys e = refl
head_behind f (x ∷ xs) ys e = absurd (cc)

pub no_cube : (seat : SeatView) (set : ℕ) (t : Tree) → set ≡ 0 → SeatKnows seat set t → None ≡ slice_get (cubes t) 0
no_cube seat set t e k = ap (λ u. slice_get (cubes u) 0) (sym (known_never seat t (subst (λ r. SeatKnows seat r t) e k)))

pub whole_cube : (seat : SeatView) (set : ℕ) (t : Tree) → set ≡ 1 → SeatKnows seat set t → Some all ≡ slice_get (cubes t) 0
whole_cube seat set t e k = ap (λ u. slice_get (cubes u) 0) (sym (known_always seat t (subst (λ r. SeatKnows seat r t) e k)))

none_later : (c : Cube) (t : Tree) → IsReduced t → bit_count ≡ top t → None ≡ slice_get (later c t) 0
none_later c never r e = refl
none_later c always r e = refl
none_later c (node v l h) r e = let a = r.0 in let b = top-le l r.3 in absurd (omega arith)

pub no_later : (seat : SeatView) → Sound seat.view → (set : ℕ) (c : Cube) (t : Tree) → set < 2 → SeatKnows seat set t → None ≡ slice_get (later c t) 0
no_later seat sound set c t lt k = none_later c t (known_reduced seat sound set t k) (small_tops seat set t lt k)

module _ {after : SeatView} {n : Node} {t : Tree} (o : IsOpened after n t) where
  pub first_low : (c : Cube) → ((u : Tree) → SeatKnows after n.lo.index u → Some c ≡ slice_get (cubes u) 0) → Some (with_test n.var false c) ≡ slice_get (cubes t) 0
  first_low c low = head_front (with_test n.var false) (cubes o.low) (map (with_test n.var true) (cubes o.high)) c (low o.low o.knows_low) ∙ ap (λ u. head (cubes u)) (sym o.is_node)

  module _ (last : SeatView) (keeps : Keeps after last) (high : Option Cube) (is_high : (u : Tree) → SeatKnows last n.hi.index u → high ≡ slice_get (cubes u) 0) where
    from_high : option_map (with_test n.var true) high ≡ head (map (with_test n.var true) (cubes o.high))
    from_high = ap (option_map (with_test n.var true)) (is_high o.high (keeps n.hi.index o.high o.knows_high)) ∙ head_map (with_test n.var true) (cubes o.high)

    pub first_high : ((u : Tree) → SeatKnows after n.lo.index u → None ≡ slice_get (cubes u) 0) → option_map (with_test n.var true) high ≡ slice_get (cubes t) 0
    first_high low =
        from_high ∙ sym (head_behind (with_test n.var false) (cubes o.low) (map (with_test n.var true) (cubes o.high)) (low o.low o.knows_low)) ∙ ap (λ u. head (cubes u)) (sym o.is_node)

    pub later_past : (c : Cube) → bit c.value n.var ≡ false → ((u : Tree) → SeatKnows after n.lo.index u → None ≡ slice_get (later c u) 0) → option_map (with_test n.var true) high ≡ slice_get (later c t) 0
    later_past c is_zero low =
        from_high ∙ sym (head_behind (with_test n.var false) (later c o.low) (map (with_test n.var true) (cubes o.high)) (low o.low o.knows_low))
        ∙ ap (λ b. head (cond b (map (with_test n.var true) (later c o.high)) (map (with_test n.var false) (later c o.low) ++ map (with_test n.var true) (cubes o.high)))) (sym is_zero) ∙ ap (λ u. head (later c u)) (sym o.is_node)

  pub later_low : (c d : Cube) → bit c.value n.var ≡ false → ((u : Tree) → SeatKnows after n.lo.index u → Some d ≡ slice_get (later c u) 0) → Some (with_test n.var false d) ≡ slice_get (later c t) 0
  later_low c d is_zero low =
      head_front (with_test n.var false) (later c o.low) (map (with_test n.var true) (cubes o.high)) d (low o.low o.knows_low)
      ∙ ap (λ b. head (cond b (map (with_test n.var true) (later c o.high)) (map (with_test n.var false) (later c o.low) ++ map (with_test n.var true) (cubes o.high)))) (sym is_zero) ∙ ap (λ u. head (later c u)) (sym o.is_node)

  pub later_high : (c : Cube) → bit c.value n.var ≡ true → (high : Option Cube) → ((u : Tree) → SeatKnows after n.hi.index u → high ≡ slice_get (later c u) 0) → option_map (with_test n.var true) high ≡ slice_get (later c t) 0
  later_high c is_one high is_high =
      ap (option_map (with_test n.var true)) (is_high o.high o.knows_high) ∙ head_map (with_test n.var true) (later c o.high)
      ∙ ap (λ b. head (cond b (map (with_test n.var true) (later c o.high)) (map (with_test n.var false) (later c o.low) ++ map (with_test n.var true) (cubes o.high)))) (sym is_one) ∙ ap (λ u. head (later c u)) (sym o.is_node)

-- ---- the cubes that are left

is_first : (xs : List Cube) (c : Cube) → Some c ≡ head xs → (cs : List Cube) × (xs ≡ c ∷ cs)
is_first [] c e = absurd (cc)
is_first (x ∷ xs) c e = let same : c ≡ x = cc in (xs, λ i. sym same i ∷ xs)

is_end : (xs : List Cube) → None ≡ head xs → xs ≡ []
is_end [] e = refl
is_end (x ∷ xs) e = absurd (cc)

pub goes_on : (o : Option Cube) (t : Tree) → IsReduced t → (c : Cube) → Some c ≡ slice_get (left o t) 0 → left o t ≡ c ∷ left (Some c) t
goes_on o t r c e = let (cs, f) = is_first (left o t) c e in f ∙ ap (λ l. c ∷ l) (sym (left_next o t r c cs f))

pub ends : (o : Option Cube) (t : Tree) → None ≡ slice_get (left o t) 0 → left o t ≡ []
ends o t e = is_end (left o t) e

pub from_kept : (before after : SeatView) → Sound after.view → Keeps before after → (from r : ℕ) → IsKnown before r → IsFrom before from r → IsFrom after from r
from_kept before after sound keeps from r (t, k) f u ku = let e = ap (λ x. top x) (one_known after sound r u t ku (keeps r t k)) in let le = f t k in omega arith
