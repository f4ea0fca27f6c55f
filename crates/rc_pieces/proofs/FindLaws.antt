-- Where a prefix is found in a list in pieces.
use Rattle.std.proofs.Common.{refl, ◌≡◌, ap, sym, ◌∙◌, subst, ℕ, zero, suc, ◌+◌, ◌-◌, ◌<◌, ◌≤◌, Bool, true, false, not, cond, List, [], ◌∷◌, ◌++◌, length, get_or, unwrap_or, Some, None, arith}
use Rattle.std.specs.List.{slice_get}
use Rattle.std.specs.List.Sorted.{IsStrictlySortedBy}
use Rattle.std.specs.Ordering.{is_eq, ordering_reverse}
use Rattle.std.specs.declared.cmp.Ordering.TheVariants.{Less}
use Rattle.std.proofs.lemmas.Cmp.{tied_itself}
use Rattle.rc_base.specs.Prefix.{Cidr, prefix_cmp, same_prefix}
use Rattle.rc_base.proofs.OrderedLaws.{prefix_cmp_total}
use Rattle.rc_route.specs.Tables.{IsListed, listed_at}
use Rattle.rc_pieces.specs.Finding.{IsHere, IsPassed, is_begun, stands_before, stands_behind}
use Rattle.rc_pieces.specs.Pieces.{AllBehind, AreFilled, IsPlaceFor, joined, piece_before}
use Rattle.rc_pieces.proofs.EditLaws.{less_of}
use Rattle.rc_pieces.proofs.OrderLaws.{farther, none_behind, same_is}
use Rattle.rc_pieces.proofs.PlaceLaws.{begin_first, begins, placed}

module _ {A : Type 0} where
  front_at : (xs ys : List A) (i : ℕ) (x : A) → slice_get xs i ≡ Some x → slice_get (xs ++ ys) i ≡ Some x
  front_at [] ys i x at = absurd (cc at)
  front_at (z ∷ zs) ys zero x at = at
  front_at (z ∷ zs) ys (suc i) x at = front_at zs ys i x at

  back_at : (xs ys : List A) (i : ℕ) → slice_get (xs ++ ys) (length xs + i) ≡ slice_get ys i
  back_at [] ys i = let all : length {A = A} [] + i ≡ i = omega arith in ap (slice_get ys) all
  back_at (z ∷ zs) ys i = let one : suc (length zs) + i ≡ suc (length zs + i) = omega arith in ap (slice_get (z ∷ (zs ++ ys))) one ∙ back_at zs ys i

  some_is : (y x : A) → Some y ≡ Some x → y ≡ x
  some_is y x at = ap (λ o. unwrap_or o y) at

  -- an element of a piece is one of all
  in_joined : (pieces : List (List A)) (place i : ℕ) (x : A) → slice_get (piece_before place pieces) i ≡ Some x → (j : ℕ) × (slice_get (joined pieces) j ≡ Some x)
  in_joined pieces zero i x at = absurd (cc at)
  in_joined [] (suc n) i x at = absurd (cc at)
  in_joined (xs ∷ rest) (suc zero) i x at = (i, front_at xs (joined rest) i x at)
  in_joined (xs ∷ rest) (suc (suc n)) i x at =
      let later = in_joined rest (suc n) i x at in
      (length xs + later.0, back_at xs (joined rest) later.0 ∙ later.1)

module _ {A : Type 0} (prefix_of : A → Cidr) (p : Cidr) where
  behind_at : (q : Cidr) (xs : List A) (i : ℕ) (x : A) → AllBehind prefix_of q xs → slice_get xs i ≡ Some x → prefix_cmp q (prefix_of x) ≡ Less
  behind_at q [] i x all at = absurd (cc at)
  behind_at q (y ∷ ys) zero x all at = subst (λ z. prefix_cmp q (prefix_of z) ≡ Less) (some_is y x at) all.0
  behind_at q (y ∷ ys) (suc i) x all at = behind_at q ys i x all.1 at

  -- of a prefix that stands before another one it isn't the same
  other_before : (q : Cidr) → prefix_cmp q p ≡ Less → same_prefix p q ≡ false
  other_before q less = ap is_eq (prefix_cmp_total.antisymm p q ∙ ap ordering_reverse less)

  -- an element of a list in order that has the prefix is what is there for it
  at_index : (xs : List A) (i : ℕ) (x : A) → IsListed prefix_of xs → slice_get xs i ≡ Some x → same_prefix (prefix_of x) p ≡ true → Some x ≡ listed_at prefix_of xs p
  unfolding IsStrictlySortedBy
  at_index [] i x up at own = absurd (cc at)
  at_index (y ∷ ys) zero x up at own =
      let is : prefix_of y ≡ p = ap prefix_of (some_is y x at) ∙ same_is (prefix_of x) p own in
      let same : same_prefix p (prefix_of y) ≡ true = ap (same_prefix p) is ∙ ap is_eq (tied_itself prefix_cmp_total p) in
      sym at ∙ sym (ap (λ b. cond b (Some y) (listed_at prefix_of ys p)) same)
  at_index (y ∷ ys) (suc i) x up at own =
      let less : prefix_cmp (prefix_of y) p ≡ Less = subst (λ q. prefix_cmp (prefix_of y) q ≡ Less) (same_is (prefix_of x) p own) (behind_at (prefix_of y) ys i x up.0 at) in
      at_index ys i x up.1 at own ∙ sym (ap (λ b. cond b (Some y) (listed_at prefix_of ys p)) (other_before (prefix_of y) less))

  -- so it is with an element of a piece
  pub here : (pieces : List (List A)) (place i : ℕ) (x : A) → IsListed prefix_of (joined pieces) → IsHere prefix_of p (piece_before place pieces) i x → Some x ≡ listed_at prefix_of (joined pieces) p
  here pieces place i x up is =
      let of_all = in_joined pieces place i x is.at in
      at_index (joined pieces) of_all.0 x up of_all.1 is.own

  -- ---- the place of a prefix

  begun_at : (pieces : List (List A)) (k : ℕ) (d : List A) → is_begun prefix_of p (slice_get pieces k) ≡ true → begins prefix_of p (get_or pieces k d) ≡ true
  begun_at [] k d is = absurd (cc is)
  begun_at (xs ∷ rest) zero d is = is
  begun_at (xs ∷ rest) (suc k) d is = begun_at rest k d is

  begun_within : (pieces : List (List A)) (k : ℕ) → is_begun prefix_of p (slice_get pieces k) ≡ true → k < length pieces
  begun_within [] k is = absurd (cc is)
  begun_within (xs ∷ rest) zero is = omega arith
  begun_within (xs ∷ rest) (suc k) is = let less = begun_within rest k is in omega (arith, less)

  not_begun_at : (pieces : List (List A)) (k : ℕ) (d : List A) → k < length pieces → is_begun prefix_of p (slice_get pieces k) ≡ false → begins prefix_of p (get_or pieces k d) ≡ false
  not_begun_at [] k d less is = absurd (omega (arith, less))
  not_begun_at (xs ∷ rest) zero d less is = is
  not_begun_at (xs ∷ rest) (suc k) d less is = not_begun_at rest k d (omega (arith, less)) is

  -- a piece begins at the prefix or before it, and the next one, if there is one, behind it
  pub near : (pieces : List (List A)) (n : ℕ) → AreFilled pieces → IsListed prefix_of (joined pieces) → is_begun prefix_of p (slice_get pieces n) ≡ true → is_begun prefix_of p (slice_get pieces (suc n)) ≡ false
      → IsPlaceFor prefix_of pieces p (suc n)
  near pieces n filled up begun next =
      let within : n < length pieces = begun_within pieces n begun in
      let first = begin_first prefix_of p pieces filled up in
      placed prefix_of p pieces (suc n) filled up (omega (arith, within))
      ((λ j d low less. first j n d (omega (arith, less)) within (begun_at pieces n d begun)), (λ j d low less. by j d low less first (begins prefix_of p (get_or pieces j d)) refl))
    where
      by : (j : ℕ) (d : List A) → suc n ≤ j → j < length pieces → ((i j : ℕ) (d : List A) → i ≤ j → j < length pieces → begins prefix_of p (get_or pieces j d) ≡ true → begins prefix_of p (get_or pieces i d) ≡ true)
          → (b : Bool) → begins prefix_of p (get_or pieces j d) ≡ b → begins prefix_of p (get_or pieces j d) ≡ false
      by j d low less first false e = e
      by j d low less first true e = absurd (let clash : true ≡ false = sym (first (suc n) j d low less e) ∙ not_begun_at pieces (suc n) d (omega (arith, low, less)) next in cc)

  fails : (b : Bool) → not b ≡ true → b ≡ false
  fails true e = sym e
  fails false e = refl

  -- no piece begins at the prefix or before it
  none_begun : (pieces : List (List A)) → AreFilled pieces → IsListed prefix_of (joined pieces) → is_begun prefix_of p (slice_get pieces 0) ≡ false → IsPlaceFor prefix_of pieces p 0
  none_begun pieces filled up next =
      let first = begin_first prefix_of p pieces filled up in
      placed prefix_of p pieces 0 filled up (omega arith) ((λ j d low less. absurd (omega (arith, less))), (λ j d low less. by j d less first (begins prefix_of p (get_or pieces j d)) refl))
    where
      by : (j : ℕ) (d : List A) → j < length pieces → ((i j : ℕ) (d : List A) → i ≤ j → j < length pieces → begins prefix_of p (get_or pieces j d) ≡ true → begins prefix_of p (get_or pieces i d) ≡ true)
          → (b : Bool) → begins prefix_of p (get_or pieces j d) ≡ b → begins prefix_of p (get_or pieces j d) ≡ false
      by j d less first false e = e
      by j d less first true e = absurd (let clash : true ≡ false = sym (first 0 j d (omega arith) less e) ∙ not_begun_at pieces 0 d (omega (arith, less)) next in cc)

  pub first_place : (pieces : List (List A)) (place : ℕ) → AreFilled pieces → IsListed prefix_of (joined pieces) → place ≡ 0 → is_begun prefix_of p (slice_get pieces place) ≡ false → IsPlaceFor prefix_of pieces p place
  first_place pieces place filled up none next =
      subst (IsPlaceFor prefix_of pieces p) (sym none) (none_begun pieces filled up (ap (λ k. is_begun prefix_of p (slice_get pieces k)) (sym none) ∙ next))

  pub near_place : (pieces : List (List A)) (place : ℕ) → AreFilled pieces → IsListed prefix_of (joined pieces) → 0 < place → is_begun prefix_of p (slice_get pieces (place - 1)) ≡ true
      → is_begun prefix_of p (slice_get pieces place) ≡ false → IsPlaceFor prefix_of pieces p place
  near_place pieces place filled up some begun next =
      let one : suc (place - 1) ≡ place = omega (arith, some) in
      let behind : is_begun prefix_of p (slice_get pieces (suc (place - 1))) ≡ false = ap (λ k. is_begun prefix_of p (slice_get pieces k)) one ∙ next in
      subst (IsPlaceFor prefix_of pieces p) one (near pieces (place - 1) filled up begun behind)

  -- ---- what stands before the prefix is passed

  pub none_passed : (items : List A) → IsListed prefix_of items → IsPassed prefix_of p items 0
  none_passed items up = record { within = omega arith; in_order = up; at = refl }

  missed : (y : A) (ys : List A) → prefix_cmp (prefix_of y) p ≡ Less → listed_at prefix_of ys p ≡ listed_at prefix_of (y ∷ ys) p
  missed y ys less = sym (ap (λ b. cond b (Some y) (listed_at prefix_of ys p)) (other_before (prefix_of y) less))

  less_at : (q : Cidr) (ys : List A) (n : ℕ) → AllBehind prefix_of q ys → stands_before prefix_of p (slice_get ys n) ≡ true → prefix_cmp q p ≡ Less
  less_at q [] n all less = absurd (cc less)
  less_at q (y ∷ ys) zero all less = prefix_cmp_total.trans q (prefix_of y) p all.0 (less_of (prefix_cmp (prefix_of y) p) less)
  less_at q (y ∷ ys) (suc n) all less = less_at q ys n all.1 less

  pub all_passed : (items : List A) (n : ℕ) → IsListed prefix_of items → stands_before prefix_of p (slice_get items n) ≡ true → IsPassed prefix_of p items (suc n)
  unfolding IsStrictlySortedBy
  all_passed [] n up less = absurd (cc less)
  all_passed (y ∷ ys) zero up less = record {
    within = omega arith;
    in_order = up.1;
    at = missed y ys (less_of (prefix_cmp (prefix_of y) p) less);
  }
  all_passed (y ∷ ys) (suc n) up less =
      let later = all_passed ys n up.1 less in
      record {
        within = let within = later.within in omega (arith, within);
        in_order = later.in_order;
        at = later.at ∙ missed y ys (less_at (prefix_of y) ys n up.0 less);
      }

  pub passed_all : (items : List A) (count : ℕ) → IsListed prefix_of items → 0 < count → stands_before prefix_of p (slice_get items (count - 1)) ≡ true → IsPassed prefix_of p items count
  passed_all items count up some less =
      let one : suc (count - 1) ≡ count = omega (arith, some) in
      subst (IsPassed prefix_of p items) one (all_passed items (count - 1) up less)

  -- nothing is there for a prefix behind which the first one stands
  pub none_there : (xs : List A) → IsListed prefix_of xs → stands_behind prefix_of p (slice_get xs 0) ≡ true → None ≡ listed_at prefix_of xs p
  unfolding IsStrictlySortedBy
  none_there [] up less = refl
  none_there (x ∷ xs) up less =
      let first = less_of (prefix_cmp p (prefix_of x)) less in
      sym (none_behind prefix_of p (x ∷ xs) (first, farther prefix_of p (prefix_of x) xs first up.0))
