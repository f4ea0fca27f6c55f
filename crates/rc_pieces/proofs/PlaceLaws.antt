-- The piece that has what is there for a prefix.
use Rattle.std.proofs.Common.{refl, ◌≡◌, ◌≢◌, ap, sym, ◌∙◌, ℕ, zero, suc, ◌<◌, ◌≤◌, Bool, true, false, not, List, [], ◌∷◌, ◌++◌, length, map, get_or, Some, None, arith}
use Rattle.std.specs.List.{AllByRecursion}
use Rattle.std.specs.List.Sorted.{IsStrictlySortedBy, IsPartitionedBy, IsPartitionPoint}
use Rattle.std.specs.Option.{option_or}
use Rattle.std.specs.Ordering.{is_lt, is_some_and, ordering_then, nat_cmp, partial_lt, partial_ordering_then}
use Rattle.std.specs.declared.cmp.Ordering.{Ordering}
use Rattle.std.specs.declared.cmp.Ordering.TheVariants.{Less, Equal, Greater}
use Rattle.rc_base.specs.Prefix.{Cidr, prefix_cmp}
use Rattle.rc_base.specs.contracts.prefix.PrefixPartialOrd.TheImpl as partial_impl
use Rattle.rc_route.specs.Tables.{IsListed, listed_at}
use Rattle.rc_pieces.specs.Pieces.{AllBehind, AreFilled, IsPlaceFor, first_prefix, joined}
use Rattle.rc_pieces.proofs.OrderLaws.{apart, at_append, back_in_order, farther, front_in_order, none_before, none_behind, or_none}

both_lt : (a b : Ordering) → is_some_and is_lt (partial_ordering_then (Some a) (Some b)) ≡ is_lt (ordering_then a b)
both_lt Less b = refl
both_lt Equal b = refl
both_lt Greater b = refl

then_equal : (a : Ordering) → ordering_then a Equal ≡ a
then_equal Less = refl
then_equal Equal = refl
then_equal Greater = refl

-- what `<` of prefixes says
pub lt_code : (p q : Cidr) → partial_lt partial_impl.partial_cmp-value.it p q ≡ is_lt (prefix_cmp p q)
lt_code p q = both_lt (nat_cmp p.network q.network) (nat_cmp p.len q.len) ∙ sym (ap (λ o. is_lt (ordering_then (nat_cmp p.network q.network) o)) (then_equal (nat_cmp p.len q.len)))

module _ {A : Type 0} (prefix_of : A → Cidr) (p : Cidr) where
  -- a piece begins at the prefix or before it
  abbrev pub begins : List A → Bool
  begins xs = not (is_lt (prefix_cmp p (first_prefix prefix_of xs)))

  fails : (b : Bool) → not b ≡ false → b ≡ true
  fails true e = refl
  fails false e = sym e

  passes : (b : Bool) → not b ≡ true → b ≡ false
  passes true e = sym e
  passes false e = refl

  less_of : (o : Ordering) → is_lt o ≡ true → o ≡ Less
  less_of Less e = refl
  less_of Equal e = absurd (cc e)
  less_of Greater e = absurd (cc e)

  -- all elements of pieces stand behind the prefix where the first piece begins behind it
  all_later : (xs : List A) (rest : List (List A)) → xs ≢ [] → IsListed prefix_of (xs ++ joined rest) → begins xs ≡ false → AllBehind prefix_of p (xs ++ joined rest)
  unfolding IsStrictlySortedBy
  all_later [] rest some up past = absurd (some refl)
  all_later (x ∷ xs) rest some up past =
      let less : prefix_cmp p (prefix_of x) ≡ Less = less_of (prefix_cmp p (prefix_of x)) (fails (is_lt (prefix_cmp p (prefix_of x))) past) in
      (less, farther prefix_of p (prefix_of x) (xs ++ joined rest) less up.0)

  -- so it is of all pieces, where the first one, if there is one, begins behind the prefix
  all_behind : (pieces : List (List A)) → AreFilled pieces → IsListed prefix_of (joined pieces) → ((d : List A) → 0 < length pieces → begins (get_or pieces 0 d) ≡ false) → AllBehind prefix_of p (joined pieces)
  all_behind [] filled up past = tt
  all_behind (xs ∷ rest) filled up past = all_later xs rest filled.0 up (past [] (omega arith))

  -- pieces that begin behind the prefix stand behind those that don't
  pub begin_first : (pieces : List (List A)) → AreFilled pieces → IsListed prefix_of (joined pieces) → IsPartitionedBy begins pieces
  begin_first [] filled up i j d le less passed = absurd (omega arith)
  begin_first (xs ∷ rest) filled up zero zero d le less passed = passed
  begin_first (xs ∷ rest) filled up zero (suc j) d le less passed = by (begins xs) refl
    where
      one : (ys : List A) → ys ≢ [] → AllByRecursion (λ q. prefix_cmp p q ≡ Less) (map prefix_of ys) → begins ys ≡ false
      one [] some all = absurd (some refl)
      one (y ∷ ys) some all = ap (λ o. not (is_lt o)) all.0

      at : (pieces : List (List A)) (k : ℕ) → AreFilled pieces → AllBehind prefix_of p (joined pieces) → k < length pieces → begins (get_or pieces k d) ≡ false
      at [] k filled all within = absurd (omega (arith, within))
      at (ys ∷ more) zero filled all within = one ys filled.0 (front ys more all)
        where
          front : (ys : List A) (more : List (List A)) → AllBehind prefix_of p (ys ++ joined more) → AllBehind prefix_of p ys
          front [] more all = tt
          front (y ∷ ys) more all = (all.0, front ys more all.1)
      at (ys ∷ more) (suc k) filled all within = at more k filled.1 (back ys more all) (omega (arith, within))
        where
          back : (ys : List A) (more : List (List A)) → AllBehind prefix_of p (ys ++ joined more) → AllBehind prefix_of p (joined more)
          back [] more all = all
          back (y ∷ ys) more all = back ys more all.1

      tail : (xs : List A) → AllBehind prefix_of p (xs ++ joined rest) → AllBehind prefix_of p (joined rest)
      tail [] all = all
      tail (x ∷ xs) all = tail xs all.1

      by : (b : Bool) → begins xs ≡ b → begins xs ≡ true
      by true e = e
      by false e = absurd (let clash : false ≡ true = sym (at rest j filled.1 (tail xs (all_later xs rest filled.0 up e)) (omega (arith, less))) ∙ passed in cc)
  begin_first (xs ∷ rest) filled up (suc i) zero d le less passed = absurd (omega arith)
  begin_first (xs ∷ rest) filled up (suc i) (suc j) d le less passed = begin_first rest filled.1 (back_in_order prefix_of xs (joined rest) up) i j d (omega arith) (omega arith) passed

  none_in_order : IsListed prefix_of []
  unfolding IsStrictlySortedBy
  none_in_order = tt

  -- the pieces before a place begin at the prefix or before it, and the others behind it
  pub placed : (pieces : List (List A)) (k : ℕ) → AreFilled pieces → IsListed prefix_of (joined pieces) → k ≤ length pieces → IsPartitionPoint (λ xs. begins xs ≡ true) (λ xs. begins xs ≡ false) pieces k → IsPlaceFor prefix_of pieces p k
  placed [] zero filled up within point = record {
    at = refl;
    in_order = up;
    within = within;
    later = tt;
  }
  placed [] (suc k) filled up within point = absurd (omega (arith, within))
  placed (xs ∷ rest) zero filled up within point =
      let later : AllBehind prefix_of p (joined (xs ∷ rest)) = all_behind (xs ∷ rest) filled up (λ d less. point.1 0 d (omega arith) (omega (arith, less))) in
      record {
        at = none_behind prefix_of p (joined (xs ∷ rest)) later;
        in_order = none_in_order;
        within = within;
        later = later;
      }
  placed (xs ∷ rest) (suc zero) filled up within point =
      let later : AllBehind prefix_of p (joined rest) = all_behind rest filled.1 (back_in_order prefix_of xs (joined rest) up) (λ d less. point.1 1 d (omega arith) (omega (arith, less))) in
      let none : listed_at prefix_of (joined rest) p ≡ None = none_behind prefix_of p (joined rest) later in
      record {
        at = at_append prefix_of p xs (joined rest) ∙ ap (λ o. option_or (listed_at prefix_of xs p) o) none ∙ or_none (listed_at prefix_of xs p);
        in_order = front_in_order prefix_of xs (joined rest) up;
        within = within;
        later = later;
      }
  placed (xs ∷ []) (suc (suc k)) filled up within point = absurd (omega (arith, within))
  placed (xs ∷ ys ∷ rest) (suc (suc k)) filled up within point =
      let later = placed (ys ∷ rest) (suc k) filled.1 (back_in_order prefix_of xs (joined (ys ∷ rest)) up) (omega (arith, within))
      ((λ j d low less. point.0 (suc j) d (omega arith) (omega (arith, less))), (λ j d low less. point.1 (suc j) d (omega (arith, low)) (omega (arith, less)))) in
      let past : begins ys ≡ true = point.0 1 ys (omega arith) (omega arith) in
      record {
        at = at_append prefix_of p xs (joined (ys ∷ rest)) ∙ ap (λ o. option_or o (listed_at prefix_of (joined (ys ∷ rest)) p)) (missed ys filled.1.0 past (apart prefix_of xs (joined (ys ∷ rest)) up)) ∙ later.at;
        in_order = later.in_order;
        within = within;
        later = later.later;
      }
    where
      before_first : (y : A) (ys : List A) (qs : List Cidr) → AllByRecursion (λ q. AllBehind prefix_of q ((y ∷ ys) ++ joined rest)) qs → AllByRecursion (λ q. prefix_cmp q (prefix_of y) ≡ Less) qs
      before_first y ys [] all = tt
      before_first y ys (q ∷ qs) all = (all.0.0, before_first y ys qs all.1)

      missed : (ys : List A) → ys ≢ [] → begins ys ≡ true → AllByRecursion (λ q. AllBehind prefix_of q (ys ++ joined rest)) (map prefix_of xs) → listed_at prefix_of xs p ≡ None
      missed [] some past all = absurd (some refl)
      missed (y ∷ ys) some past all = none_before prefix_of p (prefix_of y) xs (passes (is_lt (prefix_cmp p (prefix_of y))) past) (before_first y ys (map prefix_of xs) all)
