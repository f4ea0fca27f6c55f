-- Laws of the decision: there is a best path where there is a path, it stands at the best place, and its standing decides it.
use Rattle.std.proofs.Common.{◌≡◌, ℕ, suc, ◌+◌, ◌<◌, inl, inr, Bool, true, false, not, cond, ◌&&◌, ◌||◌, List, [], ◌∷◌, Option, Some, None, refl, ap, sym, ◌∙◌, arith, filter, map, length}
use Rattle.std.specs.Prelude.{nat_lt, slice_get, option_map, option_and_then, IfSome}
use Rattle.std.specs.Cmp.{IsStrictWeakOrder}
use Rattle.std.specs.List.{list_any, enumerate_from, best_of as std_best}
use Rattle.std.proofs.lemmas.Bool.{false≢true, and_parts}
use Rattle.std.proofs.lemmas.List.MinMax.{IsStrictWeakOrder-by_number}
use Rattle.rc_base.specs.Lists.{keep}
use Rattle.rc_base.proofs.KeepLaws.{In, any_no, none_passes, filter_same}
use Rattle.rc_route.specs.declared.path.BgpPath.{BgpPath}
use Rattle.rc_bgp_decide.specs.declared.standing.Standing.{Standing}
use Rattle.rc_bgp_decide.specs.Decision.{standing, eliminate, eliminations, first_left, place_of_best, best_path, best_place, best_standing, is_external, is_internal, by_med, by_session}
use Rattle.rc_bgp_decide.specs.Tests.{by_way}
use Rattle.rc_bgp_decide.proofs.OrderLaws.{Test, first_orders, last_orders, order_on}
use Rattle.rc_bgp_decide.proofs.RowLaws.{in_filter, not_beaten, one_kind}
use Rattle.rc_bgp_decide.proofs.LeaderLaws.{first_kept}

-- ---- by standings alone

module _ {X Y : Type 0} (key : X → Y) where
  any_map : (q : Y → Bool) (xs : List X) → list_any (λ x. q (key x)) xs ≡ list_any q (map key xs)
  any_map q [] = refl
  any_map q (x ∷ xs) = ap (λ b. q (key x) || b) (any_map q xs)

  map_filter : (q : Y → Bool) (xs : List X) → map key (filter (λ x. q (key x)) xs) ≡ filter q (map key xs)
  map_filter q [] = refl
  map_filter q (x ∷ xs) = by_test (q (key x)) (map_filter q xs)
    where
      by_test : (b : Bool) → map key (filter (λ x. q (key x)) xs) ≡ filter q (map key xs) → map key (cond b (x ∷ filter (λ x. q (key x)) xs) (filter (λ x. q (key x)) xs)) ≡ cond b (key x ∷ filter q (map key xs)) (filter q (map key xs))
      by_test true e = ap (λ ys. key x ∷ ys) e
      by_test false e = e

  -- an elimination that reads a key alone
  map_keep : (better : Y → Y → Bool) (xs : List X) → map key (keep (λ x y. better (key x) (key y)) xs) ≡ keep better (map key xs)
  map_keep better xs =
      ap (map key) (filter_same (λ x. not (list_any (λ y. better (key y) (key x)) xs)) (λ x. not (list_any (λ k. better k (key x)) (map key xs))) xs
      (λ x there. ap not (any_map (λ k. better k (key x)) xs)))
      ∙ map_filter (λ k. not (list_any (λ j. better j k) (map key xs))) xs

  map_eliminate : (of : Y → Standing) (bs : List Test) (xs : List X) → map key (eliminate (λ x. of (key x)) bs xs) ≡ eliminate of bs (map key xs)
  map_eliminate of [] xs = refl
  map_eliminate of (b ∷ bs) xs = map_eliminate of bs (keep (λ x y. b (of (key x)) (of (key y))) xs) ∙ ap (eliminate of bs) (map_keep (λ x y. b (of x) (of y)) xs)

enumerate_map : {X Y : Type 0} (f : X → Y) (n : ℕ) (xs : List X) → map (λ (e : ℕ × X). (e.0, f e.1)) (enumerate_from n xs) ≡ enumerate_from n (map f xs)
enumerate_map f n [] = refl
enumerate_map f n (x ∷ xs) = ap (λ ys. (n, f x) ∷ ys) (enumerate_map f (n + 1) xs)

enumerated : {X : Type 0} (n : ℕ) (xs : List X) → map (λ (e : ℕ × X). e.1) (enumerate_from n xs) ≡ xs
enumerated n [] = refl
enumerated n (x ∷ xs) = ap (λ ys. x ∷ ys) (enumerated (n + 1) xs)

first_map : {X Y : Type 0} (f : X → Y) (xs : List X) → slice_get (map f xs) 0 ≡ option_map f (slice_get xs 0)
first_map f [] = refl
first_map f (x ∷ xs) = refl

place_map : {X Y : Type 0} (f : X → Y) (o : Option (ℕ × X)) → option_map (λ (e : ℕ × Y). e.0) (option_map (λ (e : ℕ × X). (e.0, f e.1)) o) ≡ option_map (λ (e : ℕ × X). e.0) o
place_map f None = refl
place_map f (Some e) = refl

-- deciding on standings is deciding on paths
pub standings_decide : (paths : List BgpPath) → best_standing (map standing paths) ≡ best_place paths
standings_decide paths =
    ap (λ es. option_map (λ (e : ℕ × Standing). e.0) (slice_get (eliminate (λ (e : ℕ × Standing). e.1) eliminations es) 0)) (sym (enumerate_map standing 0 paths))
    ∙ ap (λ es. option_map (λ (e : ℕ × Standing). e.0) (slice_get es 0)) (sym (map_eliminate placed (λ (e : ℕ × Standing). e.1) eliminations (enumerate_from 0 paths)))
    ∙ ap (option_map (λ (e : ℕ × Standing). e.0)) (first_map placed (eliminate (λ (e : ℕ × BgpPath). standing e.1) eliminations (enumerate_from 0 paths)))
    ∙ place_map standing (first_left (λ (e : ℕ × BgpPath). standing e.1) (enumerate_from 0 paths))
  where
    placed : ℕ × BgpPath → ℕ × Standing
    placed e = (e.0, standing e.1)

-- ---- where the best stands

pub in_eliminate : {X : Type 0} (of : X → Standing) (bs : List Test) (xs : List X) (x : X) → In x (eliminate of bs xs) → In x xs
in_eliminate of [] xs x there = there
in_eliminate of (b ∷ bs) xs x there =
    (in_filter (λ z. not (list_any (λ y. b (of y) (of z)) xs)) xs x (in_eliminate of bs (keep (λ x y. b (of x) (of y)) xs) x there)).0

pub first_is_in : {X : Type 0} (xs : List X) (x : X) → slice_get xs 0 ≡ Some x → In x xs
first_is_in [] x e = absurd (cc)
first_is_in (y ∷ ys) x e = inl (cc)

-- a member of an enumeration stands at its place
pub record IsPlaced {X : Type 0} (n : ℕ) (xs : List X) (e : ℕ × X) : Type 0 where
  pub offset : ℕ
  pub place : e.0 ≡ n + offset
  pub below : offset < length xs
  pub found : slice_get xs offset ≡ Some e.1

pub member_is_placed : {X : Type 0} (n : ℕ) (xs : List X) (e : ℕ × X) → In e (enumerate_from n xs) → IsPlaced n xs e
member_is_placed n [] e there = absurd there
member_is_placed n (x ∷ xs) e (inl same) = record {
  offset = 0;
  place = sym (ap (λ (e : ℕ × _). e.0) same) ∙ omega arith;
  below = omega arith;
  found = ap (λ (e : ℕ × _). Some e.1) same;
}
member_is_placed n (x ∷ xs) e (inr there) =
    let later = member_is_placed (n + 1) xs e there in
    let place = later.place in
    let below = later.below in
    record { offset = suc later.offset; place = omega arith; below = omega arith; found = later.found }

module _ {X : Type 0} (of : X → Standing) (xs : List X) where
  abbrev placed_best : Option (ℕ × X)
  placed_best = first_left (λ (e : ℕ × X). of e.1) (enumerate_from 0 xs)

  pub best_is_placed : (e : ℕ × X) → placed_best ≡ Some e → IsPlaced 0 xs e
  best_is_placed e is =
      member_is_placed 0 xs e (in_eliminate (λ (e : ℕ × X). of e.1) eliminations (enumerate_from 0 xs) e (first_is_in (eliminate (λ (e : ℕ × X). of e.1) eliminations (enumerate_from 0 xs)) e is))

  place_is_below : (i : ℕ) → place_of_best of xs ≡ Some i → i < length xs
  place_is_below i is = by_best placed_best refl is
    where
      by_best : (o : Option (ℕ × X)) → placed_best ≡ o → option_map (λ (e : ℕ × X). e.0) o ≡ Some i → i < length xs
      by_best None found e = absurd (cc)
      by_best (Some e) found same =
          let p = best_is_placed e found in
          let at = p.place in
          let below = p.below in
          let here : e.0 ≡ i = cc in
          omega arith

  pub place_within : (o : Option ℕ) → o ≡ place_of_best of xs → IfSome o (λ i. i < length xs)
  place_within None is = tt
  place_within (Some i) is = place_is_below i (sym is)

  pub best_at_place : first_left of xs ≡ option_and_then (slice_get xs) (place_of_best of xs)
  best_at_place =
      ap (λ ys. slice_get (eliminate of eliminations ys) 0) (sym (enumerated 0 xs))
      ∙ ap (λ ys. slice_get ys 0) (sym (map_eliminate (λ (e : ℕ × X). e.1) of eliminations (enumerate_from 0 xs)))
      ∙ first_map (λ (e : ℕ × X). e.1) (eliminate (λ (e : ℕ × X). of e.1) eliminations (enumerate_from 0 xs))
      ∙ by_best placed_best refl
    where
      by_best : (o : Option (ℕ × X)) → placed_best ≡ o → option_map (λ (e : ℕ × X). e.1) o ≡ option_and_then (slice_get xs) (option_map (λ (e : ℕ × X). e.0) o)
      by_best None found = refl
      by_best (Some e) found =
          let p = best_is_placed e found in
          let at = p.place in
          let here : e.0 ≡ p.offset = omega arith in
          sym (ap (slice_get xs) here ∙ p.found)

-- the best path stands at the best place
pub best_path_at_place : (paths : List BgpPath) → best_path paths ≡ option_and_then (slice_get paths) (best_place paths)
best_path_at_place paths = best_at_place standing paths

-- ---- there is a best

-- each test says no more than some order does
record IsBounded (b : Test) : Type 0 where
  bound : Test
  order : IsStrictWeakOrder bound
  within : (x y : Standing) → b x y ≡ true → bound x y ≡ true

by_itself : (b : Test) → IsStrictWeakOrder b → IsBounded b
by_itself b o = record { bound = b; order = o; within = λ x y e. e }

med_bounded : IsBounded by_med
med_bounded = record {
  bound = λ x y. nat_lt x.med y.med;
  order = IsStrictWeakOrder-by_number (λ (s : Standing). s.med);
  within = λ x y e. (and_parts _ _ e).1;
}

session_bounded : IsBounded by_session
session_bounded = record { bound = by_way; order = last_orders.0; within = λ x y e. by_kinds (is_external x.source) (is_internal x.source) (is_internal y.source) (one_kind x.source) e }
  where
    by_kinds : (ex ix iy : Bool) → ex && ix ≡ false → ex && iy ≡ true → not ix && iy ≡ true
    by_kinds true true iy one e = absurd (cc)
    by_kinds true false iy one e = e
    by_kinds false ix iy one e = absurd (cc)

abbrev AllBounded : List Test → Type 0
AllBounded [] = Unit {0}
AllBounded (b ∷ bs) = IsBounded b × AllBounded bs

all_bounded : AllBounded eliminations
all_bounded = (
  by_itself _ first_orders.0,
  (
    by_itself _ first_orders.1.0,
    (
      by_itself _ first_orders.1.1.0,
      (
        by_itself _ first_orders.1.1.1.0,
        (
          by_itself _ first_orders.1.1.1.1.0,
          (
            med_bounded,
            (
              session_bounded,
              (by_itself _ last_orders.1.0, (by_itself _ last_orders.1.1.0, (by_itself _ last_orders.1.1.1.0, (by_itself _ last_orders.1.1.1.1.0, tt)))),
            ),
          ),
        ),
      ),
    ),
  ),
)

abbrev HasSome : {X : Type 0} → List X → Type 0
HasSome [] = ⊥
HasSome (x ∷ xs) = Unit {0}

some_in : {X : Type 0} (x : X) (xs : List X) → In x xs → HasSome xs
some_in x [] there = there
some_in x (y ∷ ys) there = tt

pub stays_in : {X : Type 0} (p : X → Bool) (xs : List X) (x : X) → In x xs → p x ≡ true → In x (filter p xs)
stays_in p [] x there passes = there
stays_in {X} p (y ∷ ys) x there passes = by_test (p y) refl there (λ t. stays_in p ys x t passes)
  where
    by_test : (b : Bool) → p y ≡ b → In x (y ∷ ys) → (In x ys → In x (filter p ys)) → In x (cond b (y ∷ filter p ys) (filter p ys))
    by_test true e (inl same) later = inl same
    by_test true e (inr there) later = inr (later there)
    by_test false e (inl same) later = absurd (false≢true (sym e ∙ ap p same ∙ passes))
    by_test false e (inr there) later = later there

module _ {X : Type 0} (of : X → Standing) (b : Test) (bounded : IsBounded b) (a : X) (xs : List X) where
  bound : X → X → Bool
  bound x y = bounded.bound (of x) (of y)

  least : X
  least = std_best bound a xs

  least_is_kept : In least (a ∷ xs) × (not (list_any (λ y. bound y least) (a ∷ xs)) ≡ true)
  unfolding least bound
  least_is_kept =
      in_filter (λ x. not (list_any (λ y. bound y x) (a ∷ xs))) (a ∷ xs) least
      (first_is_in (keep bound (a ∷ xs)) least (first_kept bound (order_on of bounded.bound bounded.order) a xs))

  least_is_unbeaten : list_any (λ y. b (of y) (of least)) (a ∷ xs) ≡ false
  unfolding bound
  least_is_unbeaten = none_passes (λ y. b (of y) (of least)) (a ∷ xs) (λ y there. by_test y there (b (of y) (of least)) refl)
    where
      by_test : (y : X) → In y (a ∷ xs) → (t : Bool) → b (of y) (of least) ≡ t → t ≡ false
      by_test y there false e = refl
      by_test y there true e = absurd (false≢true (sym (any_no (λ z. bound z least) (a ∷ xs) (not_beaten _ least_is_kept.1) y there) ∙ bounded.within (of y) (of least) e))

  some_kept : HasSome (keep (λ x y. b (of x) (of y)) (a ∷ xs))
  some_kept = some_in least _ (stays_in (λ x. not (list_any (λ y. b (of y) (of x)) (a ∷ xs))) (a ∷ xs) least least_is_kept.0 (ap not least_is_unbeaten))

kept_some : {X : Type 0} (of : X → Standing) (b : Test) → IsBounded b → (xs : List X) → HasSome xs → HasSome (keep (λ x y. b (of x) (of y)) xs)
kept_some of b bounded [] some = some
kept_some of b bounded (a ∷ xs) some = some_kept of b bounded a xs

left_some : {X : Type 0} (of : X → Standing) (bs : List Test) → AllBounded bs → (xs : List X) → HasSome xs → HasSome (eliminate of bs xs)
left_some of [] all xs some = some
left_some of (b ∷ bs) all xs some = left_some of bs all.1 (keep (λ x y. b (of x) (of y)) xs) (kept_some of b all.0 xs some)

-- no best, only where there is nothing
pub none_from_none : {X : Type 0} (of : X → Standing) (xs : List X) → place_of_best of xs ≡ None → xs ≡ []
none_from_none of [] none = refl
none_from_none {X} of (x ∷ xs) none =
    absurd (by_left (eliminate (λ (e : ℕ × X). of e.1) eliminations (enumerate_from 0 (x ∷ xs))) (left_some (λ (e : ℕ × X). of e.1) eliminations all_bounded (enumerate_from 0 (x ∷ xs)) tt) none)
  where
    by_left : (es : List (ℕ × X)) → HasSome es → option_map (λ (e : ℕ × X). e.0) (slice_get es 0) ≡ None → ⊥
    by_left [] some none = some
    by_left (e ∷ es) some none = absurd (cc)

-- one alone is the best
pub alone_is_best : {X : Type 0} (of : X → Standing) (xs : List X) → length xs ≡ 1 → Some 0 ≡ place_of_best of xs
alone_is_best {X} of xs one = by (place_of_best of xs) refl
  where
    by : (o : Option ℕ) → o ≡ place_of_best of xs → Some 0 ≡ o
    by None is = absurd (let empty : xs ≡ [] = none_from_none of xs (sym is) in let none : length xs ≡ 0 = ap length empty in omega arith)
    by (Some i) is = (let below : i < length xs = place_within of xs (Some i) is in ap Some (let least : 0 ≡ i = omega arith in least))
