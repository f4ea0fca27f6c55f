-- First elements that pass a test, and tests of some element.
use Rattle.std.proofs.Common.{refl, ◌≡◌, ap, sym, ◌∙◌, ℕ, zero, suc, ◌+◌, ◌<◌, ◌≤◌, Bool, true, false, not, cond, ◌&&◌, ◌||◌, List, [], ◌∷◌, ◌++◌, length, map, filter, take, get_or, Some, None, add-one, subst, arith}
use Rattle.std.specs.Prelude.{slice_get}
use Rattle.std.specs.List.{list_any, find, AllByRecursion}
use Rattle.std.specs.List.Sorted.{IsPartitionPoint}
use Rattle.std.specs.Option.{option_map_or}

module _ {X : Type 0} where
  -- tests that agree on each element agree on some of them, on the first one and on the list of those that pass
  pub any_agree : (p q : X → Bool) (xs : List X) → AllByRecursion (λ x. p x ≡ q x) xs → list_any p xs ≡ list_any q xs
  any_agree p q [] same = refl
  any_agree p q (x ∷ xs) same = ap (λ b. b || list_any p xs) same.0 ∙ ap (λ b. q x || b) (any_agree p q xs same.1)

  pub find_agree : (p q : X → Bool) (xs : List X) → AllByRecursion (λ x. p x ≡ q x) xs → find p xs ≡ find q xs
  find_agree p q [] same = refl
  find_agree p q (x ∷ xs) same = ap (λ b. cond b (Some x) (find p xs)) same.0 ∙ ap (λ o. cond (q x) (Some x) o) (find_agree p q xs same.1)

  pub filter_agree : (p q : X → Bool) (xs : List X) → AllByRecursion (λ x. p x ≡ q x) xs → filter p xs ≡ filter q xs
  filter_agree p q [] same = refl
  filter_agree p q (x ∷ xs) same = ap (λ b. cond b (x ∷ filter p xs) (filter p xs)) same.0 ∙ ap (λ ys. cond (q x) (x ∷ ys) ys) (filter_agree p q xs same.1)

  pub all_of : (P : X → Type 0) → ((x : X) → P x) → (xs : List X) → AllByRecursion P xs
  all_of P each [] = tt
  all_of P each (x ∷ xs) = (each x, all_of P each xs)

  pub any_each : (p q : X → Bool) → ((x : X) → p x ≡ q x) → (xs : List X) → list_any p xs ≡ list_any q xs
  any_each p q each xs = any_agree p q xs (all_of (λ x. p x ≡ q x) each xs)

  pub find_each : (p q : X → Bool) → ((x : X) → p x ≡ q x) → (xs : List X) → find p xs ≡ find q xs
  find_each p q each xs = find_agree p q xs (all_of (λ x. p x ≡ q x) each xs)

  pub filter_each : (p q : X → Bool) → ((x : X) → p x ≡ q x) → (xs : List X) → filter p xs ≡ filter q xs
  filter_each p q each xs = filter_agree p q xs (all_of (λ x. p x ≡ q x) each xs)

  pub all_at : (P : X → Type 0) (xs : List X) (k : ℕ) (d : X) → AllByRecursion P xs → k < length xs → P (get_or xs k d)
  all_at P [] k d all less = absurd (omega arith)
  all_at P (x ∷ xs) zero d all less = all.0
  all_at P (x ∷ xs) (suc k) d all less = all_at P xs k d all.1 (omega arith)

  pub all_filter : (P : X → Type 0) (p : X → Bool) (xs : List X) → AllByRecursion P xs → AllByRecursion P (filter p xs)
  all_filter P p [] all = tt
  all_filter P p (x ∷ xs) all = by (p x) (all_filter P p xs all.1)
    where
      by : (b : Bool) → AllByRecursion P (filter p xs) → AllByRecursion P (cond b (x ∷ filter p xs) (filter p xs))
      by true rest = (all.0, rest)
      by false rest = rest

  pub all_append : (P : X → Type 0) (xs ys : List X) → AllByRecursion P xs → AllByRecursion P ys → AllByRecursion P (xs ++ ys)
  all_append P [] ys all all' = all'
  all_append P (x ∷ xs) ys all all' = (all.0, all_append P xs ys all.1 all')

  pub none_passes : (p : X → Bool) (xs : List X) → AllByRecursion (λ x. p x ≡ false) xs → list_any p xs ≡ false
  none_passes p [] none = refl
  none_passes p (x ∷ xs) none = ap (λ b. b || list_any p xs) none.0 ∙ none_passes p xs none.1

  -- what holds of each element holds of the first one that passes
  pub found_has : (P : X → Type 0) (p : X → Bool) (xs : List X) (y : X) → AllByRecursion P xs → find p xs ≡ Some y → P y
  found_has P p [] y all found = absurd (cc)
  found_has P p (x ∷ xs) y all found = by (p x) found (found_has P p xs y all.1)
    where
      by : (b : Bool) → cond b (Some x) (find p xs) ≡ Some y → (find p xs ≡ Some y → P y) → P y
      by true here later = (let same : x ≡ y = cc in subst P same all.0)
      by false there later = later there

  pub found_passes : (p : X → Bool) (xs : List X) (y : X) → find p xs ≡ Some y → p y ≡ true
  found_passes p [] y found = absurd (cc)
  found_passes p (x ∷ xs) y found = by (p x) refl found (found_passes p xs y)
    where
      by : (b : Bool) → p x ≡ b → cond b (Some x) (find p xs) ≡ Some y → (find p xs ≡ Some y → p y ≡ true) → p y ≡ true
      by true is here later = (let same : x ≡ y = cc in ap p (sym same) ∙ is)
      by false is there later = later there

  -- the first that passes among those that pass another test
  pub find_filter : (p q : X → Bool) (xs : List X) → find q (filter p xs) ≡ find (λ x. p x && q x) xs
  find_filter p q [] = refl
  find_filter p q (x ∷ xs) = by (p x) (find_filter p q xs)
    where
      by : (b : Bool) → find q (filter p xs) ≡ find (λ y. p y && q y) xs → find q (cond b (x ∷ filter p xs) (filter p xs)) ≡ cond (b && q x) (Some x) (find (λ y. p y && q y) xs)
      by true rest = ap (λ o. cond (q x) (Some x) o) rest
      by false rest = rest

  pub find_never : (xs : List X) → find (λ x. false) xs ≡ None
  find_never [] = refl
  find_never (x ∷ xs) = find_never xs

  -- where none passes the first test, none passes both
  pub find_none_and : (p q : X → Bool) (xs : List X) → find p xs ≡ None → find (λ x. p x && q x) xs ≡ None
  find_none_and p q [] none = refl
  find_none_and p q (x ∷ xs) none = by (p x) none (find_none_and p q xs)
    where
      by : (b : Bool) → cond b (Some x) (find p xs) ≡ None → (find p xs ≡ None → find (λ y. p y && q y) xs ≡ None) → cond (b && q x) (Some x) (find (λ y. p y && q y) xs) ≡ None
      by true here later = absurd (cc)
      by false there later = later there

  -- the first that passes one test, where it passes another too
  pub find_and : (p q : X → Bool) (xs : List X) (y : X) → find p xs ≡ Some y → q y ≡ true → find (λ x. p x && q x) xs ≡ Some y
  find_and p q [] y found is = absurd (cc)
  find_and p q (x ∷ xs) y found is = by (p x) found (λ there. find_and p q xs y there is)
    where
      by : (b : Bool) → cond b (Some x) (find p xs) ≡ Some y → (find p xs ≡ Some y → find (λ z. p z && q z) xs ≡ Some y) → cond (b && q x) (Some x) (find (λ z. p z && q z) xs) ≡ Some y
      by true here later = (let same : x ≡ y = cc in ap (λ b. cond b (Some x) (find (λ z. p z && q z) xs)) (ap q same ∙ is) ∙ here)
      by false there later = later there

  pub filter_none : (p : X → Bool) (xs : List X) → find p xs ≡ None → filter p xs ≡ []
  filter_none p [] none = refl
  filter_none p (x ∷ xs) none = by (p x) none (filter_none p xs)
    where
      by : (b : Bool) → cond b (Some x) (find p xs) ≡ None → (find p xs ≡ None → filter p xs ≡ []) → cond b (x ∷ filter p xs) (filter p xs) ≡ []
      by true here later = absurd (cc)
      by false there later = later there

  pub filter_no : (p : X → Bool) (xs : List X) → AllByRecursion (λ x. p x ≡ false) xs → filter p xs ≡ []
  filter_no p [] none = refl
  filter_no p (x ∷ xs) none = ap (λ b. cond b (x ∷ filter p xs) (filter p xs)) none.0 ∙ filter_no p xs none.1

  -- what stands at the point where a test turns is the first that fails it
  pub first_at : (p q : X → Bool) → ((x : X) → q x ≡ not (p x)) → (xs : List X) (k : ℕ) → k ≤ length xs → IsPartitionPoint (λ x. p x ≡ true) (λ x. p x ≡ false) xs k → slice_get xs k ≡ find q xs
  first_at p q turned [] k within point = refl
  first_at p q turned (x ∷ xs) zero within point = sym (ap (λ b. cond b (Some x) (find q xs)) (turned x ∙ ap not (point.1 0 x (omega arith) (omega arith))))
  first_at p q turned (x ∷ xs) (suc k) within point =
      first_at p q turned xs k (omega arith) ((λ j d low less. point.0 (suc j) d (omega arith) (omega arith)), (λ j d low less. point.1 (suc j) d (omega arith) (omega arith)))
      ∙ sym (ap (λ b. cond b (Some x) (find q xs)) (turned x ∙ ap not (point.0 0 x (omega arith) (omega arith))))

  pub any_at : (p : X → Bool) (xs : List X) (k : ℕ) (d : X) → k < length xs → p (get_or xs k d) ≡ true → list_any p xs ≡ true
  any_at p [] k d less is = absurd (omega arith)
  any_at p (x ∷ xs) zero d less is = ap (λ b. b || list_any p xs) is
  any_at p (x ∷ xs) (suc k) d less is = ap (λ b. p x || b) (any_at p xs k d (omega arith) is) ∙ or_true (p x)
    where
      or_true : (b : Bool) → b || true ≡ true
      or_true true = refl
      or_true false = refl

  pub none_within : (p : X → Bool) (xs : List X) → ((k : ℕ) (d : X) → k < length xs → p (get_or xs k d) ≡ false) → list_any p xs ≡ false
  none_within p [] none = refl
  none_within p (x ∷ xs) none = ap (λ b. b || list_any p xs) (none 0 x (omega arith)) ∙ none_within p xs (λ k d less. none (suc k) d (omega arith))

or_false : (b : Bool) → b || false ≡ b
or_false true = refl
or_false false = refl

or_turned : (a b c d : Bool) → (a || b) || (c || d) ≡ (a || c) || (b || d)
or_turned true b c d = refl
or_turned false b true d = or_true b
  where
    or_true : (b : Bool) → b || true ≡ true
    or_true true = refl
    or_true false = refl
or_turned false b false d = refl

any_or : {X : Type 0} (p q : X → Bool) (xs : List X) → list_any (λ x. p x || q x) xs ≡ list_any p xs || list_any q xs
any_or p q [] = refl
any_or p q (x ∷ xs) = ap (λ b. (p x || q x) || b) (any_or p q xs) ∙ or_turned (p x) (q x) (list_any p xs) (list_any q xs)

pub any_never : {X : Type 0} (xs : List X) → list_any (λ x. false) xs ≡ false
any_never [] = refl
any_never (x ∷ xs) = any_never xs

-- some pair of two lists passes, whichever list is gone through first
pub any_any : {X Y : Type 0} (r : X → Y → Bool) (xs : List X) (ys : List Y) → list_any (λ x. list_any (r x) ys) xs ≡ list_any (λ y. list_any (λ x. r x y) xs) ys
any_any r [] ys = sym (any_never ys)
any_any r (x ∷ xs) ys = ap (λ b. list_any (r x) ys || b) (any_any r xs ys) ∙ sym (any_or (r x) (λ y. list_any (λ x. r x y) xs) ys)

pub any_map : {X Y : Type 0} (f : X → Y) (p : Y → Bool) (xs : List X) → list_any p (map f xs) ≡ list_any (λ x. p (f x)) xs
any_map f p [] = refl
any_map f p (x ∷ xs) = ap (λ b. p (f x) || b) (any_map f p xs)

pub any_append : {X : Type 0} (p : X → Bool) (xs ys : List X) → list_any p (xs ++ ys) ≡ list_any p xs || list_any p ys
any_append p [] ys = refl
any_append p (x ∷ xs) ys = ap (λ b. p x || b) (any_append p xs ys) ∙ sym (or_assoc (p x) (list_any p xs) (list_any p ys))
  where
    or_assoc : (a b c : Bool) → (a || b) || c ≡ a || (b || c)
    or_assoc true b c = refl
    or_assoc false b c = refl

-- one element more, by its index
pub mapped_more : {X Y : Type 0} (f : X → Y) (xs : List X) (k : ℕ) → map f (take k xs) ++ option_map_or (λ x. f x ∷ []) (slice_get xs k) [] ≡ map f (take (k + 1) xs)
mapped_more f xs k = more xs k ∙ ap (λ n. map f (take n xs)) (sym (add-one k))
  where
    more : (xs : List _) (k : ℕ) → map f (take k xs) ++ option_map_or (λ x. f x ∷ []) (slice_get xs k) [] ≡ map f (take (suc k) xs)
    more [] zero = refl
    more [] (suc k) = refl
    more (x ∷ xs) zero = refl
    more (x ∷ xs) (suc k) = ap (λ ys. f x ∷ ys) (more xs k)
