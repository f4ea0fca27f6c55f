-- Members of lists, and what an option gives.
use Rattle.std.proofs.Common.{refl, ◌≡◌, ◌⊎◌, inl, inr, ap, sym, ◌∙◌, subst, ℕ, zero, suc, ◌+◌, ◌<◌, ◌≤◌, Bool, true, false, cond, ◌||◌, List, [], ◌∷◌, ◌++◌, length, map, Option, Some, None, IfSome, arith}
use Rattle.std.specs.Prelude.{slice_get, option_and_then}
use Rattle.std.specs.List.{AllByRecursion, cons_option, filter, filter_map, find, flat_map, list_any, range_with_len}
use Rattle.std.specs.Map.{lookup}
use Rattle.std.specs.Option.{option_map}
use Rattle.std.proofs.lemmas.Bool.{cases_lt, or_right}
use Rattle.std.proofs.lemmas.Option.{same_Some}
use Rattle.rc_base.proofs.KeepLaws.{In}

-- ---- members

pub all_members : {X : Type 0} (P : X → Type 0) (xs : List X) → ((x : X) → In x xs → P x) → AllByRecursion P xs
all_members P [] each = tt
all_members P (x ∷ xs) each = (each x (inl refl), all_members P xs (λ y there. each y (inr there)))

-- what holds of the members that pass holds of each that does
pub passing_has : {X : Type 0} (P : X → Type 0) (q : X → Bool) (xs : List X) (x : X) → AllByRecursion P (filter q xs) → In x xs → q x ≡ true → P x
passing_has P q [] x all there passes = absurd there
passing_has {X} P q (y ∷ ys) x all there passes = by (q y) refl all there (λ rest later. passing_has P q ys x rest later passes)
  where
    by : (b : Bool) → q y ≡ b → AllByRecursion P (cond b (y ∷ filter q ys) (filter q ys)) → (y ≡ x) ⊎ In x ys → (AllByRecursion P (filter q ys) → In x ys → P x) → P x
    by true e here (inl same) rest = subst P same here.0
    by true e here (inr later) rest = rest here.1 later
    by false e here (inl same) rest = let none : q x ≡ false = subst (λ z. q z ≡ false) same e in absurd (cc)
    by false e here (inr later) rest = rest here later

pub in_range : (n k s : ℕ) → k ≤ s → s < k + n → In s (range_with_len k n)
in_range zero k s le less = absurd (omega arith)
in_range (suc n) k s le less = elim (cases_lt k s) [
  | inl later ↦ inr (in_range n (k + 1) s (omega arith) (omega arith))
  | inr here ↦ inl (omega arith)
]

pub within_range : (n k s : ℕ) → In s (range_with_len k n) → s < k + n
within_range zero k s there = absurd there
within_range (suc n) k s (inl same) = let is : k ≡ s = same in omega (arith, is)
within_range (suc n) k s (inr later) = let less = within_range n (k + 1) s later in omega (arith, less)

in_front : {X : Type 0} (x : X) (xs ys : List X) → In x xs → In x (xs ++ ys)
in_front x [] ys there = absurd there
in_front x (z ∷ zs) ys (inl same) = inl same
in_front x (z ∷ zs) ys (inr later) = inr (in_front x zs ys later)

in_back : {X : Type 0} (x : X) (xs ys : List X) → In x ys → In x (xs ++ ys)
in_back x [] ys there = there
in_back x (z ∷ zs) ys there = inr (in_back x zs ys there)

pub in_map : {X Y : Type 0} (f : X → Y) (xs : List X) (x : X) → In x xs → In (f x) (map f xs)
in_map f [] x there = absurd there
in_map f (y ∷ ys) x (inl same) = inl (ap f same)
in_map f (y ∷ ys) x (inr there) = inr (in_map f ys x there)

pub in_flat_map : {X Y : Type 0} (f : X → List Y) (xs : List X) (x : X) (y : Y) → In x xs → In y (f x) → In y (flat_map f xs)
in_flat_map f [] x y there here = absurd there
in_flat_map f (z ∷ zs) x y (inl same) here = in_front y (f z) (flat_map f zs) (subst (λ w. In y (f w)) (sym same) here)
in_flat_map f (z ∷ zs) x y (inr later) here = in_back y (f z) (flat_map f zs) (in_flat_map f zs x y later here)

pub found_in : {X : Type 0} (xs : List X) (k : ℕ) (x : X) → slice_get xs k ≡ Some x → In x xs
found_in [] k x e = absurd (cc)
found_in (y ∷ ys) zero x e = inl (same_Some y x e)
found_in (y ∷ ys) (suc k) x e = inr (found_in ys k x e)

pub some_passes : {X : Type 0} (p : X → Bool) (xs : List X) (x : X) → In x xs → p x ≡ true → list_any p xs ≡ true
some_passes p [] x there passes = absurd there
some_passes p (y ∷ ys) x (inl same) passes = ap (λ b. b || list_any p ys) (subst (λ z. p z ≡ true) (sym same) passes)
some_passes p (y ∷ ys) x (inr later) passes = or_right (p y) (list_any p ys) (some_passes p ys x later passes)

-- ---- lists made of others

pub all_joined : {Y : Type 0} (P : Y → Type 0) (xs ys : List Y) → AllByRecursion P xs → AllByRecursion P ys → AllByRecursion P (xs ++ ys)
all_joined P [] ys h k = k
all_joined P (x ∷ xs) ys h k = (h.0, all_joined P xs ys h.1 k)

pub all_flat_map : {X Y : Type 0} (P : Y → Type 0) (f : X → List Y) (xs : List X) → ((x : X) → In x xs → AllByRecursion P (f x)) → AllByRecursion P (flat_map f xs)
all_flat_map P f [] each = tt
all_flat_map P f (x ∷ xs) each = all_joined P (f x) (flat_map f xs) (each x (inl refl)) (all_flat_map P f xs (λ y there. each y (inr there)))

pub all_flat_map_map : {W X Y : Type 0} (P : Y → Type 0) (f : X → List Y) (g : W → X) (ws : List W) → ((w : W) → In w ws → AllByRecursion P (f (g w))) → AllByRecursion P (flat_map f (map g ws))
all_flat_map_map P f g [] each = tt
all_flat_map_map P f g (w ∷ ws) each = all_joined P (f (g w)) (flat_map f (map g ws)) (each w (inl refl)) (all_flat_map_map P f g ws (λ y there. each y (inr there)))

pub all_map : {X Y : Type 0} (P : Y → Type 0) (f : X → Y) (xs : List X) → ((x : X) → In x xs → P (f x)) → AllByRecursion P (map f xs)
all_map P f [] each = tt
all_map P f (x ∷ xs) each = (each x (inl refl), all_map P f xs (λ y there. each y (inr there)))

pub all_filter_map : {X Y : Type 0} (P : Y → Type 0) (f : X → Option Y) (xs : List X) → ((x : X) → IfSome (f x) P) → AllByRecursion P (filter_map f xs)
all_filter_map P f [] each = tt
all_filter_map {X} {Y} P f (x ∷ xs) each = by (f x) (each x) (all_filter_map P f xs each)
  where
    by : (o : Option Y) → IfSome o P → AllByRecursion P (filter_map f xs) → AllByRecursion P (cons_option o (filter_map f xs))
    by None here rest = rest
    by (Some y) here rest = (here, rest)

-- functions that agree on each element give the same
pub flat_map_agree : {X Y : Type 0} (f g : X → List Y) (xs : List X) → AllByRecursion (λ x. f x ≡ g x) xs → flat_map f xs ≡ flat_map g xs
flat_map_agree f g [] same = refl
flat_map_agree f g (x ∷ xs) same = λ i. same.0 i ++ flat_map_agree f g xs same.1 i

pub filter_map_agree : {X Y : Type 0} (f g : X → Option Y) (xs : List X) → AllByRecursion (λ x. f x ≡ g x) xs → filter_map f xs ≡ filter_map g xs
filter_map_agree f g [] same = refl
filter_map_agree f g (x ∷ xs) same = λ i. cons_option (same.0 i) (filter_map_agree f g xs same.1 i)

pub nothing_made : {X Y : Type 0} (f : X → Option Y) (xs : List X) → AllByRecursion (λ x. f x ≡ None) xs → filter_map f xs ≡ []
nothing_made f [] none = refl
nothing_made f (x ∷ xs) none = ap (λ o. cons_option o (filter_map f xs)) none.0 ∙ nothing_made f xs none.1

-- ---- options

pub then_some : {X Y : Type 0} (P : X → Type 0) (Q : Y → Type 0) (f : X → Option Y) (o : Option X) → IfSome o P → ((x : X) → P x → IfSome (f x) Q) → IfSome (option_and_then f o) Q
then_some P Q f None h each = tt
then_some P Q f (Some x) h each = each x h

pub map_some : {X Y : Type 0} (P : X → Type 0) (Q : Y → Type 0) (f : X → Y) (o : Option X) → IfSome o P → ((x : X) → P x → Q (f x)) → IfSome (option_map f o) Q
map_some P Q f None h each = tt
map_some P Q f (Some x) h each = each x h

pub if_some : {Y : Type 0} (Q : Y → Type 0) (b : Bool) (o : Option Y) → (b ≡ true → IfSome o Q) → IfSome (cond b o None) Q
if_some Q true o each = each refl
if_some Q false o each = tt

pub unless_some : {Y : Type 0} (Q : Y → Type 0) (b : Bool) (o : Option Y) → IfSome o Q → IfSome (cond b None o) Q
unless_some Q true o h = tt
unless_some Q false o h = h

pub any_some : {X : Type 0} (o : Option X) → IfSome o (λ _. Unit {0})
any_some None = tt
any_some (Some x) = tt

pub find_some : {X : Type 0} (P : X → Type 0) (p : X → Bool) (xs : List X) → AllByRecursion P xs → IfSome (find p xs) P
find_some P p [] all = tt
find_some {X} P p (x ∷ xs) all = by (p x) (find_some P p xs all.1)
  where
    by : (b : Bool) → IfSome (find p xs) P → IfSome (cond b (Some x) (find p xs)) P
    by true rest = all.0
    by false rest = rest

pub lookup_some : {K V : Type 0} (P : V → Type 0) (test : K → Bool) (es : List (K × V)) → AllByRecursion (λ (e : K × V). P e.1) es → IfSome (lookup test es) P
lookup_some P test [] all = tt
lookup_some {K} {V} P test (e ∷ es) all = by (test e.0) (lookup_some P test es all.1)
  where
    by : (b : Bool) → IfSome (lookup test es) P → IfSome (cond b (Some e.1) (lookup test es)) P
    by true rest = all.0
    by false rest = rest

-- ---- element by element

-- lists as long that say the same at each index are one
pub same_elements : {X : Type 0} (xs ys : List X) → length xs ≡ length ys → ((k : ℕ) → k < length xs → slice_get xs k ≡ slice_get ys k) → xs ≡ ys
same_elements [] [] long same = refl
same_elements [] (y ∷ ys) long same = absurd (omega (arith, long))
same_elements (x ∷ xs) [] long same = absurd (omega (arith, long))
same_elements (x ∷ xs) (y ∷ ys) long same =
    let first : x ≡ y = same_Some x y (same 0 (omega arith)) in
    let rest : xs ≡ ys = same_elements xs ys (omega (arith, long)) (λ k less. same (suc k) (omega arith)) in
    λ i. first i ∷ rest i
