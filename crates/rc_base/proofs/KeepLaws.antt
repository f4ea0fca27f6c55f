-- Laws of `keep`: eliminations one after another are one elimination by the tests in a row.
use Rattle.std.proofs.Common.{◌≡◌, ◌⊎◌, inl, inr, Bool, true, false, not, cond, ◌&&◌, ◌||◌, List, [], ◌∷◌, sym, ◌∙◌, ap, subst, refl, filter}
use Rattle.std.specs.List.{list_any}
use Rattle.std.specs.Cmp.{both_ways}
use Rattle.std.proofs.lemmas.Bool.{and_parts, and_from, or_parts}
use Rattle.rc_base.specs.Lists.{keep}

-- x is a member
abbrev pub In : {X : Type 0} → X → List X → Type 0
In x [] = ⊥
In x (y ∷ ys) = (y ≡ x) ⊎ In x ys

pub any_yes : {X : Type 0} (q : X → Bool) (xs : List X) → list_any q xs ≡ true → (x : X) × In x xs × (q x ≡ true)
any_yes q [] is = absurd (cc)
any_yes {X} q (x ∷ xs) is = by_test (q x) refl (any_yes q xs)
  where
    by_test : (b : Bool) → q x ≡ b → (list_any q xs ≡ true → (y : X) × In y xs × (q y ≡ true)) → (y : X) × In y (x ∷ xs) × (q y ≡ true)
    by_test true e later = (x, inl refl, e)
    by_test false e later = (let (y, there, passes) = later (sym (ap (λ b. b || list_any q xs) e) ∙ is) in (y, inr there, passes))

pub any_no : {X : Type 0} (q : X → Bool) (xs : List X) → list_any q xs ≡ false → (x : X) → In x xs → q x ≡ false
any_no q [] is x there = absurd there
any_no q (y ∷ ys) is x (inl same) = subst (λ z. q z ≡ false) same (or_parts (q y) (list_any q ys) is).0
any_no q (y ∷ ys) is x (inr there) = any_no q ys (or_parts (q y) (list_any q ys) is).1 x there

pub filter_same : {X : Type 0} (p q : X → Bool) (xs : List X) → ((x : X) → In x xs → p x ≡ q x) → filter p xs ≡ filter q xs
filter_same p q [] same = refl
filter_same p q (x ∷ xs) same =
    ap (λ b. cond b (x ∷ filter p xs) (filter p xs)) (same x (inl refl))
    ∙ ap (λ ys. cond (q x) (x ∷ ys) ys) (filter_same p q xs (λ y there. same y (inr there)))

pub filter_twice : {X : Type 0} (p q : X → Bool) (xs : List X) → filter q (filter p xs) ≡ filter (λ x. p x && q x) xs
filter_twice p q [] = refl
filter_twice p q (x ∷ xs) = by_test (p x) (filter_twice p q xs)
  where
    by_test : (b : Bool) → filter q (filter p xs) ≡ filter (λ y. p y && q y) xs → filter q (cond b (x ∷ filter p xs) (filter p xs)) ≡ cond (b && q x) (x ∷ filter (λ y. p y && q y) xs) (filter (λ y. p y && q y) xs)
    by_test true rest = ap (λ ys. cond (q x) (x ∷ ys) ys) rest
    by_test false rest = rest

pub any_filter : {X : Type 0} (p q : X → Bool) (xs : List X) → list_any q (filter p xs) ≡ list_any (λ x. p x && q x) xs
any_filter p q [] = refl
any_filter p q (x ∷ xs) = by_test (p x) (any_filter p q xs)
  where
    by_test : (b : Bool) → list_any q (filter p xs) ≡ list_any (λ y. p y && q y) xs → list_any q (cond b (x ∷ filter p xs) (filter p xs)) ≡ (b && q x) || list_any (λ y. p y && q y) xs
    by_test true rest = ap (λ b. q x || b) rest
    by_test false rest = rest

pub any_same : {X : Type 0} (p q : X → Bool) (xs : List X) → ((x : X) → In x xs → p x ≡ q x) → list_any p xs ≡ list_any q xs
any_same p q [] same = refl
any_same p q (x ∷ xs) same = ap (λ b. b || list_any p xs) (same x (inl refl)) ∙ ap (λ b. q x || b) (any_same p q xs (λ y there. same y (inr there)))

-- whoever beats one of two that do not differ beats the other
abbrev pub IsWeak : {X : Type 0} → (X → X → Bool) → Type 0
IsWeak {X} b = (z y x : X) → b z y ≡ true → b y x ≡ false → b x y ≡ false → b z x ≡ true

-- two tests in a row
abbrev pub in_row : {X : Type 0} → (X → X → Bool) → (X → X → Bool) → X → X → Bool
in_row b c x y = b x y || (not (b y x) && c x y)

not_yes : (a : Bool) → not a ≡ true → a ≡ false
not_yes true is = absurd (cc)
not_yes false is = refl

-- none passes, from none by none
pub none_passes : {X : Type 0} (q : X → Bool) (xs : List X) → ((x : X) → In x xs → q x ≡ false) → list_any q xs ≡ false
none_passes q [] each = refl
none_passes q (x ∷ xs) each = ap (λ b. b || list_any q xs) (each x (inl refl)) ∙ none_passes q xs (λ y there. each y (inr there))

-- a test in a row at a pair that the first one does not tell apart, or does not prefer
row_no : (first back second : Bool) → first ≡ false → (back ≡ false → second ≡ false) → first || (not back && second) ≡ false
row_no first true second e f = ap (λ b. b || false) e
row_no first false second e f = ap (λ b. b || second) e ∙ f refl

row_first : (first back second : Bool) → first || (not back && second) ≡ false → first ≡ false
row_first true back second e = e
row_first false back second e = refl

row_second : (first back second : Bool) → first || (not back && second) ≡ false → back ≡ false → second ≡ false
row_second true back second e f = absurd (cc)
row_second false true second e f = absurd (cc)
row_second false false second e f = e

-- after the first test, the second one among those left is the two in a row among all
pub keep_keep : {X : Type 0} (b c : X → X → Bool) (xs : List X) → IsWeak b → keep c (keep b xs) ≡ keep (in_row b c) xs
keep_keep {X} b c xs weak =
    filter_twice best_b left_c xs ∙ filter_same (λ x. best_b x && left_c x) in_both xs (λ x there. both_ways (best_b x && left_c x) (in_both x) (to x there) (back x there))
  where
    best_b : X → Bool
    best_b x = not (list_any (λ y. b y x) xs)

    left_c : X → Bool
    left_c x = not (list_any (λ y. c y x) (filter best_b xs))

    in_both : X → Bool
    in_both x = not (list_any (λ y. in_row b c y x) xs)

    to : (x : X) → In x xs → best_b x && left_c x ≡ true → in_both x ≡ true
    to x there both =
        let none_b : list_any (λ y. b y x) xs ≡ false = not_yes _ (and_parts (best_b x) (left_c x) both).0 in
        let none_c : list_any (λ y. best_b y && c y x) xs ≡ false = sym (any_filter best_b (λ y. c y x) xs) ∙ not_yes _ (and_parts (best_b x) (left_c x) both).1 in
        ap not (none_passes (λ y. in_row b c y x) xs (λ y here. row_no (b y x) (b x y) (c y x) (any_no (λ z. b z x) xs none_b y here)
        (λ back_no. after y here (any_no (λ z. b z x) xs none_b y here) back_no (any_no (λ z. best_b z && c z x) xs none_c y here) (any_no (λ z. b z x) xs none_b))))
      where
        after : (y : X) → In y xs → b y x ≡ false → b x y ≡ false → best_b y && c y x ≡ false → ((z : X) → In z xs → b z x ≡ false) → c y x ≡ false
        after y here yx xy is none =
            let min_y : list_any (λ z. b z y) xs ≡ false = none_passes (λ z. b z y) xs (λ z in_z. not_weak z in_z (b z y) refl) in
            sym (ap (λ a. not a && c y x) min_y) ∙ is
          where
            not_weak : (z : X) → In z xs → (t : Bool) → b z y ≡ t → t ≡ false
            not_weak z in_z true e = (let bad : b z x ≡ true = weak z y x e yx xy in let no : b z x ≡ false = none z in_z in absurd (cc))
            not_weak z in_z false e = refl

    back : (x : X) → In x xs → in_both x ≡ true → best_b x && left_c x ≡ true
    back x there is =
        let none : list_any (λ y. in_row b c y x) xs ≡ false = not_yes _ is in
        let each : (y : X) → In y xs → in_row b c y x ≡ false = any_no (λ y. in_row b c y x) xs none in
        and_from (best_b x) (left_c x)
        (ap not (none_passes (λ y. b y x) xs (λ y here. row_first (b y x) (b x y) (c y x) (each y here))))
        (ap not (any_filter best_b (λ y. c y x) xs ∙ none_passes (λ y. best_b y && c y x) xs (λ y here. left_no y (best_b y) refl (each y here))))
      where
        left_no : (y : X) → (t : Bool) → best_b y ≡ t → in_row b c y x ≡ false → t && c y x ≡ false
        left_no y false e row = refl
        left_no y true e row = row_second (b y x) (b x y) (c y x) row (any_no (λ z. b z y) xs (not_yes _ e) x there)
