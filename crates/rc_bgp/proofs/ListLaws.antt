-- One element more of a loop that keeps what a function makes.
use Rattle.std.proofs.Common.{refl, ◌≡◌, ap, sym, ◌∙◌, ℕ, suc, ◌+◌, ◌-◌, ◌<◌, Bool, true, false, cond, List, [], ◌∷◌, ◌++◌, length, get_or, drop, take, drop-cons, add-one, append_assoc, Option, Some, None}
use Rattle.std.specs.List.{AllByRecursion, cons_option, filter, filter_map, flat_map}
use Rattle.std.proofs.lemmas.List.{take_rest}
use Rattle.std.specs.Option.{option_to_list}

pub first_left : {X : Type 0} (xs : List X) (i : ℕ) (x : X) → i < length xs → x ≡ get_or xs i x → drop i xs ≡ x ∷ drop (i + 1) xs
first_left xs i x lt is = drop-cons xs i x lt ∙ ap (λ y. y ∷ drop (suc i) xs) (sym is) ∙ ap (λ k. x ∷ drop k xs) (sym (add-one i))

pub in_front : {P : Type 0} (o : Option P) (rest : List P) → option_to_list o ++ rest ≡ cons_option o rest
in_front None rest = refl
in_front (Some y) rest = refl

pub one_made : {S P : Type 0} (f : S → Option P) (xs : List S) (i : ℕ) (x : S) (all all' done : List P) (o : Option P) → i < length xs → x ≡ get_or xs i x → o ≡ f x → all' ≡ all ++ option_to_list o
    → all ++ filter_map f (drop i xs) ≡ done → all' ++ filter_map f (drop (i + 1) xs) ≡ done
one_made f xs i x all all' done o lt is made pushed kept =
    ap (λ t. t ++ filter_map f (drop (i + 1) xs)) pushed ∙ append_assoc all (option_to_list o) (filter_map f (drop (i + 1) xs))
    ∙ ap (λ t. all ++ t) (in_front o (filter_map f (drop (i + 1) xs)) ∙ ap (λ q. cons_option q (filter_map f (drop (i + 1) xs))) made ∙ ap (filter_map f) (sym (first_left xs i x lt is)))
    ∙ kept

-- so where it makes a list of each
pub one_listed : {S P : Type 0} (f : S → List P) (xs : List S) (i : ℕ) (x : S) (all all' done made : List P) → i < length xs → x ≡ get_or xs i x → made ≡ f x → all' ≡ all ++ made
    → all ++ flat_map f (drop i xs) ≡ done → all' ++ flat_map f (drop (i + 1) xs) ≡ done
one_listed f xs i x all all' done made lt is made_of pushed kept =
    ap (λ t. t ++ flat_map f (drop (i + 1) xs)) pushed ∙ append_assoc all made (flat_map f (drop (i + 1) xs))
    ∙ ap (λ t. all ++ t) (ap (λ ys. ys ++ flat_map f (drop (i + 1) xs)) made_of ∙ ap (flat_map f) (sym (first_left xs i x lt is)))
    ∙ kept

-- what a pattern leaves of a list behind its first element
pub behind_front : {X : Type 0} (xs : List X) → take (length xs - 1) (drop 1 xs) ≡ drop 1 xs
behind_front xs = take_rest xs 1

-- one row more, of an iterator that gives them
pub one_row : {R P : Type 0} (f : R → Option P) (row : R) (left rest : List R) (all more done : List P) (o : Option P) → left ≡ row ∷ rest → o ≡ f row → more ≡ all ++ option_to_list o
    → all ++ filter_map f left ≡ done → more ++ filter_map f rest ≡ done
one_row f row left rest all more done o steps made pushed kept =
    ap (λ t. t ++ filter_map f rest) pushed ∙ append_assoc all (option_to_list o) (filter_map f rest)
    ∙ ap (λ t. all ++ t) (in_front o (filter_map f rest) ∙ ap (λ q. cons_option q (filter_map f rest)) made ∙ ap (filter_map f) (sym steps))
    ∙ kept

-- what holds of all that pass a test holds of each that passes it
pub all_of_filter : {X : Type 0} (P : X → Type 0) (p : X → Bool) (xs : List X) → AllByRecursion P (filter p xs) → AllByRecursion (λ x. p x ≡ true → P x) xs
all_of_filter P p [] all = tt
all_of_filter P p (x ∷ xs) all = by (p x) refl all (all_of_filter P p xs)
  where
    by : (b : Bool) → p x ≡ b → AllByRecursion P (cond b (x ∷ filter p xs) (filter p xs)) → (AllByRecursion P (filter p xs) → AllByRecursion (λ y. p y ≡ true → P y) xs)
        → (p x ≡ true → P x) × AllByRecursion (λ y. p y ≡ true → P y) xs
    by true e all rest = (λ is. all.0, rest all.1)
    by false e all rest = (λ is. absurd (let clash : true ≡ false = sym is ∙ e in cc), rest all)
