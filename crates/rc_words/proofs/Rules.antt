-- Facts that hold of all of a list, and what is found in it.
use Rattle.std.proofs.Common.{subst, ◌≡◌, Bool, true, false, List, [], ◌∷◌, ◌++◌, Option, Some, None, cond, find, map, true≢false, sym, refl, is_some}

abbrev pub AllOf : {A : Type 0} → (A → Type 0) → List A → Type 0
AllOf P [] = Unit {0}
AllOf P (x ∷ xs) = P x × AllOf P xs

-- what is computed alike of all of a list is the same of each
pub all_same : {A B : Type 0} (f g : A → B) (xs : List A) → map f xs ≡ map g xs → AllOf (λ x. f x ≡ g x) xs
all_same f g [] e = tt
all_same f g (x ∷ xs) e =
    let first : f x ≡ g x = cc in
    let rest : map f xs ≡ map g xs = cc in
    (first, all_same f g xs rest)

-- what holds of all of two lists holds of all of each
pub all_front : {A : Type 0} (P : A → Type 0) (xs ys : List A) → AllOf P (xs ++ ys) → AllOf P xs
all_front P [] ys h = tt
all_front P (x ∷ xs) ys h = (h.0, all_front P xs ys h.1)

pub all_behind : {A : Type 0} (P : A → Type 0) (xs ys : List A) → AllOf P (xs ++ ys) → AllOf P ys
all_behind P [] ys h = h
all_behind P (x ∷ xs) ys h = all_behind P xs ys h.1

pub find_all : {A : Type 0} (P : A → Type 0) (p : A → Bool) (xs : List A) (x : A) → AllOf P xs → find p xs ≡ Some x → P x
find_all P p [] x h e = absurd (cc)
find_all P p (y ∷ xs) x h e = elim (p y) as (λ t. cond t (Some y) (find p xs) ≡ Some x → P x) [
  | true ↦ λ f. let g : y ≡ x = cc in subst P g h.0
  | false ↦ λ f. find_all P p xs x h.1 f
] e

pub some_of : {A : Type 0} (o : Option A) → is_some o ≡ true → (x : A) × (o ≡ Some x)
some_of None e = absurd (true≢false (sym e))
some_of (Some x) e = (x, refl)
