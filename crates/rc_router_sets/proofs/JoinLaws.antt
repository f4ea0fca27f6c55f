-- Sets that are joined one after another: what each step may make, and what it makes.
use Rattle.std.proofs.Common.{refl, ◌≡◌, ap, sym, ◌∙◌, subst, ℕ, zero, suc, ◌+◌, ◌<◌, ◌≤◌, List, [], ◌∷◌, ◌++◌, length, map, take, drop, get_or, Result, Ok, Err, IfOk, arith}
use Rattle.std.specs.List.{fold}
use Rattle.rc_bdd.specs.Work.{MayCombine}
use Rattle.rc_bdd.specs.declared.work.SetError.{SetError}
use Rattle.rc_nodes.specs.Seats.{TableView, SeatView, SeatKnows}
use Rattle.rc_nodes.specs.declared.words.Ref.{Ref}
use Rattle.rc_trees.proofs.NodeLaws.{has_recipe}
use Rattle.rc_trees.proofs.PartLaws.{fold-first, fold-step, or-second}
use Rattle.rc_trees.specs.Combine as trees
use Rattle.rc_trees.specs.Recipes.{Recipe, given, and, or, minus, parts, tree, union_of, Uses}
use Rattle.rc_trees.specs.Trees.{Tree, never, HasNodes}

-- what a piece makes may be made where the whole may
pub piece : (may : List Tree) (whole r : Recipe) → Uses whole r → HasNodes may (parts whole) → HasNodes may (parts r)
piece may whole r uses has x there is = has x (uses x there) is

module _ (nodes : TableView) (seat : SeatView) (a b : ℕ) (r s : Recipe) (knows_left : SeatKnows seat a (tree r)) (knows_right : SeatKnows seat b (tree s)) where
  pub may_and : HasNodes nodes.may (parts (and r s)) → MayCombine nodes seat trees.and a b
  may_and has = record { left = tree r; right = tree s; knows_left = knows_left; knows_right = knows_right; allowed = has_recipe nodes.may (and r s) has }

  pub may_or : HasNodes nodes.may (parts (or r s)) → MayCombine nodes seat trees.or a b
  may_or has = record { left = tree r; right = tree s; knows_left = knows_left; knows_right = knows_right; allowed = has_recipe nodes.may (or r s) has }

  pub may_minus : HasNodes nodes.may (parts (minus r s)) → MayCombine nodes seat trees.minus a b
  may_minus has = record { left = tree r; right = tree s; knows_left = knows_left; knows_right = knows_right; allowed = has_recipe nodes.may (minus r s) has }

-- an operation on known sets gives the recipe's
pub operated : (before after : SeatView) (operation : Tree → Tree → Tree) (a b : ℕ) (s t : Tree) → SeatKnows before a s → SeatKnows before b t → (result : Result Ref SetError)
    → IfOk result (λ (r : Ref). (s t : Tree) → SeatKnows before a s → SeatKnows before b t → SeatKnows after r.index (operation s t)) → IfOk result (λ (r : Ref). SeatKnows after r.index (operation s t))
operated before after operation a b s t ks kt (Ok r) made = made s t ks kt
operated before after operation a b s t ks kt (Err e) made = tt

pub split : {A : Type 0} (xs : List A) (k : ℕ) (d : A) → k < length xs → xs ≡ take k xs ++ get_or xs k d ∷ drop (suc k) xs
split [] k d less = absurd (omega arith)
split (x ∷ xs) zero d less = refl
split (x ∷ xs) (suc k) d less = ap (λ ys. x ∷ ys) (split xs k d (omega arith))

pub taken : {A : Type 0} (xs : List A) (k : ℕ) (d : A) → k < length xs → take (k + 1) xs ≡ take k xs ++ get_or xs k d ∷ []
taken xs k d less = ap (λ n. take n xs) (let e : k + 1 ≡ suc k = omega arith in e) ∙ by xs k d less
  where
    by : {A : Type 0} (xs : List A) (k : ℕ) (d : A) → k < length xs → take (suc k) xs ≡ take k xs ++ get_or xs k d ∷ []
    by [] k d less = absurd (omega arith)
    by (x ∷ xs) zero d less = refl
    by (x ∷ xs) (suc k) d less = ap (λ ys. x ∷ ys) (by xs k d (omega arith))

pub taken_at : {A : Type 0} (xs : List A) (k : ℕ) (x : A) → x ≡ get_or xs k x → k < length xs → take (k + 1) xs ≡ take k xs ++ x ∷ []
taken_at xs k x is less = taken xs k x less ∙ ap (λ y. take k xs ++ y ∷ []) (sym is)

pub take-whole : {A : Type 0} (k : ℕ) (xs : List A) → length xs ≤ k → take k xs ≡ xs
take-whole zero [] le = refl
take-whole zero (x ∷ xs) le = absurd (omega arith)
take-whole (suc k) [] le = refl
take-whole (suc k) (x ∷ xs) le = ap (λ ys. x ∷ ys) (take-whole k xs (omega arith))

module _ {A : Type 0} (set : A → Recipe) where
  pub one_more : (r : Recipe) (xs : List A) (y : A) → fold (λ s x. or s (set x)) r (xs ++ y ∷ []) ≡ or (fold (λ s x. or s (set x)) r xs) (set y)
  one_more r [] y = refl
  one_more r (x ∷ xs) y = one_more (or r (set x)) xs y

  -- a join over more uses that over the front
  pub front : (r : Recipe) (xs ys : List A) → Uses (fold (λ s x. or s (set x)) r (xs ++ ys)) (fold (λ s x. or s (set x)) r xs)
  front r [] ys = fold-first set r ys
  front r (x ∷ xs) ys = front (or r (set x)) xs ys

  module _ (xs : List A) (k : ℕ) (x : A) (is : x ≡ get_or xs k x) (less : k < length xs) where
    parted : xs ≡ take k xs ++ x ∷ drop (suc k) xs
    parted = split xs k x less ∙ ap (λ y. take k xs ++ y ∷ drop (suc k) xs) (sym is)

    pub taken_here : take (k + 1) xs ≡ take k xs ++ x ∷ []
    taken_here = taken_at xs k x is less

    pub uses_step : Uses (union_of set xs) (or (union_of set (take k xs)) (set x))
    uses_step = subst (λ ys. Uses (union_of set ys) (or (union_of set (take k xs)) (set x))) (sym parted) (fold-step set (given never) (take k xs) x (drop (suc k) xs))

    pub step_is : trees.or (tree (union_of set (take k xs))) (tree (set x)) ≡ tree (union_of set (take (k + 1) xs))
    step_is = ap tree (sym (one_more (given never) (take k xs) x)) ∙ ap (λ ys. tree (union_of set ys)) (sym taken_here)

    pub each_may : (may : List Tree) → HasNodes may (parts (union_of set xs)) → HasNodes may (parts (set x))
    each_may may has =
        let step = or (union_of set (take k xs)) (set x) in
        piece may step (set x) (or-second (union_of set (take k xs)) (set x)) (piece may (union_of set xs) step uses_step has)

    pub step_may : (nodes : TableView) (seat : SeatView) → HasNodes nodes.may (parts (union_of set xs)) → (a b : ℕ) → SeatKnows seat a (tree (union_of set (take k xs))) → SeatKnows seat b (tree (set x)) → MayCombine nodes seat trees.or a b
    step_may nodes seat has a b ka kb = may_or nodes seat a b (union_of set (take k xs)) (set x) ka kb (piece nodes.may (union_of set xs) (or (union_of set (take k xs)) (set x)) uses_step has)

  pub all_joined : (k : ℕ) (xs : List A) → length xs ≤ k → tree (union_of set (take k xs)) ≡ tree (union_of set xs)
  all_joined k xs le = ap (λ ys. tree (union_of set ys)) (take-whole k xs le)

-- a join over what a function makes of things
module _ {A B : Type 0} (set : B → Recipe) (f : A → B) where
  fold-map : (r : Recipe) (xs : List A) → fold (λ s y. or s (set y)) r (map f xs) ≡ fold (λ s x. or s (set (f x))) r xs
  fold-map r [] = refl
  fold-map r (x ∷ xs) = fold-map (or r (set (f x))) xs

  pub union-map : (xs : List A) → union_of set (map f xs) ≡ union_of (λ x. set (f x)) xs
  union-map xs = fold-map (given never) xs

-- ---- a recipe and one that it is

pub may_like : (may : List Tree) (r s : Recipe) → r ≡ s → HasNodes may (parts r) → HasNodes may (parts s)
may_like may r s e has = subst (λ x. HasNodes may (parts x)) e has

pub known_like : (seat : SeatView) (result : Result Ref SetError) (r s : Recipe) → r ≡ s → IfOk result (λ (x : Ref). SeatKnows seat x.index (tree r)) → IfOk result (λ (x : Ref). SeatKnows seat x.index (tree s))
known_like seat result r s e known = subst (λ t. IfOk result (λ (x : Ref). SeatKnows seat x.index (tree t))) e known
