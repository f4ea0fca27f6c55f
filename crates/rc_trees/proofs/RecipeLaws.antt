-- The sets that recipes make, header by header.
use Rattle.std.proofs.Common.{refl, ◌≡◌, ap, ◌∙◌, Bool, true, false, not, ◌&&◌, ◌||◌, List, [], ◌∷◌}
use Rattle.std.specs.List.{list_any, fold, AllByRecursion}
use Rattle.rc_base.specs.declared.header.Header.{Header}
use Rattle.rc_base.specs.Header.{bit}
use Rattle.rc_trees.specs.Trees.{never, IsReduced}
use Rattle.rc_trees.specs.Recipes.{Recipe, given, and, or, minus, tree, has, IsOfReduced, union_of, without}
use Rattle.rc_trees.proofs.ReducedLaws.{reduced-and, reduced-or, reduced-minus}
use Rattle.rc_trees.proofs.TreeLaws as trees

module _ (h : Header) where
  pub has-and : (r s : Recipe) → has (and r s) h ≡ (has r h && has s h)
  has-and r s = trees.value-and (bit h) (tree r) (tree s)

  pub has-or : (r s : Recipe) → has (or r s) h ≡ (has r h || has s h)
  has-or r s = trees.value-or (bit h) (tree r) (tree s)

  pub has-minus : (r s : Recipe) → has (minus r s) h ≡ (has r h && not (has s h))
  has-minus r s = trees.value-minus (bit h) (tree r) (tree s)

-- what is made of reduced trees is reduced
pub reduced-tree : (r : Recipe) → IsOfReduced r → IsReduced (tree r)
reduced-tree (given t) ok = ok
reduced-tree (and r s) ok = reduced-and (tree r) (tree s) (reduced-tree r ok.0) (reduced-tree s ok.1)
reduced-tree (or r s) ok = reduced-or (tree r) (tree s) (reduced-tree r ok.0) (reduced-tree s ok.1)
reduced-tree (minus r s) ok = reduced-minus (tree r) (tree s) (reduced-tree r ok.0) (reduced-tree s ok.1)

-- ---- many sets

module _ {A : Type 0} (set : A → Recipe) (h : Header) where
  or_step : (a b c : Bool) → ((a || b) || c) ≡ (a || (b || c))
  or_step true b c = refl
  or_step false b c = refl

  pub has-fold_or : (t : Recipe) (xs : List A) → has (fold (λ s x. or s (set x)) t xs) h ≡ (has t h || list_any (λ x. has (set x) h) xs)
  has-fold_or t [] = at (has t h)
    where
      at : (b : Bool) → b ≡ (b || false)
      at true = refl
      at false = refl
  has-fold_or t (x ∷ xs) =
      has-fold_or (or t (set x)) xs
      ∙ ap (λ b. b || list_any (λ x. has (set x) h) xs) (has-or h t (set x))
      ∙ or_step (has t h) (has (set x) h) (list_any (λ x. has (set x) h) xs)

  pub has-union_of : (xs : List A) → has (union_of set xs) h ≡ list_any (λ x. has (set x) h) xs
  has-union_of xs = has-fold_or (given never) xs

  minus_step : (a b c : Bool) → ((a && not b) && not c) ≡ (a && not (b || c))
  minus_step true true c = refl
  minus_step true false c = refl
  minus_step false b c = refl

  pub has-without : (t : Recipe) (xs : List A) → has (without set t xs) h ≡ (has t h && not (list_any (λ x. has (set x) h) xs))
  has-without t [] = at (has t h)
    where
      at : (b : Bool) → b ≡ (b && true)
      at true = refl
      at false = refl
  has-without t (x ∷ xs) =
      has-without (minus t (set x)) xs
      ∙ ap (λ b. b && not (list_any (λ x. has (set x) h) xs)) (has-minus h t (set x))
      ∙ minus_step (has t h) (has (set x) h) (list_any (λ x. has (set x) h) xs)

module _ {A : Type 0} (set : A → Recipe) where
  -- each of the sets is made of reduced trees
  abbrev pub Each : List A → Type 0
  Each xs = AllByRecursion (λ x. IsOfReduced (set x)) xs

  pub every : ((x : A) → IsOfReduced (set x)) → (xs : List A) → Each xs
  every each [] = tt
  every each (x ∷ xs) = (each x, every each xs)

  fold_or : (r : Recipe) (xs : List A) → IsOfReduced r → Each xs → IsOfReduced (fold (λ s x. or s (set x)) r xs)
  fold_or r [] ok all = ok
  fold_or r (x ∷ xs) ok all = fold_or (or r (set x)) xs (ok, all.0) all.1

  pub of_reduced-union_of : (xs : List A) → Each xs → IsOfReduced (union_of set xs)
  of_reduced-union_of xs all = fold_or (given never) xs tt all

  pub of_reduced-without : (r : Recipe) (xs : List A) → IsOfReduced r → Each xs → IsOfReduced (without set r xs)
  of_reduced-without r [] ok all = ok
  of_reduced-without r (x ∷ xs) ok all = of_reduced-without (minus r (set x)) xs (ok, all.0) all.1
