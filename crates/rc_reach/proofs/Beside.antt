-- Sets that are joined one after another, beside what flows gather; and the positions of a network at their places.
use Rattle.std.proofs.Common.{refl, ◌≡◌, subst, ℕ, zero, suc, ◌<◌, List, [], ◌∷◌, ◌++◌, map, length, slice_index_or, inl, inr, arith}
use Rattle.std.specs.List.{fold}
use Rattle.std.proofs.lemmas.List.FromFn.{fill_by_all}
use Rattle.rc_base.proofs.KeepLaws.{In}
use Rattle.rc_base.specs.declared.position.Pos.TheVariants.{Own}
use Rattle.rc_config.specs.Members as members
use Rattle.rc_jobs.specs.Flows.{positions}
use Rattle.rc_places.specs.Places.{position_at}
use Rattle.rc_spread.specs.Gathered.{gathered, MayGather}
use Rattle.rc_trees.proofs.NodeLaws.{has_recipe}
use Rattle.rc_trees.proofs.PartLaws.{fold-first, or-second}
use Rattle.rc_trees.specs.Combine as trees
use Rattle.rc_trees.specs.Recipes.{Recipe, or, parts, tree}
use Rattle.rc_trees.specs.Trees.{Tree, HasNodes, HasNodesOf}
use Rattle.rc_moves.specs.Moves.{DataPlane}

-- ---- sets and flows, one beside the other

-- a set and what is joined to it, one after another
abbrev pub joined : Recipe → List Recipe → Recipe
joined r xs = fold (λ s x. or s x) r xs

module _ (sets : ℕ → Tree) where
  -- each set is what its flow lets pass
  abbrev pub AreBeside : List Recipe → List (ℕ × Tree) → Type 0
  AreBeside [] [] = Unit {0}
  AreBeside [] (f ∷ fs) = ⊥
  AreBeside (x ∷ xs) [] = ⊥
  AreBeside (x ∷ xs) (f ∷ fs) = (tree x ≡ trees.and (sets f.0) f.1) × AreBeside xs fs

  pub beside-append : (xs : List Recipe) (fs : List (ℕ × Tree)) (ys : List Recipe) (gs : List (ℕ × Tree)) → AreBeside xs fs → AreBeside ys gs → AreBeside (xs ++ ys) (fs ++ gs)
  beside-append [] [] ys gs a b = b
  beside-append [] (f ∷ fs) ys gs a b = absurd a
  beside-append (x ∷ xs) [] ys gs a b = absurd a
  beside-append (x ∷ xs) (f ∷ fs) ys gs a b = (a.0, beside-append xs fs ys gs a.1 b)

  -- so joining the sets makes the tree that the flows gather
  pub tree-joined : (xs : List Recipe) (fs : List (ℕ × Tree)) → AreBeside xs fs → (r : Recipe) (s : Tree) → tree r ≡ s → tree (joined r xs) ≡ gathered sets s fs
  tree-joined [] [] a r s e = e
  tree-joined [] (f ∷ fs) a r s e = absurd a
  tree-joined (x ∷ xs) [] a r s e = absurd a
  tree-joined (x ∷ xs) (f ∷ fs) a r s e = tree-joined xs fs a.1 (or r x) (trees.or s (trees.and (sets f.0) f.1)) (λ i. trees.or (e i) (a.0 i))

  -- by operations of the recipe
  pub may-joined : (may : List Tree) (xs : List Recipe) (fs : List (ℕ × Tree)) → AreBeside xs fs → (r : Recipe) (s : Tree) → tree r ≡ s → HasNodes may (parts (joined r xs)) → MayGather may sets s fs
  unfolding MayGather
  may-joined may [] [] a r s e has = tt
  may-joined may [] (f ∷ fs) a r s e has = absurd a
  may-joined may (x ∷ xs) [] a r s e has = absurd a
  may-joined may (x ∷ xs) (f ∷ fs) a r s e has =
      let next : tree (or r x) ≡ trees.or s (trees.and (sets f.0) f.1) = λ i. trees.or (e i) (a.0 i) in
      let first : HasNodes may (parts (or r x)) = λ t there is. has t (fold-first (λ (y : Recipe). y) (or r x) xs t there) is in
      let part : HasNodes may (parts x) = λ t there is. first t (or-second r x t there) is in
      (subst (HasNodesOf may) a.0 (has_recipe may x part), subst (HasNodesOf may) next (has_recipe may (or r x) first), may-joined may xs fs a.1 (or r x) (trees.or s (trees.and (sets f.0) f.1)) next has)

-- sets of things, joined, are the sets of their list
pub fold-map : {A : Type 0} (set : A → Recipe) (xs : List A) (r : Recipe) → fold (λ s x. or s (set x)) r xs ≡ joined r (map set xs)
fold-map set [] r = refl
fold-map set (x ∷ xs) r = fold-map set xs (or r (set x))

pub in-at : {A : Type 0} (xs : List A) (i : ℕ) (d : A) → i < length xs → In (slice_index_or xs i d) xs
in-at [] i d less = absurd (omega arith)
in-at (x ∷ xs) zero d less = inl refl
in-at (x ∷ xs) (suc i) d less = inr (in-at xs i d (omega arith))

-- the positions of a network are those at its places
pub listed : (plane : DataPlane) → members.positions plane.network ≡ map (position_at plane.network) (positions (length (members.positions plane.network)))
listed plane = fill_by_all (position_at plane.network) (members.positions plane.network) (length (members.positions plane.network)) (Own 0) refl (λ k less. refl)
