-- What one hop gives to an ending, and the join over all of them.
use Rattle.std.proofs.Common.{refl, ◌≡◌, ap, sym, ◌∙◌, subst, ℕ, zero, suc, ◌+◌, List, [], ◌∷◌, ◌++◌, append-nil, append_assoc, take, drop, Some, None, inl, inr, ◌⊎◌}
use Rattle.std.specs.List.{flat_map, slice_get}
use Rattle.rc_base.proofs.KeepLaws.{In}
use Rattle.rc_base.specs.declared.ending.Kind.{Kind}
use Rattle.rc_base.specs.declared.ending.Kind.TheVariants.{NoRoute, NullRouted, DeniedOut, Unreachable, Exits, Delivered}
use Rattle.rc_base.specs.declared.position.Pos.{Pos}
use Rattle.rc_router_sets.proofs.JoinLaws.{front, may_like, one_more, piece}
use Rattle.rc_router_sets.proofs.QueryLaws.{hop-set}
use Rattle.rc_edges.proofs.TargetLaws.{at_index, flat-append, to_index}
use Rattle.rc_router_sets.specs.Edges.{union}
use Rattle.rc_router_sets.specs.Endings.{end}
use Rattle.rc_router_sets.specs.Ends.{ends_over}
use Rattle.rc_router_sets.specs.Sent.{forwarded, hops_at, sent}
use Rattle.rc_route.specs.declared.route.Hop.{Hop}
use Rattle.rc_route.specs.declared.route.Hop.TheVariants.{Null}
use Rattle.rc_sets.specs.Regions.{hop_set}
use Rattle.rc_trees.proofs.PartLaws.{minus-first}
use Rattle.rc_trees.specs.Recipes.{Recipe, Uses, given, minus, or, parts, without}
use Rattle.rc_trees.specs.Trees.{Tree, never, HasNodes}
use Rattle.rc_moves.specs.Moves.{DataPlane, fib_of, router_of}

-- ---- an item at an index

pub in_at : {A : Type 0} (xs : List A) (k : ℕ) (x : A) → slice_get xs k ≡ Some x → In x xs
in_at [] k x at = absurd (let e : None ≡ Some x = at in cc)
in_at (y ∷ ys) zero x at = inl (let e : Some y ≡ Some x = at in cc)
in_at (y ∷ ys) (suc k) x at = inr (in_at ys k x at)

-- ---- the join over the hops

module _ (f : Hop → List Recipe) (hops : List Hop) (k : ℕ) (x : Hop) (at : slice_get hops k ≡ Some x) where
  pub hops_next : flat_map f (take (k + 1) hops) ≡ flat_map f (take k hops) ++ f x
  hops_next = ap (flat_map f) (to_index hops k x at) ∙ flat-append f (take k hops) (x ∷ []) ∙ ap (λ ys. flat_map f (take k hops) ++ ys) (append-nil (f x))

  hops_split : flat_map f hops ≡ (flat_map f (take k hops) ++ f x) ++ flat_map f (drop (suc k) hops)
  hops_split = ap (flat_map f) (at_index hops k x at) ∙ flat-append f (take k hops) (x ∷ drop (suc k) hops) ∙ sym (append_assoc (flat_map f (take k hops)) (f x) (flat_map f (drop (suc k) hops)))

  -- the join up to a hop
  pub may_step : (may : List Tree) → HasNodes may (parts (union (flat_map f hops))) → HasNodes may (parts (union (flat_map f (take k hops) ++ f x)))
  may_step may has =
      piece may (union ((flat_map f (take k hops) ++ f x) ++ flat_map f (drop (suc k) hops))) (union (flat_map f (take k hops) ++ f x)) (front (λ s. s) (given never) (flat_map f (take k hops) ++ f x) (flat_map f (drop (suc k) hops)))
      (may_like may (union (flat_map f hops)) (union ((flat_map f (take k hops) ++ f x) ++ flat_map f (drop (suc k) hops))) (ap union hops_split) has)

  -- a hop that gives nothing
  pub nothing_more : f x ≡ [] → union (flat_map f (take k hops)) ≡ union (flat_map f (take (k + 1) hops))
  nothing_more none = ap union (sym (hops_next ∙ ap (λ ys. flat_map f (take k hops) ++ ys) none ∙ append-nil (flat_map f (take k hops))))

  -- one that gives a set
  module _ (s : Recipe) (is : f x ≡ s ∷ []) where
    pub one_more_is : or (union (flat_map f (take k hops))) s ≡ union (flat_map f (take (k + 1) hops))
    one_more_is = sym (ap union (hops_next ∙ ap (λ ys. flat_map f (take k hops) ++ ys) is) ∙ one_more (λ t. t) (given never) (flat_map f (take k hops)) s)

    pub more_may : (may : List Tree) → HasNodes may (parts (union (flat_map f hops))) → HasNodes may (parts s)
    more_may may has = piece may (union (flat_map f hops)) s (hop-set f hops x s (in_at hops k x at) (subst (In s) (sym is) (inl refl))) has

    pub joined_may : (may : List Tree) → HasNodes may (parts (union (flat_map f hops))) → HasNodes may (parts (or (union (flat_map f (take k hops))) s))
    joined_may may has =
        may_like may (union (flat_map f (take k hops) ++ f x)) (or (union (flat_map f (take k hops))) s)
        (ap (λ ys. union (flat_map f (take k hops) ++ ys)) is ∙ one_more (λ t. t) (given never) (flat_map f (take k hops)) s) (may_step may has)

-- ---- taking hops away

module _ {A : Type 0} (set : A → Recipe) where
  without-first : (r : Recipe) (xs : List A) → Uses (without set r xs) r
  without-first r [] x there = there
  without-first r (y ∷ ys) x there = without-first (minus r (set y)) ys x (minus-first r (set y) x there)

  pub without-step : (r : Recipe) (xs : List A) (y : A) (ys : List A) → Uses (without set r (xs ++ y ∷ ys)) (minus (without set r xs) (set y))
  without-step r [] y ys = without-first (minus r (set y)) ys
  without-step r (x ∷ xs) y ys = without-step (minus r (set x)) xs y ys

  pub without-more : (r : Recipe) (xs : List A) (y : A) → without set r (xs ++ y ∷ []) ≡ minus (without set r xs) (set y)
  without-more r [] y = refl
  without-more r (x ∷ xs) y = without-more (minus r (set x)) xs y

  pub without-uses : (r : Recipe) (xs : List A) → Uses (without set r xs) r
  without-uses = without-first

-- ---- taking them away up to an index

module _ {A : Type 0} (set : A → Recipe) (r : Recipe) (xs : List A) (k : ℕ) (x : A) (at : slice_get xs k ≡ Some x) where
  pub without_next : without set r (take (k + 1) xs) ≡ minus (without set r (take k xs)) (set x)
  without_next = ap (without set r) (to_index xs k x at) ∙ without-more set r (take k xs) x

  pub without_may : (may : List Tree) → HasNodes may (parts (without set r xs)) → HasNodes may (parts (minus (without set r (take k xs)) (set x)))
  without_may may has =
      piece may (without set r (take k xs ++ x ∷ drop (suc k) xs)) (minus (without set r (take k xs)) (set x)) (without-step set r (take k xs) x (drop (suc k) xs))
      (may_like may (without set r xs) (without set r (take k xs ++ x ∷ drop (suc k) xs)) (ap (without set r) (at_index xs k x at)) has)

-- ---- by the kind of ending

module _ (plane : DataPlane) (q : Pos) (k : Kind) where
  abbrev r : ℕ
  r = router_of q

  pub no_route_is : k ≡ NoRoute → without (hop_set (fib_of plane r)) (forwarded plane q) (hops_at plane q) ≡ end plane q k
  unfolding end
  no_route_is is = ap (end plane q) (sym is)

  pub null_routed_is : k ≡ NullRouted → sent plane q Null ≡ end plane q k
  unfolding end
  null_routed_is is = ap (end plane q) (sym is)

  pub over_hops_is : (k ≡ DeniedOut) ⊎ ((k ≡ Unreachable) ⊎ ((k ≡ Exits) ⊎ (k ≡ Delivered))) → union (flat_map (ends_over plane q k) (hops_at plane q)) ≡ end plane q k
  unfolding end
  over_hops_is (inl is) = ap (λ n. union (flat_map (ends_over plane q n) (hops_at plane q))) is ∙ ap (end plane q) (sym is)
  over_hops_is (inr (inl is)) = ap (λ n. union (flat_map (ends_over plane q n) (hops_at plane q))) is ∙ ap (end plane q) (sym is)
  over_hops_is (inr (inr (inl is))) = ap (λ n. union (flat_map (ends_over plane q n) (hops_at plane q))) is ∙ ap (end plane q) (sym is)
  over_hops_is (inr (inr (inr is))) = ap (λ n. union (flat_map (ends_over plane q n) (hops_at plane q))) is ∙ ap (end plane q) (sym is)
