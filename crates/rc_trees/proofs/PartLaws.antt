-- The parts of operations: the results on both sides are among them, and so are all subtrees of the result.
use Rattle.std.proofs.Common.{refl, ◌≡◌, ap, sym, ◌∙◌, subst, ℕ, ◌<◌, ◌≤◌, Bool, true, false, ◌||◌, ◌==◌, cond, min, List, [], ◌∷◌, ◌++◌, map, filter, inl, inr, ◌⊎◌, arith}
use Rattle.std.specs.Prelude.{◌≢◌, ◌↔◌}
use Rattle.std.specs.List.{list_any, fold}
use Rattle.std.specs.Ordering.{nat_cmp}
use Rattle.std.specs.declared.cmp.Ordering.{Ordering}
use Rattle.std.specs.declared.cmp.Ordering.TheVariants.{Less, Equal, Greater}
use Rattle.std.proofs.lemmas.Bool.{cond-true, cond-false, eq-eqb, ne_eqb, cases_eq, cases_lt, or_left, or_right}
use Rattle.std.proofs.lemmas.Bool.Decides.{nat_tests}
use Rattle.rc_base.specs.Header.{bit_count}
use Rattle.rc_base.proofs.FirstSeenLaws.{any-first_seen}
use Rattle.rc_base.proofs.KeepLaws.{In}
use Rattle.rc_trees.specs.Trees.{Tree, never, always, node, low_side, high_side, first_of, is_node, same_tree, IsAmong, HasNodes}
use Rattle.rc_trees.specs.Combine.{joined, constant, combined}
use Rattle.rc_trees.specs.Parts.{subtrees, beside, constant_pairs, pairs, parts}
use Rattle.rc_base.specs.Lists.{first_seen}
use Rattle.rc_trees.specs.Recipes as recipes
use Rattle.rc_trees.specs.Recipes.{Recipe, given, and, or, minus, tree, nodes, Uses}
use Rattle.rc_trees.proofs.TreeLaws.{same_tree-Decides}

-- ---- members

pub in-left : (t : Tree) (xs ys : List Tree) → IsAmong xs t → IsAmong (xs ++ ys) t
in-left t [] ys there = absurd there
in-left t (x ∷ xs) ys (inl same) = inl same
in-left t (x ∷ xs) ys (inr rest) = inr (in-left t xs ys rest)

pub in-right : (t : Tree) (xs ys : List Tree) → IsAmong ys t → IsAmong (xs ++ ys) t
in-right t [] ys there = there
in-right t (x ∷ xs) ys there = inr (in-right t xs ys there)

pub in-either : (t : Tree) (xs ys : List Tree) → IsAmong (xs ++ ys) t → IsAmong xs t ⊎ IsAmong ys t
in-either t [] ys there = inr there
in-either t (x ∷ xs) ys (inl same) = inl (inl same)
in-either t (x ∷ xs) ys (inr rest) = by (in-either t xs ys rest)
  where
    by : IsAmong xs t ⊎ IsAmong ys t → IsAmong (x ∷ xs) t ⊎ IsAmong ys t
    by (inl here) = inl (inr here)
    by (inr there) = inr there

-- ---- of one operation

map-append : {A B : Type 0} (f : A → B) (xs ys : List A) → map f (xs ++ ys) ≡ map f xs ++ map f ys
map-append f [] ys = refl
map-append f (x ∷ xs) ys = ap (λ zs. f x ∷ zs) (map-append f xs ys)

module _ (table : Bool → Bool → Bool) where
  abbrev result : Tree × Tree → Tree
  result p = combined table p.0 p.1

  -- ---- the step from two trees to their sides

  pub record IsStep (v : ℕ) (s t : Tree) : Type 0 where
    pub joins : combined table s t ≡ joined v (combined table (low_side v s) (low_side v t)) (combined table (high_side v s) (high_side v t))
    pub parts_are : parts table s t ≡ combined table s t ∷ (parts table (low_side v s) (low_side v t) ++ parts table (high_side v s) (high_side v t))

  at_own_low : (v : ℕ) (l h : Tree) → low_side v (node v l h) ≡ l
  at_own_low v l h = cond-true (v == v) l (node v l h) (eq-eqb v v refl)

  at_own_high : (v : ℕ) (l h : Tree) → high_side v (node v l h) ≡ h
  at_own_high v l h = cond-true (v == v) h (node v l h) (eq-eqb v v refl)

  at_other_low : (v w : ℕ) (l h : Tree) → v ≢ w → low_side v (node w l h) ≡ node w l h
  at_other_low v w l h other = cond-false (v == w) l (node w l h) (ne_eqb v w other)

  at_other_high : (v w : ℕ) (l h : Tree) → v ≢ w → high_side v (node w l h) ≡ node w l h
  at_other_high v w l h other = cond-false (v == w) h (node w l h) (ne_eqb v w other)

  module _ (v : ℕ) (s t a b c d : Tree) (low_s : low_side v s ≡ a) (low_t : low_side v t ≡ b) (high_s : high_side v s ≡ c) (high_t : high_side v t ≡ d) where
    by_sides : (combined table s t ≡ joined v (combined table a b) (combined table c d)) → (pairs s t ≡ (s, t) ∷ (pairs a b ++ pairs c d)) → IsStep v s t
    unfolding parts
    by_sides joins are = record {
      joins = joins ∙ (λ i. joined v (combined table (sym low_s i) (sym low_t i)) (combined table (sym high_s i) (sym high_t i)));
      parts_are = ap (map result) are ∙ ap (λ xs. combined table s t ∷ xs) (map-append result (pairs a b) (pairs c d))
          ∙ (λ i. combined table s t ∷ (map result (pairs (sym low_s i) (sym low_t i)) ++ map result (pairs (sym high_s i) (sym high_t i))));
    }

  constant_sides : (s : Tree) (w : ℕ) (m n : Tree) → constant_pairs s (node w m n) ≡ (s, node w m n) ∷ (constant_pairs s m ++ constant_pairs s n)
  constant_sides s w m n = ap (λ (ps : List (Tree × Tree)). (s, node w m n) ∷ ps) (map-append (beside s) (subtrees m) (subtrees n))

  step_constant_never : (w : ℕ) (m n : Tree) → IsStep w never (node w m n)
  step_constant_never w m n = by_sides w never (node w m n) never m never n refl (at_own_low w m n) refl (at_own_high w m n) refl (constant_sides never w m n)

  step_constant_always : (w : ℕ) (m n : Tree) → IsStep w always (node w m n)
  step_constant_always w m n = by_sides w always (node w m n) always m always n refl (at_own_low w m n) refl (at_own_high w m n) refl (constant_sides always w m n)

  step_never : (v : ℕ) (l h : Tree) → IsStep v (node v l h) never
  step_never v l h = by_sides v (node v l h) never l never h never (at_own_low v l h) refl (at_own_high v l h) refl refl refl

  step_always : (v : ℕ) (l h : Tree) → IsStep v (node v l h) always
  step_always v l h = by_sides v (node v l h) always l always h always (at_own_low v l h) refl (at_own_high v l h) refl refl refl

  module _ (v : ℕ) (l h : Tree) (w : ℕ) (m n : Tree) where
    abbrev one : Tree
    one = node v l h

    abbrev two : Tree
    two = node w m n

    combined_at : (o : Ordering) → nat_cmp v w ≡ o → combined table one two ≡ elim o [ Less ↦ joined v (combined table l two) (combined table h two) | Equal ↦ joined v (combined table l m) (combined table h n) | Greater ↦ joined w (combined table one m) (combined table one n) ]
    combined_at o e = ap (λ o. elim o [ Less ↦ joined v (combined table l two) (combined table h two) | Equal ↦ joined v (combined table l m) (combined table h n) | Greater ↦ joined w (combined table one m) (combined table one n) ]) e

    pairs_at : (o : Ordering) → nat_cmp v w ≡ o → pairs one two ≡ (one, two) ∷ elim o [ Less ↦ pairs l two ++ pairs h two | Equal ↦ pairs l m ++ pairs h n | Greater ↦ pairs one m ++ pairs one n ]
    pairs_at o e = ap (λ o. (one, two) ∷ elim o [ Less ↦ pairs l two ++ pairs h two | Equal ↦ pairs l m ++ pairs h n | Greater ↦ pairs one m ++ pairs one n ]) e

    step_less : v < w → IsStep v one two
    step_less less =
        let is : nat_cmp v w ≡ Less = grind (arith, nat_tests) in
        let other : v ≢ w = omega arith in
        by_sides v one two l two h two (at_own_low v l h) (at_other_low v w m n other) (at_own_high v l h) (at_other_high v w m n other) (combined_at Less is) (pairs_at Less is)

    step_equal : v ≡ w → IsStep v one two
    step_equal same =
        let is : nat_cmp v w ≡ Equal = grind (arith, nat_tests) in
        by_sides v one two l m h n (at_own_low v l h) (ap (λ u. low_side u two) same ∙ at_own_low w m n) (at_own_high v l h) (ap (λ u. high_side u two) same ∙ at_own_high w m n) (combined_at Equal is) (pairs_at Equal is)

    step_greater : w < v → IsStep w one two
    step_greater less =
        let is : nat_cmp v w ≡ Greater = grind (arith, nat_tests) in
        let other : w ≢ v = omega arith in
        by_sides w one two one m one n (at_other_low w v l h other) (at_own_low w m n) (at_other_high w v l h other) (at_own_high w m n) (combined_at Greater is) (pairs_at Greater is)

  both_nodes : (v : ℕ) (l h : Tree) (w : ℕ) (m n : Tree) → (v < w) ⊎ (w ≤ v) → IsStep (min v w) (node v l h) (node w m n)
  both_nodes v l h w m n (inl less) = subst (λ u. IsStep u (node v l h) (node w m n)) (let e : v ≡ min v w = omega arith in e) (step_less v l h w m n less)
  both_nodes v l h w m n (inr le) = by (cases_eq w v)
    where
      by : (w ≡ v) ⊎ (w ≡ v → ⊥) → IsStep (min v w) (node v l h) (node w m n)
      by (inl same) = subst (λ u. IsStep u (node v l h) (node w m n)) (let e : v ≡ min v w = omega arith in e) (step_equal v l h w m n (sym same))
      by (inr other) = subst (λ u. IsStep u (node v l h) (node w m n)) (let e : w ≡ min v w = omega arith in e) (step_greater v l h w m n (less other))
        where
          less : (w ≡ v → ⊥) → w < v
          less other = omega arith

  -- two trees are combined side by side at the least variable that one of them tests on top, and their parts are the result and the
  -- parts of both sides
  pub step : (s t : Tree) → first_of s t < bit_count → IsStep (first_of s t) s t
  step never never less = absurd (omega arith)
  step never always less = absurd (omega arith)
  step never (node w m n) less = subst (λ v. IsStep v never (node w m n)) (let e : w ≡ min bit_count w = omega arith in e) (step_constant_never w m n)
  step always never less = absurd (omega arith)
  step always always less = absurd (omega arith)
  step always (node w m n) less = subst (λ v. IsStep v always (node w m n)) (let e : w ≡ min bit_count w = omega arith in e) (step_constant_always w m n)
  step (node v l h) never less = subst (λ u. IsStep u (node v l h) never) (let e : v ≡ min v bit_count = omega arith in e) (step_never v l h)
  step (node v l h) always less = subst (λ u. IsStep u (node v l h) always) (let e : v ≡ min v bit_count = omega arith in e) (step_always v l h)
  step (node v l h) (node w m n) less = both_nodes v l h w m n (cases_lt v w)

  -- ---- the parts are the subtrees of the result

  sub-joined : (v : ℕ) (a b x : Tree) → IsAmong (subtrees (joined v a b)) x → (joined v a b ≡ x) ⊎ (IsAmong (subtrees a) x ⊎ IsAmong (subtrees b) x)
  sub-joined v a b x there = by (same_tree a b) there
    where
      by : (c : Bool) → IsAmong (subtrees (cond c a (node v a b))) x → (cond c a (node v a b) ≡ x) ⊎ (IsAmong (subtrees a) x ⊎ IsAmong (subtrees b) x)
      by true here = inr (inl here)
      by false (inl same) = inl same
      by false (inr rest) = inr (in-either x (subtrees a) (subtrees b) rest)

  joined-sub : (v : ℕ) (a b x : Tree) → IsAmong (subtrees a) x ⊎ IsAmong (subtrees b) x → IsAmong (subtrees (joined v a b)) x
  joined-sub v a b x side = by (same_tree a b) (same_tree-Decides a b).0 side
    where
      by : (c : Bool) → (c ≡ true → a ≡ b) → IsAmong (subtrees a) x ⊎ IsAmong (subtrees b) x → IsAmong (subtrees (cond c a (node v a b))) x
      by true same (inl here) = here
      by true same (inr here) = subst (λ u. IsAmong (subtrees u) x) (sym (same refl)) here
      by false same (inl here) = inr (in-left x (subtrees a) (subtrees b) here)
      by false same (inr here) = inr (in-right x (subtrees a) (subtrees b) here)

  itself : (t : Tree) → IsAmong (subtrees t) t
  itself never = inl refl
  itself always = inl refl
  itself (node v l h) = inl refl

  sub-constant : (b : Bool) (x : Tree) → IsAmong (subtrees (constant b)) x → constant b ≡ x
  sub-constant true x (inl same) = same
  sub-constant true x (inr none) = absurd none
  sub-constant false x (inl same) = same
  sub-constant false x (inr none) = absurd none

  -- the parts of two trees are the subtrees of their result
  abbrev AreSubtrees : Tree → Tree → Type 0
  AreSubtrees s t = (x : Tree) → IsAmong (subtrees (combined table s t)) x ↔ IsAmong (parts table s t) x

  by_step : (v : ℕ) (s t : Tree) → IsStep v s t → AreSubtrees (low_side v s) (low_side v t) → AreSubtrees (high_side v s) (high_side v t) → AreSubtrees s t
  by_step v s t is low high x = (λ there. to (sub-joined v a b x (subst (λ r. IsAmong (subtrees r) x) is.joins there)), λ there. from (subst (λ xs. IsAmong xs x) is.parts_are there))
    where
      a : Tree
      a = combined table (low_side v s) (low_side v t)

      b : Tree
      b = combined table (high_side v s) (high_side v t)

      lows : List Tree
      lows = parts table (low_side v s) (low_side v t)

      highs : List Tree
      highs = parts table (high_side v s) (high_side v t)

      back : IsAmong (combined table s t ∷ (lows ++ highs)) x → IsAmong (parts table s t) x
      back there = subst (λ xs. IsAmong xs x) (sym is.parts_are) there

      to : (joined v a b ≡ x) ⊎ (IsAmong (subtrees a) x ⊎ IsAmong (subtrees b) x) → IsAmong (parts table s t) x
      to (inl same) = back (inl (is.joins ∙ same))
      to (inr (inl here)) = back (inr (in-left x lows highs ((low x).0 here)))
      to (inr (inr here)) = back (inr (in-right x lows highs ((high x).0 here)))

      side : IsAmong lows x ⊎ IsAmong highs x → IsAmong (subtrees a) x ⊎ IsAmong (subtrees b) x
      side (inl here) = inl ((low x).1 here)
      side (inr here) = inr ((high x).1 here)

      from : IsAmong (combined table s t ∷ (lows ++ highs)) x → IsAmong (subtrees (combined table s t)) x
      from (inl same) = subst (IsAmong (subtrees (combined table s t))) same (itself (combined table s t))
      from (inr rest) = subst (λ r. IsAmong (subtrees r) x) (sym is.joins) (joined-sub v a b x (side (in-either x lows highs rest)))

  at_sides : (v : ℕ) (s t a b c d : Tree) → low_side v s ≡ a → low_side v t ≡ b → high_side v s ≡ c → high_side v t ≡ d → IsStep v s t → AreSubtrees a b → AreSubtrees c d → AreSubtrees s t
  at_sides v s t a b c d la lb hc hd is low high =
      by_step v s t is (subst (λ u. AreSubtrees u (low_side v t)) (sym la) (subst (AreSubtrees a) (sym lb) low)) (subst (λ u. AreSubtrees u (high_side v t)) (sym hc) (subst (AreSubtrees c) (sym hd) high))

  constants : (s t : Tree) (b : Bool) → combined table s t ≡ constant b → parts table s t ≡ combined table s t ∷ [] → AreSubtrees s t
  constants s t b is are x =
      (λ there. subst (λ xs. IsAmong xs x) (sym are) (inl (is ∙ sub-constant b x (subst (λ r. IsAmong (subtrees r) x) is there))), λ there. from (subst (λ xs. IsAmong xs x) are there))
    where
      from : IsAmong (combined table s t ∷ []) x → IsAmong (subtrees (combined table s t)) x
      from (inl same) = subst (IsAmong (subtrees (combined table s t))) same (itself (combined table s t))
      from (inr none) = absurd none

  of_never : (t : Tree) → AreSubtrees never t
  unfolding parts
  of_never never = constants never never (table false false) refl refl
  of_never always = constants never always (table false true) refl refl
  of_never (node w m n) = at_sides w never (node w m n) never m never n refl (at_own_low w m n) refl (at_own_high w m n) (step_constant_never w m n) (of_never m) (of_never n)

  of_always : (t : Tree) → AreSubtrees always t
  unfolding parts
  of_always never = constants always never (table true false) refl refl
  of_always always = constants always always (table true true) refl refl
  of_always (node w m n) = at_sides w always (node w m n) always m always n refl (at_own_low w m n) refl (at_own_high w m n) (step_constant_always w m n) (of_always m) (of_always n)

  module _ (v : ℕ) (l h : Tree) (low : (t : Tree) → AreSubtrees l t) (high : (t : Tree) → AreSubtrees h t) where
    by_order : (w : ℕ) (m n : Tree) → AreSubtrees (node v l h) m → AreSubtrees (node v l h) n → (v < w) ⊎ (w ≤ v) → AreSubtrees (node v l h) (node w m n)
    by_order w m n p q (inl less) =
        let other : v ≢ w = omega arith in
        at_sides v (node v l h) (node w m n) l (node w m n) h (node w m n) (at_own_low v l h) (at_other_low v w m n other) (at_own_high v l h) (at_other_high v w m n other) (step_less v l h w m n less) (low (node w m n)) (high (node w m n))
    by_order w m n p q (inr le) = by (cases_eq w v)
      where
        by : (w ≡ v) ⊎ (w ≡ v → ⊥) → AreSubtrees (node v l h) (node w m n)
        by (inl same) =
            at_sides v (node v l h) (node w m n) l m h n (at_own_low v l h) (ap (λ u. low_side u (node w m n)) (sym same) ∙ at_own_low w m n) (at_own_high v l h) (ap (λ u. high_side u (node w m n)) (sym same) ∙ at_own_high w m n)
            (step_equal v l h w m n (sym same)) (low m) (high n)
        by (inr other) =
            at_sides w (node v l h) (node w m n) (node v l h) m (node v l h) n (at_other_low w v l h other) (at_own_low w m n) (at_other_high w v l h other) (at_own_high w m n) (step_greater v l h w m n (less other)) p q
          where
            less : (w ≡ v → ⊥) → w < v
            less other = omega arith

    of_node : (t : Tree) → AreSubtrees (node v l h) t
    of_node never = at_sides v (node v l h) never l never h never (at_own_low v l h) refl (at_own_high v l h) refl (step_never v l h) (low never) (high never)
    of_node always = at_sides v (node v l h) always l always h always (at_own_low v l h) refl (at_own_high v l h) refl (step_always v l h) (low always) (high always)
    of_node (node w m n) = by_order w m n (of_node m) (of_node n) (cases_lt v w)

  -- the parts of an operation are the subtrees of its result
  pub parts_are_subtrees : (s t : Tree) → AreSubtrees s t
  parts_are_subtrees never t = of_never t
  parts_are_subtrees always t = of_always t
  parts_are_subtrees (node v l h) t = of_node v l h (parts_are_subtrees l) (parts_are_subtrees h) t

-- ---- of a recipe

-- the parts of what a set is made of are parts of it, and so are those of the operation
pub first_parts : (x : Tree) (xs ys zs : List Tree) → IsAmong xs x → IsAmong (xs ++ ys ++ zs) x
first_parts x xs ys zs there = in-left x (xs ++ ys) zs (in-left x xs ys there)

pub second_parts : (x : Tree) (xs ys zs : List Tree) → IsAmong ys x → IsAmong (xs ++ ys ++ zs) x
second_parts x xs ys zs there = in-left x (xs ++ ys) zs (in-right x xs ys there)

pub own_parts : (x : Tree) (xs ys zs : List Tree) → IsAmong zs x → IsAmong (xs ++ ys ++ zs) x
own_parts x xs ys zs there = in-right x (xs ++ ys) zs there

-- each subtree of what a recipe makes is one of its parts
pub subtrees_of_recipe : (r : Recipe) (x : Tree) → IsAmong (subtrees (tree r)) x → IsAmong (recipes.parts r) x
subtrees_of_recipe (given t) x there = there
subtrees_of_recipe (and r s) x there = own_parts x (recipes.parts r) (recipes.parts s) (subtrees (tree (and r s))) there
subtrees_of_recipe (or r s) x there = own_parts x (recipes.parts r) (recipes.parts s) (subtrees (tree (or r s))) there
subtrees_of_recipe (minus r s) x there = own_parts x (recipes.parts r) (recipes.parts s) (subtrees (tree (minus r s))) there

-- ---- the nodes of a recipe

any-among : (x : Tree) (xs : List Tree) → IsAmong xs x → list_any (same_tree x) xs ≡ true
any-among x [] there = absurd there
any-among x (y ∷ ys) (inl same) = or_left (same_tree x y) (list_any (same_tree x) ys) ((same_tree-Decides x y).1 (sym same))
any-among x (y ∷ ys) (inr rest) = or_right (same_tree x y) (list_any (same_tree x) ys) (any-among x ys rest)

among-any : (x : Tree) (xs : List Tree) → list_any (same_tree x) xs ≡ true → IsAmong xs x
among-any x [] some = absurd (let e : false ≡ true = some in cc)
among-any x (y ∷ ys) some = by (same_tree x y) (same_tree-Decides x y).0 some (among-any x ys)
  where
    by : (b : Bool) → (b ≡ true → x ≡ y) → (b || list_any (same_tree x) ys) ≡ true → (list_any (same_tree x) ys ≡ true → IsAmong ys x) → IsAmong (y ∷ ys) x
    by true same some later = inl (sym (same refl))
    by false same some later = inr (later some)

among-filter : (x : Tree) (xs : List Tree) → IsAmong xs x → is_node x ≡ true → IsAmong (filter is_node xs) x
among-filter x [] there is = absurd there
among-filter x (y ∷ ys) (inl same) is = subst (λ b. IsAmong (cond b (y ∷ filter is_node ys) (filter is_node ys)) x) (sym (ap is_node same ∙ is)) (inl same)
among-filter x (y ∷ ys) (inr rest) is = by (is_node y) (among-filter x ys rest is)
  where
    by : (b : Bool) → IsAmong (filter is_node ys) x → IsAmong (cond b (y ∷ filter is_node ys) (filter is_node ys)) x
    by true there = inr there
    by false there = there

-- each node among a recipe's parts is one of its different nodes
pub nodes_of_parts : (r : Recipe) → HasNodes (nodes r) (recipes.parts r)
unfolding nodes
nodes_of_parts r x there is =
    among-any x (first_seen same_tree (filter is_node (recipes.parts r)))
    (any-first_seen same_tree (λ a b. (same_tree-Decides a b).0) (same_tree x) (filter is_node (recipes.parts r)) ∙ any-among x (filter is_node (recipes.parts r)) (among-filter x (recipes.parts r) there is))

-- ---- pieces of recipes

pub uses-trans : (a b c : Recipe) → Uses a b → Uses b c → Uses a c
uses-trans a b c f g x there = f x (g x there)

pub and-first : (r s : Recipe) → Uses (and r s) r
and-first r s x there = first_parts x (recipes.parts r) (recipes.parts s) (subtrees (tree (and r s))) there

pub and-second : (r s : Recipe) → Uses (and r s) s
and-second r s x there = second_parts x (recipes.parts r) (recipes.parts s) (subtrees (tree (and r s))) there

pub or-first : (r s : Recipe) → Uses (or r s) r
or-first r s x there = first_parts x (recipes.parts r) (recipes.parts s) (subtrees (tree (or r s))) there

pub or-second : (r s : Recipe) → Uses (or r s) s
or-second r s x there = second_parts x (recipes.parts r) (recipes.parts s) (subtrees (tree (or r s))) there

pub minus-first : (r s : Recipe) → Uses (minus r s) r
minus-first r s x there = first_parts x (recipes.parts r) (recipes.parts s) (subtrees (tree (minus r s))) there

pub minus-second : (r s : Recipe) → Uses (minus r s) s
minus-second r s x there = second_parts x (recipes.parts r) (recipes.parts s) (subtrees (tree (minus r s))) there

module _ {A : Type 0} (set : A → Recipe) where
  -- a join of sets uses what it began with, each step, and so each set
  pub fold-first : (r : Recipe) (xs : List A) → Uses (fold (λ s x. or s (set x)) r xs) r
  fold-first r [] x there = there
  fold-first r (y ∷ ys) x there = fold-first (or r (set y)) ys x (or-first r (set y) x there)

  pub fold-step : (r : Recipe) (xs : List A) (y : A) (ys : List A) → Uses (fold (λ s x. or s (set x)) r (xs ++ y ∷ ys)) (or (fold (λ s x. or s (set x)) r xs) (set y))
  fold-step r [] y ys = fold-first (or r (set y)) ys
  fold-step r (x ∷ xs) y ys = fold-step (or r (set x)) xs y ys

  pub fold-each : (r : Recipe) (xs : List A) (y : A) → In y xs → Uses (fold (λ s x. or s (set x)) r xs) (set y)
  fold-each r [] y there = absurd there
  fold-each r (x ∷ xs) y (inl same) =
      subst (λ z. Uses (fold (λ s x. or s (set x)) (or r (set x)) xs) (set z)) same
      (uses-trans (fold (λ s x. or s (set x)) (or r (set x)) xs) (or r (set x)) (set x) (fold-first (or r (set x)) xs) (or-second r (set x)))
  fold-each r (x ∷ xs) y (inr rest) = fold-each (or r (set x)) xs y rest
