-- The trees that may be made for what loops: those of each edge, and of each round at each position.
use Rattle.std.proofs.Common.{refl, ◌≡◌, ap, sym, ◌∙◌, subst, ℕ, zero, suc, ◌+◌, ◌-◌, ◌≤◌, Bool, true, false, ◌||◌, cond, List, [], ◌∷◌, length, inl, inr, arith}
use Rattle.std.specs.Prelude.{filter, flat_map}
use Rattle.std.specs.List.{list_any}
use Rattle.std.proofs.lemmas.Bool.{or_left, or_right}
use Rattle.rc_base.proofs.FirstSeenLaws.{any-first_seen}
use Rattle.rc_base.proofs.KeepLaws.{In}
use Rattle.rc_base.specs.Lists.{first_seen}
use Rattle.rc_base.specs.declared.position.Pos.{Pos}
use Rattle.rc_config.specs.Members.{positions}
use Rattle.rc_router_sets.specs.Edges.{edge}
use Rattle.rc_trees.proofs.PartLaws.{and-first, and-second, fold-each, in-left, in-right, uses-trans}
use Rattle.rc_trees.proofs.TreeLaws.{same_tree-Decides}
use Rattle.rc_trees.specs.Recipes.{Recipe, Uses, and, given, parts}
use Rattle.rc_trees.specs.Trees.{Tree, HasNodes, IsAmong, is_node, never, same_tree}
use Rattle.rc_moves.specs.Moves.{DataPlane}
use Rattle.rc_reach.specs.Loops.{going_on, loop_nodes, looping}

-- ---- the different nodes among some trees

any-among : (x : Tree) (xs : List Tree) → IsAmong xs x → list_any (same_tree x) xs ≡ true
any-among x [] there = absurd there
any-among x (y ∷ ys) (inl same) = or_left (same_tree x y) (list_any (same_tree x) ys) ((same_tree-Decides x y).1 (sym same))
any-among x (y ∷ ys) (inr rest) = or_right (same_tree x y) (list_any (same_tree x) ys) (any-among x ys rest)

among-any : (x : Tree) (xs : List Tree) → list_any (same_tree x) xs ≡ true → IsAmong xs x
among-any x [] some = absurd (let e : false ≡ true = some in cc)
among-any x (y ∷ ys) some = by (same_tree x y) (same_tree-Decides x y).0 some (among-any x ys)
  where
    by : (b : Bool) → (b ≡ true → x ≡ y) → (b || list_any (same_tree x) ys) ≡ true → (list_any (same_tree x) ys ≡ true → IsAmong ys x) → IsAmong (y ∷ ys) x
    by true same some later = inl (sym (same refl))
    by false same some later = inr (later some)

among-filter : (x : Tree) (xs : List Tree) → IsAmong xs x → is_node x ≡ true → IsAmong (filter is_node xs) x
among-filter x [] there is = absurd there
among-filter x (y ∷ ys) (inl same) is = subst (λ b. IsAmong (cond b (y ∷ filter is_node ys) (filter is_node ys)) x) (sym (ap is_node same ∙ is)) (inl same)
among-filter x (y ∷ ys) (inr rest) is = by (is_node y) (among-filter x ys rest is)
  where
    by : (b : Bool) → IsAmong (filter is_node ys) x → IsAmong (cond b (y ∷ filter is_node ys) (filter is_node ys)) x
    by true there = inr there
    by false there = there

filter-among : (x : Tree) (xs : List Tree) → IsAmong (filter is_node xs) x → IsAmong xs x
filter-among x [] there = absurd there
filter-among x (y ∷ ys) there = by (is_node y) there (filter-among x ys)
  where
    by : (b : Bool) → IsAmong (cond b (y ∷ filter is_node ys) (filter is_node ys)) x → (IsAmong (filter is_node ys) x → IsAmong ys x) → IsAmong (y ∷ ys) x
    by true (inl same) later = inl same
    by true (inr rest) later = inr (later rest)
    by false rest later = inr (later rest)

different-any : (x : Tree) (xs : List Tree) → list_any (same_tree x) (first_seen same_tree (filter is_node xs)) ≡ list_any (same_tree x) (filter is_node xs)
different-any x xs = any-first_seen same_tree (λ a b. (same_tree-Decides a b).0) (same_tree x) (filter is_node xs)

-- they have each node that stands there
pub different-has : (xs : List Tree) → HasNodes (first_seen same_tree (filter is_node xs)) xs
different-has xs x there is = among-any x (first_seen same_tree (filter is_node xs)) (different-any x xs ∙ any-among x (filter is_node xs) (among-filter x xs there is))

-- and no other
pub has-different : (xs : List Tree) (x : Tree) → IsAmong (first_seen same_tree (filter is_node xs)) x → IsAmong xs x
has-different xs x there = filter-among x xs (among-any x (filter is_node xs) (sym (different-any x xs) ∙ any-among x (first_seen same_tree (filter is_node xs)) there))

-- ---- rounds of what loops

some_one : (q : Pos) (qs : List Pos) → In q qs → 1 ≤ length qs
some_one q [] there = absurd there
some_one q (p ∷ ps) there = omega arith

among-flat : (f : Pos → List Tree) (q : Pos) (x : Tree) (qs : List Pos) → In q qs → IsAmong (f q) x → IsAmong (flat_map f qs) x
among-flat f q x [] there is = absurd there
among-flat f q x (p ∷ ps) (inl same) is = in-left x (f p) (flat_map f ps) (subst (λ z. IsAmong (f z) x) (sym same) is)
among-flat f q x (p ∷ ps) (inr later) is = in-right x (f p) (flat_map f ps) (among-flat f q x ps later is)

module _ (plane : DataPlane) where
  abbrev all : List Pos
  all = positions plane.network

  abbrev moving : ℕ → Pos → Pos → Recipe
  moving k q t = and (edge plane q t) (going_on plane k t)

  round-moving : (k : ℕ) (q t : Pos) → In t all → Uses (going_on plane (suc k) q) (moving k q t)
  unfolding going_on
  round-moving k q t there = fold-each (moving k q) (given never) all t there

  -- the round of some position uses that of each one a round before
  pub record IsUsed (k : ℕ) (q : Pos) : Type 0 where
    pub by : Pos
    pub there : In by all
    pub uses : Uses (looping plane by) (going_on plane k q)

  earlier : (n k : ℕ) → n + k ≡ length all → (q : Pos) → In q all → IsUsed k q
  unfolding looping
  earlier zero k e q there = record { by = q; there = there; uses = subst (λ m. Uses (going_on plane m q) (going_on plane k q)) (let f : k ≡ length all = omega arith in f) (λ x h. h) }
  earlier (suc n) k e q there =
      let later = earlier n (suc k) (omega arith) q there in
      record {
        by = later.by;
        there = later.there;
        uses = uses-trans (going_on plane (length all) later.by) (going_on plane (suc k) q) (going_on plane k q) later.uses
            (uses-trans (going_on plane (suc k) q) (moving k q q) (going_on plane k q) (round-moving k q q there) (and-second (edge plane q q) (going_on plane k q)));
      }

  pub round_used : (k : ℕ) → k ≤ length all → (q : Pos) → In q all → IsUsed k q
  round_used k le q there = earlier (length all - k) k (omega arith) q there

  module _ (may : List Tree) (has : HasNodes may (loop_nodes plane)) where
    used_may : (q : Pos) → In q all → (r : Recipe) → Uses (looping plane q) r → HasNodes may (parts r)
    unfolding loop_nodes
    used_may q there r uses x is node =
        has x (different-has (flat_map (λ p. parts (looping plane p)) all) x (among-flat (λ p. parts (looping plane p)) q x all there (uses x is)) node) node

    -- so those of each round may be made
    pub round_may : (k : ℕ) → k ≤ length all → (q : Pos) → In q all → HasNodes may (parts (going_on plane k q))
    round_may k le q there = let u = round_used k le q there in used_may u.by u.there (going_on plane k q) u.uses

    -- and of each edge
    pub edge_may : (q t : Pos) → In q all → In t all → HasNodes may (parts (edge plane q t))
    edge_may q t here there =
        let some = some_one q all here in
        λ x is node. round_may 1 some q here x (round-moving 0 q t there x (and-first (edge plane q t) (going_on plane 0 t) x is)) node
