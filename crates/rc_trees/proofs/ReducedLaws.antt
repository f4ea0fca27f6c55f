-- Operations on reduced trees give reduced trees, which test no variable before those of their operands.
use Rattle.std.proofs.Common.{refl, ◌≡◌, ℕ, suc, Bool, true, false, ◌&&◌, ◌||◌, cond, ◌<◌, ◌≤◌, arith}
use Rattle.std.specs.Ordering.{nat_cmp}
use Rattle.std.specs.declared.cmp.Ordering.{Ordering}
use Rattle.std.specs.declared.cmp.Ordering.TheVariants.{Less, Equal, Greater}
use Rattle.std.proofs.lemmas.Bool.Decides.{nat_tests}
use Rattle.rc_base.specs.Header.{bit_count}
use Rattle.rc_trees.specs.Trees.{Tree, never, always, node, top, IsReduced, same_tree}
use Rattle.rc_trees.specs.Combine.{joined, constant, with_constant, with_node, combined, and, or, minus, and_not}
use Rattle.rc_trees.proofs.TreeLaws.{same_tree-Decides}

-- a reduced tree that tests nothing before u
abbrev pub Starts : ℕ → Tree → Type 0
Starts u t = IsReduced t × (u ≤ top t)

pub top-le : (t : Tree) → IsReduced t → top t ≤ bit_count
top-le never r = omega arith
top-le always r = omega arith
top-le (node v l h) r = let low = top-le l r.3 in let a = r.0 in omega arith

pub starts-joined : (v : ℕ) (l h : Tree) → Starts (suc v) l → Starts (suc v) h → Starts v (joined v l h)
starts-joined v l h a b = by (same_tree l h) (same_tree-Decides l h).1
  where
    by : (c : Bool) → (l ≡ h → c ≡ true) → Starts v (cond c l (node v l h))
    by true same = (a.0, let low = a.1 in omega arith)
    by false same = ((let low = a.1 in omega arith, let high = b.1 in omega arith, λ e. let x : false ≡ true = same e in cc, a.0, b.0), omega arith)

starts-constant : (u : ℕ) (b : Bool) → u ≤ bit_count → Starts u (constant b)
starts-constant u true le = (tt, le)
starts-constant u false le = (tt, le)

pub sooner : (u w : ℕ) (t : Tree) → u ≤ w → Starts w t → Starts u t
sooner u w t le s = (s.0, let a = s.1 in omega arith)

module _ (table : Bool → Bool → Bool) where
  starts-with_constant : (u : ℕ) (b : Bool) (t : Tree) → Starts u t → Starts u (with_constant table b t)
  starts-with_constant u b never s = starts-constant u (table b false) s.1
  starts-with_constant u b always s = starts-constant u (table b true) s.1
  starts-with_constant u b (node w m n) s =
      sooner u w (joined w (with_constant table b m) (with_constant table b n)) s.1 (starts-joined w (with_constant table b m) (with_constant table b n)
      (starts-with_constant (suc w) b m (s.0.3, s.0.0)) (starts-with_constant (suc w) b n (s.0.4, s.0.1)))

  module _ (v : ℕ) (low high : Tree → Tree) (on_low : (t : Tree) → Starts (suc v) t → Starts (suc v) (low t)) (on_high : (t : Tree) → Starts (suc v) t → Starts (suc v) (high t)) where
    first : (u : ℕ) (t : Tree) → u ≤ v → Starts (suc v) t → Starts u (joined v (low t) (high t))
    first u t le s = sooner u v (joined v (low t) (high t)) le (starts-joined v (low t) (high t) (on_low t s) (on_high t s))

    by_order : (u w : ℕ) (m n : Tree) (o : Ordering) → o ≡ nat_cmp v w → u ≤ v → Starts u (node w m n)
        → (v < w → Starts (suc v) (node w m n))
        → (w < v → Starts (suc w) (with_node table v low high m)) → (w < v → Starts (suc w) (with_node table v low high n))
        → Starts u (elim o [ Less ↦ joined v (low (node w m n)) (high (node w m n)) | Equal ↦ joined v (low m) (high n) | Greater ↦ joined w (with_node table v low high m) (with_node table v low high n) ])
    by_order u w m n Less e le s behind p q = first u (node w m n) le (behind (let x : v < w = grind (arith, nat_tests) in x))
    by_order u w m n Equal e le s behind p q =
        let same : v ≡ w = grind (arith, nat_tests) in
        let a = s.0.0 in let b = s.0.1 in
        sooner u v (joined v (low m) (high n)) le (starts-joined v (low m) (high n) (on_low m (s.0.3, omega arith)) (on_high n (s.0.4, omega arith)))
    by_order u w m n Greater e le s behind p q =
        let less : w < v = grind (arith, nat_tests) in
        sooner u w (joined w (with_node table v low high m) (with_node table v low high n)) s.1 (starts-joined w (with_node table v low high m) (with_node table v low high n) (p less) (q less))

    starts-with_node : (u : ℕ) (t : Tree) → u ≤ v → v < bit_count → Starts u t → Starts u (with_node table v low high t)
    starts-with_node u never le bit s = first u never le (tt, bit)
    starts-with_node u always le bit s = first u always le (tt, bit)
    starts-with_node u (node w m n) le bit s =
        by_order u w m n (nat_cmp v w) refl le s (λ less. (s.0, less))
        (λ less. starts-with_node (suc w) m less bit (s.0.3, s.0.0)) (λ less. starts-with_node (suc w) n less bit (s.0.4, s.0.1))

  pub starts-combined : (u : ℕ) (s t : Tree) → Starts u s → Starts u t → Starts u (combined table s t)
  starts-combined u never t a b = starts-with_constant u false t b
  starts-combined u always t a b = starts-with_constant u true t b
  starts-combined u (node v l h) t a b =
      let bit : v < bit_count = (let low = top-le l a.0.3 in let c = a.0.0 in omega arith) in
      starts-with_node v (combined table l) (combined table h)
      (λ x s. starts-combined (suc v) l x (a.0.3, a.0.0) s)
      (λ x s. starts-combined (suc v) h x (a.0.4, a.0.1) s)
      u t a.1 bit b

pub reduced-and : (s t : Tree) → IsReduced s → IsReduced t → IsReduced (and s t)
unfolding and
reduced-and s t a b = (starts-combined ◌&&◌ 0 s t (a, omega arith) (b, omega arith)).0

pub reduced-or : (s t : Tree) → IsReduced s → IsReduced t → IsReduced (or s t)
unfolding or
reduced-or s t a b = (starts-combined ◌||◌ 0 s t (a, omega arith) (b, omega arith)).0

pub reduced-minus : (s t : Tree) → IsReduced s → IsReduced t → IsReduced (minus s t)
unfolding minus
reduced-minus s t a b = (starts-combined and_not 0 s t (a, omega arith) (b, omega arith)).0
