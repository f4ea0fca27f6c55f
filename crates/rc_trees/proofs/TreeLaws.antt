-- What the operations on trees do with a header.
use Rattle.std.proofs.Common.{refl, ◌≡◌, ap, ◌∙◌, ℕ, Bool, true, false, not, ◌&&◌, ◌||◌, cond, ◌==◌, arith}
use Rattle.std.specs.Ordering.{nat_cmp}
use Rattle.std.specs.declared.cmp.Ordering.{Ordering}
use Rattle.std.specs.declared.cmp.Ordering.TheVariants.{Less, Equal, Greater}
use Rattle.std.specs.Bool.{Decides}
use Rattle.std.proofs.lemmas.Bool.Decides.{Decides-eqb, nat_tests}
use Rattle.rc_trees.specs.Trees.{Tree, never, always, node, value, same_tree}
use Rattle.rc_trees.specs.Combine.{joined, constant, with_constant, with_node, combined, and, or, minus, and_not}

-- ---- equal trees

three : (a b c : Bool) (P Q R : Type 0) → Decides a P → Decides b Q → Decides c R → Decides (a && (b && c)) (P × Q × R)
three true true true P Q R p q r = (λ _. (p.0 refl, q.0 refl, r.0 refl), λ _. refl)
three true true false P Q R p q r = (λ e. absurd (cc), λ t. r.1 t.2)
three true false c P Q R p q r = (λ e. absurd (cc), λ t. q.1 t.1)
three false b c P Q R p q r = (λ e. absurd (cc), λ t. p.1 t.0)

pub same_tree-Decides : (s t : Tree) → Decides (same_tree s t) (s ≡ t)
same_tree-Decides never never = (λ _. refl, λ _. refl)
same_tree-Decides never always = (λ e. absurd (cc), λ e. absurd (cc))
same_tree-Decides never (node w m n) = (λ e. absurd (cc), λ e. absurd (cc))
same_tree-Decides always never = (λ e. absurd (cc), λ e. absurd (cc))
same_tree-Decides always always = (λ _. refl, λ _. refl)
same_tree-Decides always (node w m n) = (λ e. absurd (cc), λ e. absurd (cc))
same_tree-Decides (node v l h) never = (λ e. absurd (cc), λ e. absurd (cc))
same_tree-Decides (node v l h) always = (λ e. absurd (cc), λ e. absurd (cc))
same_tree-Decides (node v l h) (node w m n) =
    let all = three (v == w) (same_tree l m) (same_tree h n) (v ≡ w) (l ≡ m) (h ≡ n) (Decides-eqb v w) (same_tree-Decides l m) (same_tree-Decides h n) in
    (λ e. let p = all.0 e in λ i. node (p.0 i) (p.1 i) (p.2 i), λ e. all.1 ((let x : v ≡ w = cc in x), (let x : l ≡ m = cc in x), (let x : h ≡ n = cc in x)))

-- ---- the value of a test

module _ (bits : ℕ → Bool) where
  pub value-joined : (v : ℕ) (low high : Tree) → value (joined v low high) bits ≡ cond (bits v) (value high bits) (value low bits)
  value-joined v low high = by (same_tree low high) (same_tree-Decides low high).0 (bits v)
    where
      by : (b : Bool) → (b ≡ true → low ≡ high) → (c : Bool) → value (cond b low (node v low high)) bits ≡ cond (bits v) (value high bits) (value low bits)
      by false same c = refl
      by true same c = at (bits v)
        where
          at : (b : Bool) → value low bits ≡ cond b (value high bits) (value low bits)
          at true = ap (λ t. value t bits) (same refl)
          at false = refl

  pub value-constant : (b : Bool) → value (constant b) bits ≡ b
  value-constant true = refl
  value-constant false = refl

  module _ (table : Bool → Bool → Bool) where
    -- a choice on one side is made on the result
    chosen : (c b x y : Bool) → cond c (table b x) (table b y) ≡ table b (cond c x y)
    chosen true b x y = refl
    chosen false b x y = refl

    chosen_both : (c x y z w : Bool) → cond c (table x z) (table y w) ≡ table (cond c x y) (cond c z w)
    chosen_both true x y z w = refl
    chosen_both false x y z w = refl

    value-with_constant : (b : Bool) (t : Tree) → value (with_constant table b t) bits ≡ table b (value t bits)
    value-with_constant b never = value-constant (table b false)
    value-with_constant b always = value-constant (table b true)
    value-with_constant b (node w m n) =
        value-joined w (with_constant table b m) (with_constant table b n)
        ∙ (λ i. cond (bits w) (value-with_constant b n i) (value-with_constant b m i))
        ∙ chosen (bits w) b (value n bits) (value m bits)

    -- where `low` and `high` combine what the first tree holds on its sides
    module _ (v : ℕ) (l r : Bool) (low high : Tree → Tree) (on_low : (t : Tree) → value (low t) bits ≡ table l (value t bits)) (on_high : (t : Tree) → value (high t) bits ≡ table r (value t bits)) where
      first : (t : Tree) → value (joined v (low t) (high t)) bits ≡ table (cond (bits v) r l) (value t bits)
      first t =
          value-joined v (low t) (high t)
          ∙ (λ i. cond (bits v) (on_high t i) (on_low t i))
          ∙ at (bits v)
        where
          at : (c : Bool) → cond c (table r (value t bits)) (table l (value t bits)) ≡ table (cond c r l) (value t bits)
          at true = refl
          at false = refl

      by_order : (w : ℕ) (m n : Tree) (o : Ordering) → (o ≡ Equal → v ≡ w) → value (with_node table v low high m) bits ≡ table (cond (bits v) r l) (value m bits) → value (with_node table v low high n) bits ≡ table (cond (bits v) r l) (value n bits)
          → value (elim o [ Less ↦ joined v (low (node w m n)) (high (node w m n)) | Equal ↦ joined v (low m) (high n) | Greater ↦ joined w (with_node table v low high m) (with_node table v low high n) ]) bits ≡ table (cond (bits v) r l) (cond (bits w) (value n bits) (value m bits))
      by_order w m n Less e p q = first (node w m n)
      by_order w m n Equal e p q =
          value-joined v (low m) (high n)
          ∙ (λ i. cond (bits v) (on_high n i) (on_low m i))
          ∙ chosen_both (bits v) r l (value n bits) (value m bits)
          ∙ ap (λ u. table (cond (bits v) r l) (cond (bits u) (value n bits) (value m bits))) (e refl)
      by_order w m n Greater e p q =
          value-joined w (with_node table v low high m) (with_node table v low high n)
          ∙ (λ i. cond (bits w) (q i) (p i))
          ∙ chosen (bits w) (cond (bits v) r l) (value n bits) (value m bits)

      equal : (w : ℕ) → nat_cmp v w ≡ Equal → v ≡ w
      equal w e = grind (arith, nat_tests)

      value-with_node : (t : Tree) → value (with_node table v low high t) bits ≡ table (cond (bits v) r l) (value t bits)
      value-with_node never = first never
      value-with_node always = first always
      value-with_node (node w m n) = by_order w m n (nat_cmp v w) (equal w) (value-with_node m) (value-with_node n)

    pub value-combined : (s t : Tree) → value (combined table s t) bits ≡ table (value s bits) (value t bits)
    value-combined never t = value-with_constant false t
    value-combined always t = value-with_constant true t
    value-combined (node v l r) t = value-with_node v (value l bits) (value r bits) (combined table l) (combined table r) (value-combined l) (value-combined r) t

  pub value-and : (s t : Tree) → value (and s t) bits ≡ (value s bits && value t bits)
  unfolding and
  value-and s t = value-combined ◌&&◌ s t

  pub value-or : (s t : Tree) → value (or s t) bits ≡ (value s bits || value t bits)
  unfolding or
  value-or s t = value-combined ◌||◌ s t

  pub value-minus : (s t : Tree) → value (minus s t) bits ≡ (value s bits && not (value t bits))
  unfolding minus
  value-minus s t = value-combined and_not s t
