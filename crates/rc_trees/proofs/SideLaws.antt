-- A tree and its sides at a bit.
use Rattle.std.proofs.Common.{◌≡◌, ◌≢◌, ℕ, ◌<◌, ◌≤◌, ◌⊎◌, inl, inr, Bool, true, false, cond, ◌==◌, refl, sym, ap, subst, ◌∙◌, arith, List, eq-eqb, ne_eqb}
use Rattle.std.proofs.Math.Decide.{ℕ_discrete}
use Rattle.rc_base.specs.Header.{bit_count}
use Rattle.rc_trees.specs.Trees.{Tree, never, always, node, top, value, IsReduced, IsAmong, HasNodesOf, same_tree, low_side, high_side}
use Rattle.rc_trees.specs.Combine.{joined}
use Rattle.rc_trees.proofs.OneTree.{one_tree}
use Rattle.rc_trees.proofs.TreeLaws.{same_tree-Decides, value-joined}

-- ---- joined

pub joined_cases : (v : ℕ) (l h : Tree) → ((l ≡ h) × (joined v l h ≡ l)) ⊎ ((l ≢ h) × (joined v l h ≡ node v l h))
joined_cases v l h = go (same_tree l h) refl
  where
    go : (b : Bool) → same_tree l h ≡ b → ((l ≡ h) × (joined v l h ≡ l)) ⊎ ((l ≢ h) × (joined v l h ≡ node v l h))
    go true e = inl ((same_tree-Decides l h).0 e, ap (λ x. cond x l (node v l h)) e)
    go false e = inr (
      (λ q. let d : true ≡ false = sym ((same_tree-Decides l h).1 q) ∙ e in absurd (cc d)),
      ap (λ x. cond x l (node v l h)) e,
    )

pub joined_reduced : (v : ℕ) (l h : Tree) → IsReduced l → IsReduced h → v < top l → v < top h → IsReduced (joined v l h)
joined_reduced v l h rl rh pl ph = elim (joined_cases v l h) [
  | inl p ↦ subst IsReduced (sym p.1) rl
  | inr p ↦ let n : IsReduced (node v l h) = (pl, ph, p.0, rl, rh) in subst IsReduced (sym p.1) n
]

pub joined_top : (v : ℕ) (l h : Tree) → v < top l → v ≤ top (joined v l h)
joined_top v l h pl = elim (joined_cases v l h) [
  | inl p ↦ let e = ap (λ t. top t) p.1 in omega arith
  | inr p ↦ let e : top (joined v l h) ≡ v = ap (λ t. top t) p.1 in omega arith
]

-- what may be held of a joined tree may be held of its sides
pub joined_low : (may : List Tree) (v : ℕ) (l h : Tree) → HasNodesOf may (joined v l h) → HasNodesOf may l
joined_low may v l h m = elim (joined_cases v l h) [
  | inl p ↦ subst (HasNodesOf may) p.1 m
  | inr p ↦ let n : HasNodesOf may (node v l h) = subst (HasNodesOf may) p.1 m in n.1
]

pub joined_high : (may : List Tree) (v : ℕ) (l h : Tree) → HasNodesOf may (joined v l h) → HasNodesOf may h
joined_high may v l h m = elim (joined_cases v l h) [
  | inl p ↦ subst (HasNodesOf may) p.0 (subst (HasNodesOf may) p.1 m)
  | inr p ↦ let n : HasNodesOf may (node v l h) = subst (HasNodesOf may) p.1 m in n.2
]

pub joined_here : (may : List Tree) (v : ℕ) (l h : Tree) → HasNodesOf may (joined v l h) → l ≢ h → IsAmong may (node v l h)
joined_here may v l h m ne = elim (joined_cases v l h) [
  | inl p ↦ absurd (ne p.0)
  | inr p ↦ let n : HasNodesOf may (node v l h) = subst (HasNodesOf may) p.1 m in n.0
]

-- ---- sides

pub low_reduced : (v : ℕ) (t : Tree) → IsReduced t → IsReduced (low_side v t)
low_reduced v never r = tt
low_reduced v always r = tt
low_reduced v (node w l h) r = elim (v == w) as (λ b. IsReduced (cond b l (node w l h))) [ true ↦ r.3 | false ↦ r ]

pub high_reduced : (v : ℕ) (t : Tree) → IsReduced t → IsReduced (high_side v t)
high_reduced v never r = tt
high_reduced v always r = tt
high_reduced v (node w l h) r = elim (v == w) as (λ b. IsReduced (cond b h (node w l h))) [ true ↦ r.4 | false ↦ r ]

pub low_top : (v : ℕ) (t : Tree) → IsReduced t → v < bit_count → v ≤ top t → v < top (low_side v t)
low_top v never r lt le = lt
low_top v always r lt le = lt
low_top v (node w l h) r lt le = elim (ℕ_discrete v w) [
  | yes e ↦ let P : Bool → Type 0 = λ b. v < top (cond b l (node w l h)) in subst P (sym (eq-eqb v w e)) (let d = r.0 in omega arith)
  | no ne ↦ let P : Bool → Type 0 = λ b. v < top (cond b l (node w l h)) in subst P (sym (ne_eqb v w ne)) (let d : v ≤ w = le in omega arith)
]

pub high_top : (v : ℕ) (t : Tree) → IsReduced t → v < bit_count → v ≤ top t → v < top (high_side v t)
high_top v never r lt le = lt
high_top v always r lt le = lt
high_top v (node w l h) r lt le = elim (ℕ_discrete v w) [
  | yes e ↦ let P : Bool → Type 0 = λ b. v < top (cond b h (node w l h)) in subst P (sym (eq-eqb v w e)) (let d = r.1 in omega arith)
  | no ne ↦ let P : Bool → Type 0 = λ b. v < top (cond b h (node w l h)) in subst P (sym (ne_eqb v w ne)) (let d : v ≤ w = le in omega arith)
]

pub low_value : (v : ℕ) (t : Tree) (bits : ℕ → Bool) → bits v ≡ false → value (low_side v t) bits ≡ value t bits
low_value v never bits e = refl
low_value v always bits e = refl
low_value v (node w l h) bits e = elim (ℕ_discrete v w) [
  | yes q ↦ ap (λ b. value (cond b l (node w l h)) bits) (eq-eqb v w q) ∙ ap (λ b. cond b (value h bits) (value l bits)) (sym e ∙ ap bits q)
  | no ne ↦ ap (λ b. value (cond b l (node w l h)) bits) (ne_eqb v w ne)
]

pub high_value : (v : ℕ) (t : Tree) (bits : ℕ → Bool) → bits v ≡ true → value (high_side v t) bits ≡ value t bits
high_value v never bits e = refl
high_value v always bits e = refl
high_value v (node w l h) bits e = elim (ℕ_discrete v w) [
  | yes q ↦ ap (λ b. value (cond b h (node w l h)) bits) (eq-eqb v w q) ∙ ap (λ b. cond b (value h bits) (value l bits)) (sym e ∙ ap bits q)
  | no ne ↦ ap (λ b. value (cond b h (node w l h)) bits) (ne_eqb v w ne)
]

-- a tree is its sides, joined
pub rejoined : (v : ℕ) (t : Tree) → IsReduced t → v < bit_count → v ≤ top t → joined v (low_side v t) (high_side v t) ≡ t
rejoined v t r lt le =
    one_tree (joined v (low_side v t) (high_side v t)) t (joined_reduced v (low_side v t) (high_side v t) (low_reduced v t r) (high_reduced v t r) (low_top v t r lt le) (high_top v t r lt le)) r
    (λ bits. value-joined bits v (low_side v t) (high_side v t) ∙ go bits (bits v) refl)
  where
    go : (bits : ℕ → Bool) (x : Bool) → bits v ≡ x → cond x (value (high_side v t) bits) (value (low_side v t) bits) ≡ value t bits
    go bits true e = high_value v t bits e
    go bits false e = low_value v t bits e
