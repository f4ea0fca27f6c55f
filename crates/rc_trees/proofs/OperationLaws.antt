-- What the operations do with two reduced trees: both sides at a bit are combined and joined, and some results need no step.
use Rattle.std.proofs.Common.{◌≡◌, ℕ, suc, ◌<◌, ◌≤◌, Bool, true, false, not, ◌&&◌, ◌||◌, cond, refl, sym, ◌∙◌}
use Rattle.rc_base.specs.Header.{bit_count}
use Rattle.rc_trees.specs.Trees.{Tree, never, always, top, value, IsReduced, low_side, high_side}
use Rattle.rc_trees.specs.Combine.{joined, combined, and_not}
use Rattle.rc_trees.proofs.OneTree.{combined_is}
use Rattle.rc_trees.proofs.ReducedLaws.{Starts, starts-combined}
use Rattle.rc_trees.proofs.SideLaws.{joined_reduced, low_reduced, high_reduced, low_top, high_top, low_value, high_value}
use Rattle.rc_trees.proofs.TreeLaws.{value-combined, value-joined}

-- ---- the sides

-- at a bit that neither tree tests before, each side of the one with that of the other starts behind it
module _ (table : Bool → Bool → Bool) (v : ℕ) (s t : Tree) (r : IsReduced s) (q : IsReduced t) (less : v < bit_count) (vs : v ≤ top s) (vt : v ≤ top t) where
  pub low_starts : Starts (suc v) (combined table (low_side v s) (low_side v t))
  low_starts = starts-combined table (suc v) (low_side v s) (low_side v t) (low_reduced v s r, low_top v s r less vs) (low_reduced v t q, low_top v t q less vt)

  pub high_starts : Starts (suc v) (combined table (high_side v s) (high_side v t))
  high_starts = starts-combined table (suc v) (high_side v s) (high_side v t) (high_reduced v s r, high_top v s r less vs) (high_reduced v t q, high_top v t q less vt)

  go : (bits : ℕ → Bool) (x : Bool) → bits v ≡ x → table (value s bits) (value t bits) ≡ cond x (value (combined table (high_side v s) (high_side v t)) bits) (value (combined table (low_side v s) (low_side v t)) bits)
  go bits true e = sym (value-combined bits table (high_side v s) (high_side v t) ∙ (λ i. table (high_value v s bits e i) (high_value v t bits e i)))
  go bits false e = sym (value-combined bits table (low_side v s) (low_side v t) ∙ (λ i. table (low_value v s bits e i) (low_value v t bits e i)))

  -- two trees combined are their sides combined, and joined
  pub combined_step : combined table s t ≡ joined v (combined table (low_side v s) (low_side v t)) (combined table (high_side v s) (high_side v t))
  combined_step =
      let u : Tree = combined table (low_side v s) (low_side v t) in let w : Tree = combined table (high_side v s) (high_side v t) in
      combined_is table s t (joined v u w) r q (joined_reduced v u w low_starts.0 high_starts.0 low_starts.1 high_starts.1) (λ bits. go bits (bits v) refl ∙ sym (value-joined bits v u w))

-- ---- what needs no step

true_or_false : (P : Bool → Type 0) → P true → P false → (b : Bool) → P b
true_or_false P p q true = p
true_or_false P p q false = q

pub and_never : (t : Tree) → IsReduced t → combined ◌&&◌ never t ≡ never
and_never t r = combined_is ◌&&◌ never t never tt r tt (λ bits. refl)

pub and_never' : (t : Tree) → IsReduced t → combined ◌&&◌ t never ≡ never
and_never' t r = combined_is ◌&&◌ t never never r tt tt (λ bits. true_or_false (λ b. b && false ≡ false) refl refl (value t bits))

pub and_always : (t : Tree) → IsReduced t → combined ◌&&◌ always t ≡ t
and_always t r = combined_is ◌&&◌ always t t tt r r (λ bits. refl)

pub and_always' : (t : Tree) → IsReduced t → combined ◌&&◌ t always ≡ t
and_always' t r = combined_is ◌&&◌ t always t r tt r (λ bits. true_or_false (λ b. b && true ≡ b) refl refl (value t bits))

pub and_same : (t : Tree) → IsReduced t → combined ◌&&◌ t t ≡ t
and_same t r = combined_is ◌&&◌ t t t r r r (λ bits. true_or_false (λ b. b && b ≡ b) refl refl (value t bits))

pub or_never : (t : Tree) → IsReduced t → combined ◌||◌ never t ≡ t
or_never t r = combined_is ◌||◌ never t t tt r r (λ bits. refl)

pub or_never' : (t : Tree) → IsReduced t → combined ◌||◌ t never ≡ t
or_never' t r = combined_is ◌||◌ t never t r tt r (λ bits. true_or_false (λ b. b || false ≡ b) refl refl (value t bits))

pub or_always : (t : Tree) → IsReduced t → combined ◌||◌ always t ≡ always
or_always t r = combined_is ◌||◌ always t always tt r tt (λ bits. refl)

pub or_always' : (t : Tree) → IsReduced t → combined ◌||◌ t always ≡ always
or_always' t r = combined_is ◌||◌ t always always r tt tt (λ bits. true_or_false (λ b. b || true ≡ true) refl refl (value t bits))

pub or_same : (t : Tree) → IsReduced t → combined ◌||◌ t t ≡ t
or_same t r = combined_is ◌||◌ t t t r r r (λ bits. true_or_false (λ b. b || b ≡ b) refl refl (value t bits))

pub minus_never : (t : Tree) → IsReduced t → combined and_not never t ≡ never
minus_never t r = combined_is and_not never t never tt r tt (λ bits. refl)

pub minus_never' : (t : Tree) → IsReduced t → combined and_not t never ≡ t
minus_never' t r = combined_is and_not t never t r tt r (λ bits. true_or_false (λ b. b && not false ≡ b) refl refl (value t bits))

pub minus_always : (t : Tree) → IsReduced t → combined and_not t always ≡ never
minus_always t r = combined_is and_not t always never r tt tt (λ bits. true_or_false (λ b. b && not true ≡ false) refl refl (value t bits))

pub minus_same : (t : Tree) → IsReduced t → combined and_not t t ≡ never
minus_same t r = combined_is and_not t t never r r tt (λ bits. true_or_false (λ b. b && not b ≡ false) refl refl (value t bits))
