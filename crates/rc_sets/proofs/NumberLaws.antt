-- One bit more of a number.
use Rattle.std.proofs.Common.{refl, ◌≡◌, ◌≢◌, ap, sym, subst, ◌∙◌, ℕ, zero, suc, ◌+◌, ◌-◌, ◌<◌, ◌≤◌, Bool, true, false, cond, ◌^◌, inl, inr, ◌⊎◌, List, Result, Ok, Err, IfOk, arith}
use Rattle.std.proofs.lemmas.Bool.{cases_eq, lt-ltb}
use Rattle.std.proofs.lemmas.Nat.{shr_below}
use Rattle.rc_base.specs.Fields.{is_set}
use Rattle.rc_base.specs.Header.{bit_count}
use Rattle.rc_base.specs.Addr.{leading_bits}
use Rattle.rc_base.specs.Prefix.{Cidr}
use Rattle.rc_trees.specs.Recipes.{tree}
use Rattle.rc_trees.specs.Trees.{Tree, never, always, node, HasNodesOf}
use Rattle.rc_trees.specs.Combine.{joined}
use Rattle.rc_trees.specs.Fields.{masked, with_bit, chain}
use Rattle.rc_trees.proofs.FieldsReduced.{masked-bits}
use Rattle.rc_trees.proofs.SideLaws.{joined_cases}
use Rattle.rc_nodes.specs.Seats.{TableView, SeatView, SeatKnows}
use Rattle.rc_nodes.specs.declared.table.Full.{Full}
use Rattle.rc_nodes.specs.declared.words.Ref.{Ref}
use Rattle.rc_nodes.proofs.KnownLaws.{knows_never, knows_always}
use Rattle.rc_bdd.specs.Work.{MayBranch}
use Rattle.rc_sets.specs.Builds.{MayFollow}

-- ---- a test in front of some headers

high_joined : (v : ℕ) (t : Tree) → t ≢ never → joined v never t ≡ node v never t
high_joined v t some = by (joined_cases v never t)
  where
    by : ((never ≡ t) × (joined v never t ≡ never)) ⊎ ((never ≢ t) × (joined v never t ≡ node v never t)) → joined v never t ≡ node v never t
    by (inl p) = absurd (some (sym p.0))
    by (inr p) = p.1

low_joined : (v : ℕ) (t : Tree) → t ≢ never → joined v t never ≡ node v t never
low_joined v t some = by (joined_cases v t never)
  where
    by : ((t ≡ never) × (joined v t never ≡ t)) ⊎ ((t ≢ never) × (joined v t never ≡ node v t never)) → joined v t never ≡ node v t never
    by (inl p) = absurd (some p.0)
    by (inr p) = p.1

module _ (nodes : TableView) (seat : SeatView) (var r : ℕ) where
  pub may_high : (free one : Bool) → free ≡ false → one ≡ true → MayFollow nodes seat free one var r → MayBranch nodes seat var 0 r
  may_high true one ef eo m = absurd (cc)
  may_high false false ef eo m = absurd (cc)
  may_high false true ef eo m = record { bit = m.bit; low = never; high = m.rest; knows_low = knows_never seat; knows_high = m.known; rises_low = m.bit; rises_high = m.rises; allowed = subst (HasNodesOf nodes.may) (sym (high_joined var m.rest m.some)) m.allowed }

  pub may_low : (free one : Bool) → free ≡ false → one ≡ false → MayFollow nodes seat free one var r → MayBranch nodes seat var r 0
  may_low true one ef eo m = absurd (cc)
  may_low false true ef eo m = absurd (cc)
  may_low false false ef eo m = record { bit = m.bit; low = m.rest; high = never; knows_low = m.known; knows_high = knows_never seat; rises_low = m.rises; rises_high = m.bit; allowed = subst (HasNodesOf nodes.may) (sym (low_joined var m.rest m.some)) m.allowed }

  -- after the step a reference is known as the tree with the bit in front
  abbrev Follows : SeatView → Bool → Bool → Ref → Type 0
  Follows after free one x = (t : Tree) → t ≢ never → SeatKnows seat r t → SeatKnows after x.index (with_bit free one var t)

  pub made_high : (free one : Bool) → free ≡ false → one ≡ true → (after : SeatView) (result : Result Ref Full) → IfOk result (λ x. (l h : Tree) → SeatKnows seat 0 l → SeatKnows seat r h → SeatKnows after x.index (joined var l h)) → IfOk result (Follows after free one)
  made_high true one ef eo after result made = absurd (cc)
  made_high false false ef eo after result made = absurd (cc)
  made_high false true ef eo after (Ok x) made = λ t some known. subst (SeatKnows after x.index) (high_joined var t some) (made never t (knows_never seat) known)
  made_high false true ef eo after (Err x) made = tt

  pub made_low : (free one : Bool) → free ≡ false → one ≡ false → (after : SeatView) (result : Result Ref Full) → IfOk result (λ x. (l h : Tree) → SeatKnows seat r l → SeatKnows seat 0 h → SeatKnows after x.index (joined var l h)) → IfOk result (Follows after free one)
  made_low true one ef eo after result made = absurd (cc)
  made_low false true ef eo after result made = absurd (cc)
  made_low false false ef eo after (Ok x) made = λ t some known. subst (SeatKnows after x.index) (low_joined var t some) (made t never known (knows_never seat))
  made_low false false ef eo after (Err x) made = tt

-- ---- bit by bit

-- a list that has the nodes of a tree with a bit in front has those of the tree
behind : (may : List Tree) (free one : Bool) (v : ℕ) (t : Tree) → HasNodesOf may (with_bit free one v t) → HasNodesOf may t
behind may true one v t has = has
behind may false true v t has = has.2
behind may false false v t has = has.1

module _ (may : List Tree) (last w n : ℕ) where
  -- the nodes of a number's last bits are among those of all
  pub fewer : (count k : ℕ) → k ≤ count → HasNodesOf may (masked last count w n) → HasNodesOf may (masked last k w n)
  unfolding masked
  fewer zero zero le has = has
  fewer zero (suc k) le has = absurd (omega arith)
  fewer (suc c) zero le has = tt
  fewer (suc c) (suc k) le has = by (cases_eq k c) (λ less. fewer c (suc k) less (behind may (is_set w c) (is_set n c) (last - c) (masked last c w n) has))
    where
      by : (k ≡ c) ⊎ (k ≡ c → ⊥) → (suc k ≤ c → HasNodesOf may (masked last (suc k) w n)) → HasNodesOf may (masked last (suc k) w n)
      by (inl e) later = subst (λ j. HasNodesOf may (masked last (suc j) w n)) (sym e) has
      by (inr other) later = later (omega arith)

pub no_bits : (last w n : ℕ) → masked last 0 w n ≡ always
unfolding masked
no_bits last w n = refl

again : (last w n k : ℕ) → masked last (suc k) w n ≡ with_bit (is_set w k) (is_set n k) (last - k) (masked last k w n)
unfolding masked
again last w n k = refl

pub one_more : (last w n k : ℕ) → masked last (k + 1) w n ≡ with_bit (is_set w k) (is_set n k) (last - k) (masked last k w n)
one_more last w n k = ap (λ j. masked last j w n) (let e : k + 1 ≡ suc k = omega arith in e) ∙ again last w n k

module _ (nodes : TableView) (seat : SeatView) (last count w n k r : ℕ) (bit : last < bit_count) (fits : count ≤ last + 1) (less : k < count) (known : SeatKnows seat r (masked last k w n)) (has : HasNodesOf nodes.may (masked last count w n)) where
  pub may_follow : (free one : Bool) → free ≡ is_set w k → one ≡ is_set n k → MayFollow nodes seat free one (last - k) r
  may_follow free one ef eo =
      let ok = masked-bits last bit k w n (omega arith) in
      let after : HasNodesOf nodes.may (with_bit (is_set w k) (is_set n k) (last - k) (masked last k w n)) = subst (HasNodesOf nodes.may) (one_more last w n k) (fewer nodes.may last w n count (k + 1) (omega arith) has) in
      record {
        bit = omega arith;
        rest = masked last k w n;
        known = known;
        some = ok.1;
        rises = let start = ok.0.1 in omega arith;
        allowed = subst (λ b. HasNodesOf nodes.may (with_bit b one (last - k) (masked last k w n))) (sym ef) (subst (λ b. HasNodesOf nodes.may (with_bit (is_set w k) b (last - k) (masked last k w n))) (sym eo) after);
      }

  pub followed : (after : SeatView) (x : ℕ) (free one : Bool) → free ≡ is_set w k → one ≡ is_set n k → ((t : Tree) → t ≢ never → SeatKnows seat r t → SeatKnows after x (with_bit free one (last - k) t)) → SeatKnows after x (masked last (k + 1) w n)
  followed after x free one ef eo made =
      let ok = masked-bits last bit k w n (omega arith) in
      let there : SeatKnows after x (with_bit free one (last - k) (masked last k w n)) = made (masked last k w n) ok.1 known in
      subst (SeatKnows after x) ((λ i. with_bit (ef i) (eo i) (last - k) (masked last k w n)) ∙ sym (one_more last w n k)) there

-- ---- prefixes

-- the chain of a prefix is made of its leading bits
pub chain_is : (p : Cidr) (len front : ℕ) → p.network < 2 ^ 32 → p.len ≤ 32 → len ≡ p.len → front ≡ leading_bits p.len p.network → masked (len - 1) len 0 front ≡ tree (chain p)
chain_is p len front small short el ef =
    let fits : leading_bits p.len p.network < 2 ^ p.len = shr_below p.network p.len (32 - p.len) (subst (λ n. p.network < 2 ^ n) (let e : 32 ≡ p.len + (32 - p.len) = omega arith in e) small) in
    (λ i. masked (el i - 1) (el i) 0 (ef i))
    ∙ ap (λ b. cond b (masked (p.len - 1) p.len 0 (leading_bits p.len p.network)) never) (sym (lt-ltb (leading_bits p.len p.network) (2 ^ p.len) fits))

-- a prefix of no bit holds every destination
pub chain_of_none : (seat : SeatView) (p : Cidr) → p.len ≡ 0 → p.network < 2 ^ 32 → SeatKnows seat 1 (tree (chain p))
chain_of_none seat p none small = subst (SeatKnows seat 1) (sym (no_bits (0 - 1) 0 (leading_bits 0 p.network)) ∙ chain_is p 0 (leading_bits 0 p.network) small (omega arith) (sym none) (ap (λ n. leading_bits n p.network) (sym none))) (knows_always seat)
