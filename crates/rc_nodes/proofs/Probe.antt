-- The probe of one node.
use Rattle.std.proofs.Common.{◌≡◌, ◌≢◌, ℕ, ◌+◌, ◌-◌, ◌*◌, ◌/◌, ◌%◌, ◌<◌, inl, inr, List, refl, sym, ap, subst, ◌∙◌, arith}
use Rattle.std.proofs.Math.Nat.{mul-add-mod_self_left, mod-eq_of_lt, div-add-mod}
use Rattle.std.proofs.Math.Decide.{dec_lt, ℕ_discrete}
use Rattle.rc_trees.specs.Trees.{Tree, never, always, node, top, IsAmong}
use Rattle.rc_nodes.specs.Words.{IsWord, var_of, lo_of, hi_of, slot_at, home}
use Rattle.rc_nodes.specs.Views.{View, Has, Unfolds, Knows, Grows, Sound, Looked, moved, MayWrite}
use Rattle.rc_nodes.specs.Seats.{TableView, SeatView, SeatKnows, Keeps, MayMake, SawAll}
use Rattle.rc_nodes.proofs.Moves.{unfolds_more, one_tree}

pub knows_more : (v w : View) → Grows v w → (r : ℕ) (t : Tree) → Knows v r t → Knows w r t
knows_more v w f r t u = unfolds_more (Has v.seen) (Has w.seen) f r t u

-- a known reference is within the table
pub known_small : (v : View) → Sound v → (r : ℕ) (t : Tree) → Knows v r t → r < v.capacity + 2
known_small v s r never u = omega arith
known_small v s r always u = omega arith
known_small v s r (node x l h) (k, w, e, a, rest, pl, ph, ul, uh) = let i = (s.word k w a).3 in omega arith

pub may_write_moved : (v : View) (k x : ℕ) → MayWrite v k x → MayWrite (moved v) k x
may_write_moved v k x m = record { is_word = m.is_word; bit = m.bit; differ = m.differ; low = m.low; high = m.high; knows_low = m.knows_low; knows_high = m.knows_high; rises_low = m.rises_low; rises_high = m.rises_high; allowed = m.allowed; steps = m.steps; steps_fit = m.steps_fit; lands = m.lands; passed = m.passed }

pub may_write : (nodes : TableView) (before : SeatView) (v : View) (x var lo hi k steps : ℕ) → MayMake nodes before var lo hi → Grows before.view v → v.may ≡ nodes.may → v.capacity ≡ nodes.capacity
    → IsWord x → var_of x ≡ var → lo_of x ≡ lo → hi_of x ≡ hi → steps < nodes.capacity → k ≡ slot_at nodes.capacity x steps
    → ((j : ℕ) → j < steps → (y : ℕ) × Has v.seen (slot_at nodes.capacity x j) y × (y ≢ x)) → MayWrite v k x
unfolding SeatKnows
may_write nodes before v x var lo hi k steps m f em ec iw ev el eh fit lands passed = record {
  is_word = iw;
  bit = omega (arith, m.bit);
  differ = λ e. m.differ (sym el ∙ e ∙ eh);
  low = m.low;
  high = m.high;
  knows_low = subst (λ n. Knows v n m.low) (sym el) (knows_more before.view v f lo m.low m.knows_low);
  knows_high = subst (λ n. Knows v n m.high) (sym eh) (knows_more before.view v f hi m.high m.knows_high);
  rises_low = subst (λ n. n < top m.low) (sym ev) m.rises_low;
  rises_high = subst (λ n. n < top m.high) (sym ev) m.rises_high;
  allowed = subst (λ l. IsAmong l (node (var_of x) m.low m.high)) (sym em) (subst (λ n. IsAmong nodes.may (node n m.low m.high)) (sym ev) m.allowed);
  steps = steps;
  steps_fit = subst (λ n. steps < n) (sym ec) fit;
  lands = subst (λ n. k ≡ slot_at n x steps) (sym ec) lands;
  passed = λ j lt. subst (λ n. (y : ℕ) × Has v.seen (slot_at n x j) y × (y ≢ x)) (sym ec) (passed j lt);
}

-- once its word is seen, the node is known
pub made : (nodes : TableView) (before : SeatView) (w : View) (x var lo hi k : ℕ) → MayMake nodes before var lo hi → Grows before.view w → Sound w
    → var_of x ≡ var → lo_of x ≡ lo → hi_of x ≡ hi → Has w.seen k x
    → (low high : Tree) → SeatKnows before lo low → SeatKnows before hi high → Knows w (k + 2) (node var low high)
unfolding SeatKnows
made nodes before w x var lo hi k m f s ev el eh h low high kl kh =
    let ul : Knows w lo low = knows_more before.view w f lo low kl in
    let uh : Knows w hi high = knows_more before.view w f hi high kh in
    let sl : m.low ≡ low = one_tree (Has w.seen) s.same lo m.low low (knows_more before.view w f lo m.low m.knows_low) ul in
    let sh : m.high ≡ high = one_tree (Has w.seen) s.same hi m.high high (knows_more before.view w f hi m.high m.knows_high) uh in (
      k,
      x,
      refl,
      h,
      ev,
      subst (λ t. var < top t) sl m.rises_low,
      subst (λ t. var < top t) sh m.rises_high,
      subst (λ n. Knows w n low) (sym el) ul,
      subst (λ n. Knows w n high) (sym eh) uh,
    )

pub first_slot : (c w k : ℕ) → k < c → k ≡ home c w → k ≡ slot_at c w 0
first_slot c w k lt e =
    let same : home c w + 0 ≡ k = omega arith in
    sym (ap (λ n. n % c) same ∙ mod-eq_of_lt lt)

-- the path of a word comes to each slot
reached : (c x k : ℕ) → k < c → (j : ℕ) × (j < c) × (slot_at c x j ≡ k)
reached c w k lt =
    let x : ℕ = home c w in
    let r : ℕ = x % c in let q : ℕ = x / c in
    let split : c * q + r ≡ x = div-add-mod x c in
    let rc : r < c = omega arith in
    elim (dec_lt k r) [
      | yes p ↦ (
        k + c - r,
        omega arith,
        let e : x + (k + c - r) ≡ c * (q + 1) + k = omega arith in
            ap (λ n. n % c) e ∙ mul-add-mod_self_left c (q + 1) k ∙ mod-eq_of_lt lt,
      )
      | no p ↦ (
        k - r,
        omega arith,
        let e : x + (k - r) ≡ c * q + k = omega arith in
            ap (λ n. n % c) e ∙ mul-add-mod_self_left c q k ∙ mod-eq_of_lt lt,
      )
    ]

pub saw_all : (nodes : TableView) (seat : SeatView) (x : ℕ) → ((j : ℕ) → j < nodes.capacity → (y : ℕ) × Has seat.view.seen (slot_at nodes.capacity x j) y × (y ≢ x)) → SawAll nodes seat x
saw_all nodes seat x f k lt = let (j, jc, e) = reached nodes.capacity x k lt in subst (λ n. (y : ℕ) × Has seat.view.seen n y × (y ≢ x)) e (f j jc)

pub next_slot : (c x j k : ℕ) → 0 < c → k ≡ slot_at c x j → k + 1 ≡ c → 0 ≡ slot_at c x (j + 1)
next_slot c w j k pos e f =
    let x : ℕ = home c w in
    let q : ℕ = (x + j) / c in
    let split : c * q + (x + j) % c ≡ x + j = div-add-mod (x + j) c in
    let whole : x + (j + 1) ≡ c * (q + 1) + 0 = omega arith in
    sym (ap (λ n. n % c) whole ∙ mul-add-mod_self_left c (q + 1) 0 ∙ mod-eq_of_lt pos)

pub next_slot_in : (c x j k : ℕ) → 0 < c → k ≡ slot_at c x j → k + 1 ≢ c → k + 1 ≡ slot_at c x (j + 1)
next_slot_in c w j k pos e f =
    let x : ℕ = home c w in
    let q : ℕ = (x + j) / c in
    let split : c * q + (x + j) % c ≡ x + j = div-add-mod (x + j) c in
    let lt : k + 1 < c = omega arith in
    let whole : x + (j + 1) ≡ c * q + (k + 1) = omega arith in
    sym (ap (λ n. n % c) whole ∙ mul-add-mod_self_left c q (k + 1) ∙ mod-eq_of_lt lt)

pub passed_more : (c x step at : ℕ) (v w : View) → Grows v w → ((j : ℕ) → j < step → (y : ℕ) × Has v.seen (slot_at c x j) y × (y ≢ x)) → at ≡ slot_at c x step
    → (y : ℕ) × Has w.seen at y × (y ≢ x) → (j : ℕ) → j < step + 1 → (y : ℕ) × Has w.seen (slot_at c x j) y × (y ≢ x)
passed_more c x step at v w f old e now j lt = elim (dec_lt j step) [
  | yes p ↦ let (y, h, ne) = old j p in (y, f (slot_at c x j) y h, ne)
  | no p ↦ let same : step ≡ j = omega arith in subst (λ n. (y : ℕ) × Has w.seen n y × (y ≢ x)) (e ∙ ap (λ n. slot_at c x n) same) now
]

-- ---- a node is read, and two seats are joined

pub looked_grows : (v w : View) (k n : ℕ) → Looked k v n w → Grows v w
looked_grows v w k n l j x h = elim (ℕ_discrete n 0) [
  | yes e ↦ subst (λ (u : View). Has u.seen j x) (sym (l.0 e)) h
  | no ne ↦ subst (λ (u : View). Has u.seen j x) (sym (l.1 ne)) (inr h)
]

pub opened : (v w : View) (k n : ℕ) → Looked k v n w → (t : Tree) → Knows v (k + 2) t → Has w.seen k n
opened v w k n l never u = absurd (omega arith)
opened v w k n l always u = absurd (omega arith)
opened v w k n l (node x p q) (j, y, e, h, ev, pl, ph, ul, uh) = elim (ℕ_discrete n 0) [
  | yes z ↦ let jk : j ≡ k = omega arith in absurd (l.3 z y (subst (λ i. Has v.seen i y) jk h))
  | no ne ↦ subst (λ (u : View). Has u.seen k n) (sym (l.1 ne)) (inl (refl, refl))
]

pub open_node : (v w : View) (k n : ℕ) → Looked k v n w → (var : ℕ) (low high : Tree) → Knows v (k + 2) (node var low high) → (var_of n ≡ var) × Knows w (lo_of n) low × Knows w (hi_of n) high
open_node v w k n l var low high u =
    let (j, y, e, h, ev, pl, ph, ul, uh) = u in
    let grows = looked_grows v w k n l in
    let jk : j ≡ k = omega arith in
    let there : Has w.seen k n = opened v w k n l (node var low high) u in
    let same : y ≡ n = l.2.same k y n (subst (λ i. Has w.seen i y) jk (grows j y h)) there in (
      sym (ap (λ i. var_of i) same) ∙ ev,
      subst (λ i. Knows w (lo_of i) low) same (knows_more v w grows (lo_of y) low ul),
      subst (λ i. Knows w (hi_of i) high) same (knows_more v w grows (hi_of y) high uh),
    )

-- two seats that have seen the same know the same
pub same_seen : (s t : SeatView) → s.view.seen ≡ t.view.seen → Keeps s t
unfolding SeatKnows
same_seen s t e r q u = subst (λ (l : List (ℕ × ℕ)). Unfolds (Has l) r q) e u
