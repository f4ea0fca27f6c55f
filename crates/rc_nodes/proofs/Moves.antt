-- That each step keeps the rule.
use Rattle.std.proofs.Common.{◌≡◌, ◌≢◌, ℕ, zero, suc, ◌+◌, ◌<◌, ◌⊎◌, inl, inr, ⊎_elim, false, List, [], ◌∷◌, ◌++◌, length, get_or, set, refl, sym, ap, subst, true≢false, ◌∙◌, arith, get_or-set_other, get_or-set_same, eqb, eq-eqb, ne_eqb, length-set}
use mathlib.Core.Option.{some, some-injective, some-ne-none}
use lib.ListN.{get_elem?}
use Rattle.std.proofs.Math.Decide.{dec_lt}
use native.Mathlib.Decide.{ℕ_discrete}
use Rattle.std.proofs.lemmas.List.{get_or_past, set-get_or}
use mathlib.Core.Option.{Option}
use prog.Atomic.{either}
use Rattle.atomic_table.specs.Table.{State, keeps, Allows, Splits, Joins, stepped}
use Rattle.atomic_table.proofs.Lists.{at_longer, at_set, at_snoc, set_else}
use Rattle.rc_trees.specs.Trees.{Tree, never, always, node, top, IsAmong}
use Rattle.rc_nodes.specs.Words.{IsWord, var_of, lo_of, hi_of, slot_at}
use Rattle.rc_nodes.specs.Views.{View, Has, StandsAt, Unfolds, Knows, Grows, IsChild, Sound, fresh, moved, noted, Looked, Claimed, MayWrite, joined, spent_view}
use Rattle.rc_nodes.specs.Good.{Good, IsNode, IsBelow, IsOnPath, Agrees, IsSeen}

pub unfolds_more : (A B : ℕ → ℕ → Type 0) → ((k w : ℕ) → A k w → B k w) → (r : ℕ) (t : Tree) → Unfolds A r t → Unfolds B r t
unfolds_more A B f r never u = u
unfolds_more A B f r always u = u
unfolds_more A B f r (node v l h) (k, w, at, a, e, pl, ph, ul, uh) =
    (k, w, at, f k w a, e, pl, ph, unfolds_more A B f (lo_of w) l ul, unfolds_more A B f (hi_of w) h uh)

abbrev Functional : (ℕ → ℕ → Type 0) → Type 0
Functional A = (k w x : ℕ) → A k w → A k x → w ≡ x

-- a reference gives one tree
pub one_tree : (A : ℕ → ℕ → Type 0) → Functional A → (r : ℕ) (s t : Tree) → Unfolds A r s → Unfolds A r t → s ≡ t
one_tree A f r never never u v = refl
one_tree A f r never always u v = absurd (omega arith)
one_tree A f r never (node x l h) u v = let e = v.2 in absurd (omega arith)
one_tree A f r always never u v = absurd (omega arith)
one_tree A f r always always u v = refl
one_tree A f r always (node x l h) u v = let e = v.2 in absurd (omega arith)
one_tree A f r (node x l h) never u v = let e = u.2 in absurd (omega arith)
one_tree A f r (node x l h) always u v = let e = u.2 in absurd (omega arith)
one_tree A f r (node x l h) (node y m i) (k, w, e, a, ev, pl, ph, ul, uh) (j, z, d, b, dv, ql, qh, vl, vh) =
    let kj : k ≡ j = omega arith in
    let b' : A k z = subst (λ n. A n z) (sym kj) b in
    let wz : w ≡ z = f k w z a b' in
    let vl' : Unfolds A (lo_of w) m = subst (λ n. Unfolds A (lo_of n) m) (sym wz) vl in
    let vh' : Unfolds A (hi_of w) i = subst (λ n. Unfolds A (hi_of n) i) (sym wz) vh in
    let p = one_tree A f (lo_of w) l m ul vl' in
    let q = one_tree A f (hi_of w) h i uh vh' in
    let xy : x ≡ y = sym ev ∙ ap (λ n. var_of n) wz ∙ dv in
    λ t. node (xy t) (p t) (q t)

stands_one : (ws : List ℕ) → Functional (StandsAt ws)
stands_one ws k w x a b = sym a.0 ∙ b.0

-- ---- one reference for each tree

abbrev Once : (ℕ → ℕ → Type 0) → Type 0
Once A = (k j w : ℕ) → A k w → A j w → k ≡ j

pub same_word : (a b : ℕ) → IsWord a → IsWord b → var_of a ≡ var_of b → lo_of a ≡ lo_of b → hi_of a ≡ hi_of b → a ≡ b
same_word a b p q e f g = omega arith

pub one_ref : (A : ℕ → ℕ → Type 0) → ((k w : ℕ) → A k w → IsWord w) → Once A → (r q : ℕ) (t : Tree) → Unfolds A r t → Unfolds A q t → r ≡ q
one_ref A i o r q never u v = u ∙ sym v
one_ref A i o r q always u v = u ∙ sym v
one_ref A i o r q (node x l h) (k, w, e, a, ev, pl, ph, ul, uh) (j, z, d, b, dv, ql, qh, vl, vh) =
    let lo : lo_of w ≡ lo_of z = one_ref A i o (lo_of w) (lo_of z) l ul vl in
    let hi : hi_of w ≡ hi_of z = one_ref A i o (hi_of w) (hi_of z) h uh vh in
    let wz : w ≡ z = same_word w z (i k w a) (i j z b) (ev ∙ sym dv) lo hi in
    let kj : k ≡ j = o k j w a (subst (λ n. A j n) (sym wz) b) in
    omega arith

-- ---- what a good table says of one view

module _ (c : ℕ) (may : List Tree) (s : State (Unit {0}) View) (g : Good c may s) where
  stands_word : (k w : ℕ) → StandsAt s.words k w → IsWord w
  stands_word k w a = (g.nodes k w a).is_word

  pub stands_once : Once (StandsAt s.words)
  stands_once k j w a b =
      let (d, dc, kd, before_k) = g.paths k w a in
      let (e, ec, je, before_j) = g.paths j w b in
      elim (dec_lt d e) [
        | yes p ↦ absurd ((before_j d p).1 (subst (λ n. get_or s.words n 0 ≡ w) kd a.0))
        | no p ↦ elim (dec_lt e d) [
          | yes q ↦ absurd ((before_k e q).1 (subst (λ n. get_or s.words n 0 ≡ w) je b.0))
          | no q ↦ let de : d ≡ e = omega arith in kd ∙ ap (λ n. slot_at c w n) de ∙ sym je
        ]
      ]

  stands_inside : (k w : ℕ) → StandsAt s.words k w → k < c
  stands_inside k w a = elim (dec_lt k c) [ yes p ↦ p | no p ↦ let e = get_or_past s.words k 0 (omega (arith, g.size)) in absurd (a.1 (sym a.0 ∙ e)) ]

  module _ (v : View) (o : v.spent ≡ false) (ag : Agrees c may s.words v) where
    s_node : (k w : ℕ) → Has v.seen k w → IsNode s.words w
    s_node k w h = g.nodes k w ((ag o).2 k w h)

    child : (x r : ℕ) → IsBelow s.words x r → IsChild v x r
    child x r (inl p) = inl p
    child x r (inr (j, y, e, a, lt)) =
        let cap : v.capacity ≡ c = (ag o).0 in let jc : j < c = stands_inside j y a in
        inr (j, e, omega arith, λ b h. let yb : y ≡ b = stands_one s.words j y b a ((ag o).2 j b h) in subst (λ n. x < var_of n) yb lt)

    pub sound : Sound v
    sound = record {
      open_ = o;
      word = λ k w h. let a = (ag o).2 k w h in let n = s_node k w h in let cap : v.capacity ≡ c = (ag o).0 in let i : k < c = stands_inside k w a in
          (n.is_word, n.bit, n.differ, omega arith);
      same = λ k w x p q. stands_one s.words k w x ((ag o).2 k w p) ((ag o).2 k x q);
      once = λ k j w p q. stands_once k j w ((ag o).2 k w p) ((ag o).2 j w q);
      below = λ k w h. let n = s_node k w h in (child (var_of w) (lo_of w) n.lo, child (var_of w) (hi_of w) n.hi);
      allowed = λ k w t h u.
          let (z, uz, among) = g.trees k w ((ag o).2 k w h) in
          let same_tree : z ≡ t = one_tree (StandsAt s.words) (stands_one s.words) (k + 2) z t uz (unfolds_more (Has v.seen) (StandsAt s.words) (ag o).2 (k + 2) t u) in
          subst (λ m. IsAmong m t) (sym (ag o).1) (subst (λ m. IsAmong may m) same_tree among);
    }

-- ---- each word was seen by some seat

set_at : {A : Type 0} (l : List A) (i : ℕ) (a b : A) → get_elem? l i ≡ some b → get_elem? (set l i a) i ≡ some a
set_at [] i a b e = absurd (some-ne-none b (sym e))
set_at (x ∷ xs) zero a b e = refl
set_at (x ∷ xs) (suc i) a b e = set_at xs i a b e

-- a view that takes in more loses no word
seen_set : (views : List View) (id : ℕ) (v w : View) → get_elem? views id ≡ some v → Grows v w → (k x : ℕ) → IsSeen views k x → IsSeen (set views id w) k x
seen_set views id v w at grows k x (j, u, e, h) = elim (ℕ_discrete j id) [
  | yes same ↦
      let uv : u ≡ v = some-injective u v (sym e ∙ ap (λ n. get_elem? views n) same ∙ at) in
      (id, w, set_at views id w v at, grows k x (subst (λ (y : View). Has y.seen k x) uv h))
  | no another ↦ (j, u, set_else views id j w another ∙ e, h)
]

-- nor does a view that is spent, where another one has what it saw
seen_spent : (views : List View) (id other : ℕ) (u w : View) → other ≢ id → get_elem? views id ≡ some u → get_elem? views other ≡ some w → Grows w u → (k x : ℕ) → IsSeen views k x → IsSeen (set views other spent_view) k x
seen_spent views id other u w ne at at_other grows k x (j, y, e, h) = elim (ℕ_discrete j other) [
  | yes same ↦
      let yw : y ≡ w = some-injective y w (sym e ∙ ap (λ n. get_elem? views n) same ∙ at_other) in
      (id, u, set_else views other id spent_view (λ q. ne (sym q)) ∙ at, grows k x (subst (λ (z : View). Has z.seen k x) yw h))
  | no another ↦ (j, y, set_else views other j spent_view another ∙ e, h)
]

-- the one view of a new table has seen no word, so there is none
pub all_unseen : (c : ℕ) (may : List Tree) (k x : ℕ) → ¬ (IsSeen (fresh c may ∷ []) k x)
all_unseen c may k x (zero, v, e, h) = absurd (subst (λ (y : View). Has y.seen k x) (sym (some-injective (fresh c may) v e)) h)
all_unseen c may k x (suc id, v, e, h) = absurd (some-ne-none v (sym e))

-- ---- a load

-- where the words stay, a view may take in what stands there
module _ (c : ℕ) (may : List Tree) (s : State (Unit {0}) View) (g : Good c may s) (id : ℕ) (homes : List (Option (Unit {0}))) where
  same_words : (v : View) → Agrees c may s.words v → ((k x : ℕ) → IsSeen s.views k x → IsSeen (set s.views id v) k x) → Good c may record { words = s.words; homes = homes; views = set s.views id v }
  same_words v ag kept = record {
    size = g.size;
    some_slot = g.some_slot;
    nodes = g.nodes;
    paths = g.paths;
    views = λ j w e. ⊎_elim (λ h. subst (Agrees c may s.words) h.1 ag) (λ h. g.views j w h.1) (at_set s.views id j v w e);
    trees = g.trees;
    seen = λ k x a. kept k x (g.seen k x a);
  }

noted_agrees : (c : ℕ) (may : List Tree) (words : List ℕ) (v : View) (k w : ℕ) → Agrees c may words v → StandsAt words k w → Agrees c may words (noted v k w)
noted_agrees c may words v k w ag a o = let (p, q, f) = ag o in (p, q, λ j x h. ⊎_elim (λ e. subst (λ n. StandsAt words n x) e.0 (subst (λ n. StandsAt words k n) e.1 a)) (f j x) h)

pub looks : (c : ℕ) (may : List Tree) (slots id k : ℕ) (v : View) (cs : List (ℕ × Unit {0})) → v.spent ≡ false → Allows (Good c may) slots id (v, cs) k (λ n. n) (λ n m. (m.1 ≡ cs) × Looked k v n m.0)
looks c may slots id k v cs o s g hl at lt =
    let n : ℕ = get_or s.words k 0 in
    let ag : Agrees c may s.words v = g.views id v at in
    let back : set s.words k n ≡ s.words = set-get_or s.words k 0 in
    let put : (w : View) → Agrees c may s.words w → Grows v w → Good c may (stepped s k n id cs w keeps) =
    λ w aw grows. subst (λ (ws : List ℕ). Good c may record { words = ws; homes = s.homes; views = set s.views id w }) (sym back) (same_words c may s g id s.homes w aw (seen_set s.views id v w at grows)) in
    elim (ℕ_discrete n 0) [
      | yes e ↦ (moved v, keeps, tt, put (moved v) ag (λ _ _ h. h), (refl, ((λ _. refl), (λ ne. absurd (ne e)), sound c may s g (moved v) o ag, (λ _ x h. let a = (ag o).2 k x h in a.1 (sym a.0 ∙ e)))))
      | no ne ↦
          let aw : Agrees c may s.words (noted v k n) = noted_agrees c may s.words v k n ag (refl, ne) in
          (noted v k n, keeps, tt, put (noted v k n) aw (λ _ _ h. inr h), (refl, ((λ e. absurd (ne e)), (λ _. refl), sound c may s g (noted v k n) o aw, (λ e. absurd (ne e)))))
    ]

-- ---- an exchange

module _ (c : ℕ) (may : List Tree) (s : State (Unit {0}) View) (g : Good c may s) (id k x : ℕ) (v : View) (o : v.spent ≡ false) (ag : Agrees c may s.words v) (m : MayWrite v k x) (z : get_or s.words k 0 ≡ 0) (at : get_elem? s.views id ≡ some v) where
  abbrev after : List ℕ
  after = set s.words k x

  not_zero : x ≢ 0
  not_zero e = let f = m.is_word in omega arith

  inside : k < length s.words
  inside = let l = m.lands in let cap = (ag o).0 in let len = g.size in let pos = g.some_slot in
      let cap_pos : 0 < v.capacity = omega arith in let lt : slot_at v.capacity x m.steps < v.capacity = omega arith in omega arith

  kept : (j y : ℕ) → StandsAt s.words j y → StandsAt after j y
  kept j y a = let ne : j ≢ k = λ e. a.1 (sym a.0 ∙ subst (λ n. get_or s.words n 0 ≡ 0) (sym e) z) in
      (get_or-set_other s.words k j x 0 ne ∙ a.0, a.1)

  new : StandsAt after k x
  new = (get_or-set_same s.words k x 0 inside, not_zero)

  either_one : (j y : ℕ) → StandsAt after j y → ((j ≡ k) × (y ≡ x)) ⊎ StandsAt s.words j y
  either_one j y a = elim (ℕ_discrete j k) [
    | yes e ↦ inl (e, sym a.0 ∙ ap (λ n. get_or after n 0) e ∙ new.0)
    | no ne ↦ inr (sym (get_or-set_other s.words k j x 0 ne) ∙ a.0, a.1)
  ]

  below_kept : (u r : ℕ) → IsBelow s.words u r → IsBelow after u r
  below_kept u r (inl p) = inl p
  below_kept u r (inr (j, y, e, a, lt)) = inr (j, y, e, kept j y a, lt)

  node_kept : (y : ℕ) → IsNode s.words y → IsNode after y
  node_kept y n = record { is_word = n.is_word; bit = n.bit; differ = n.differ; lo = below_kept (var_of y) (lo_of y) n.lo; hi = below_kept (var_of y) (hi_of y) n.hi }

  seen_kept : (j y : ℕ) → Has v.seen j y → StandsAt after j y
  seen_kept j y h = kept j y ((ag o).2 j y h)

  known_below : (r : ℕ) (t : Tree) → Knows v r t → var_of x < top t → IsBelow after (var_of x) r
  known_below r never u lt = inl (omega arith)
  known_below r always u lt = inl (omega arith)
  known_below r (node w l h) (j, y, e, a, ev, pl, ph, ul, uh) lt = inr (j, y, e, seen_kept j y a, subst (λ n. var_of x < n) (sym ev) lt)

  node_new : IsNode after x
  node_new = record {
    is_word = m.is_word;
    bit = m.bit;
    differ = m.differ;
    lo = known_below (lo_of x) m.low m.knows_low m.rises_low;
    hi = known_below (hi_of x) m.high m.knows_high m.rises_high;
  }

  path_kept : (j y : ℕ) → IsOnPath c s.words j y → IsOnPath c after j y
  path_kept j y (d, dc, e, f) = (
    d,
    dc,
    e,
    λ i lt.
        let (some_word, another) = f i lt in
        let ne : slot_at c y i ≢ k = λ q. some_word (subst (λ n. get_or s.words n 0 ≡ 0) (sym q) z) in
        let same : get_or after (slot_at c y i) 0 ≡ get_or s.words (slot_at c y i) 0 = get_or-set_other s.words k (slot_at c y i) x 0 ne in
        ((λ q. some_word (sym same ∙ q)), (λ q. another (sym same ∙ q))),
  )

  path_new : IsOnPath c after k x
  path_new = let cap : v.capacity ≡ c = (ag o).0 in (
    m.steps,
    subst (λ n. m.steps < n) cap m.steps_fit,
    subst (λ n. k ≡ slot_at n x m.steps) cap m.lands,
    λ i lt.
        let (y, h, ne) = m.passed i lt in
        let at : StandsAt after (slot_at c x i) y = subst (λ n. StandsAt after (slot_at n x i) y) cap (seen_kept (slot_at v.capacity x i) y h) in
        ((λ q. at.1 (sym at.0 ∙ q)), (λ q. ne (sym at.0 ∙ q))),
  )

  agrees_kept : (w : View) → Agrees c may s.words w → Agrees c may after w
  agrees_kept w f open_ = let (p, q, r) = f open_ in (p, q, λ j y h. kept j y (r j y h))

  agrees_new : Agrees c may after (noted v k x)
  agrees_new = noted_agrees c may after v k x (agrees_kept v ag) new

  tree_new : (t : Tree) × Unfolds (StandsAt after) (k + 2) t × IsAmong may t
  tree_new = (
    node (var_of x) m.low m.high,
    (
      k,
      x,
      refl,
      new,
      refl,
      m.rises_low,
      m.rises_high,
      unfolds_more (Has v.seen) (StandsAt after) seen_kept (lo_of x) m.low m.knows_low,
      unfolds_more (Has v.seen) (StandsAt after) seen_kept (hi_of x) m.high m.knows_high,
    ),
    subst (λ l. IsAmong l (node (var_of x) m.low m.high)) (ag o).1 m.allowed,
  )

  seen_new : IsSeen (set s.views id (noted v k x)) k x
  seen_new = (id, noted v k x, set_at s.views id (noted v k x) v at, inl (refl, refl))

  pub written : (homes : List (Option (Unit {0}))) → Good c may record { words = after; homes = homes; views = set s.views id (noted v k x) }
  written homes = record {
    size = length-set s.words k x ∙ g.size;
    some_slot = g.some_slot;
    nodes = λ j y a. ⊎_elim (λ e. subst (λ n. IsNode after n) (sym e.1) node_new) (λ b. node_kept y (g.nodes j y b)) (either_one j y a);
    paths = λ j y a. ⊎_elim (λ e. subst (λ n. IsOnPath c after n y) (sym e.0) (subst (λ n. IsOnPath c after k n) (sym e.1) path_new)) (λ b. path_kept j y (g.paths j y b)) (either_one j y a);
    views = λ j w e. ⊎_elim (λ h. subst (Agrees c may after) h.1 agrees_new) (λ h. agrees_kept w (g.views j w h.1)) (at_set s.views id j (noted v k x) w e);
    trees = λ j y a. ⊎_elim
        (λ e. subst (λ n. (t : Tree) × Unfolds (StandsAt after) (n + 2) t × IsAmong may t) (sym e.0) tree_new)
        (λ b. let (t, u, among) = g.trees j y b in (t, unfolds_more (StandsAt s.words) (StandsAt after) kept (j + 2) t u, among))
        (either_one j y a);
    seen = λ j y a. ⊎_elim
        (λ e. subst (λ n. IsSeen (set s.views id (noted v k x)) j n) (sym e.1) (subst (λ n. IsSeen (set s.views id (noted v k x)) n x) (sym e.0) seen_new))
        (λ b. seen_set s.views id v (noted v k x) at (λ _ _ h. inr h) j y (g.seen j y b))
        (either_one j y a);
  }

pub claims : (c : ℕ) (may : List Tree) (slots id k x : ℕ) (v : View) (cs : List (ℕ × Unit {0})) → v.spent ≡ false → MayWrite v k x
    → Allows (Good c may) slots id (v, cs) k (λ n. either (eqb n 0) x n) (λ n m. (m.1 ≡ cs) × Claimed k x v n m.0)
claims c may slots id k x v cs o m s g hl at lt =
    let n : ℕ = get_or s.words k 0 in
    let ag : Agrees c may s.words v = g.views id v at in
    let back : set s.words k n ≡ s.words = set-get_or s.words k 0 in
    elim (ℕ_discrete n 0) [
      | yes e ↦
          let good = written c may s g id k x v o ag m e at s.homes in
          let won : either (eqb n 0) x n ≡ x = ap (λ b. either b x n) (eq-eqb n 0 e) in (
            noted v k x,
            keeps,
            tt,
            subst (λ y. Good c may (stepped s k y id cs (noted v k x) keeps)) (sym won) good,
            (refl, ((λ _. refl), (λ ne. absurd (ne e)), sound c may _ good (noted v k x) o (agrees_new c may s g id k x v o ag m e at))),
          )
      | no ne ↦
          let lost : either (eqb n 0) x n ≡ n = ap (λ b. either b x n) (ne_eqb n 0 ne) in
          let aw : Agrees c may s.words (noted v k n) = noted_agrees c may s.words v k n ag (refl, ne) in
          let good : Good c may (stepped s k n id cs (noted v k n) keeps) =
          subst (λ (ws : List ℕ). Good c may record { words = ws; homes = s.homes; views = set s.views id (noted v k n) }) (sym back) (same_words c may s g id s.homes (noted v k n) aw (seen_set s.views id v (noted v k n) at (λ _ _ h. inr h))) in (
            noted v k n,
            keeps,
            tt,
            subst (λ y. Good c may (stepped s k y id cs (noted v k n) keeps)) (sym lost) good,
            (refl, ((λ e. absurd (ne e)), (λ _. refl), sound c may s g (noted v k n) o aw)),
          )
    ]

-- ---- two seats

at_views_snoc : (c : ℕ) (may : List Tree) (ws : List ℕ) (vs : List View) (x : View) → ((j : ℕ) (w : View) → get_elem? vs j ≡ some w → Agrees c may ws w) → Agrees c may ws x → (j : ℕ) (w : View) → get_elem? (vs ++ x ∷ []) j ≡ some w → Agrees c may ws w
at_views_snoc c may ws vs x f ag j w e = ⊎_elim (λ h. f j w h) (λ h. subst (Agrees c may ws) h ag) (at_snoc vs x w j e)

pub splits : (c : ℕ) (may : List Tree) (id : ℕ) (v : View) → Splits (Good c may) id v (moved v) (moved v)
splits c may id v s g at =
    let ag : Agrees c may s.words v = g.views id v at in
    let am : Agrees c may s.words (moved v) = ag in
    let one = same_words c may s g id s.homes (moved v) am (seen_set s.views id v (moved v) at (λ _ _ h. h)) in
    record {
      size = g.size;
      some_slot = g.some_slot;
      nodes = g.nodes;
      paths = g.paths;
      trees = g.trees;
      views = at_views_snoc c may s.words (set s.views id (moved v)) (moved v) one.views am;
      seen = λ k x a. let (j, u, e, h) = one.seen k x a in (j, u, at_longer (set s.views id (moved v)) (moved v ∷ []) j u e, h);
    }

has_either : (xs ys : List (ℕ × ℕ)) (k w : ℕ) → Has (xs ++ ys) k w → Has xs k w ⊎ Has ys k w
has_either [] ys k w h = inr h
has_either (x ∷ xs) ys k w (inl e) = inl (inl e)
has_either (x ∷ xs) ys k w (inr h) = ⊎_elim (λ a. inl (inr a)) inr (has_either xs ys k w h)

pub has_left : (xs ys : List (ℕ × ℕ)) (k w : ℕ) → Has xs k w → Has (xs ++ ys) k w
has_left [] ys k w h = elim h [ ]
has_left (x ∷ xs) ys k w (inl e) = inl e
has_left (x ∷ xs) ys k w (inr h) = inr (has_left xs ys k w h)

pub has_right : (xs ys : List (ℕ × ℕ)) (k w : ℕ) → Has ys k w → Has (xs ++ ys) k w
has_right [] ys k w h = h
has_right (x ∷ xs) ys k w h = inr (has_right xs ys k w h)

pub joins : (c : ℕ) (may : List Tree) (id other : ℕ) (v w : View) → v.spent ≡ false → w.spent ≡ false → Joins (Good c may) id v other w (joined v w) spent_view
joins c may id other v w ov ow s g at ne at_other =
    let av : Agrees c may s.words v = g.views id v at in
    let at_w : get_elem? s.views other ≡ some w = sym (set_else s.views id other (joined v w) (λ e. ne e)) ∙ at_other in
    let aw : Agrees c may s.words w = g.views other w at_w in
    let both : Agrees c may s.words (joined v w) = λ o. ((av ov).0, (av ov).1, λ k y h. ⊎_elim (λ a. (av ov).2 k y a) (λ a. (aw ow).2 k y a) (has_either v.seen w.seen k y h)) in
    let one = same_words c may s g id s.homes (joined v w) both (seen_set s.views id v (joined v w) at (has_left v.seen w.seen)) in
    let views : List View = set s.views id (joined v w) in
    let kept = seen_spent views id other (joined v w) w (λ e. ne e) (set_at s.views id (joined v w) v at) at_other (has_right v.seen w.seen) in
    same_words c may (record { words = s.words; homes = s.homes; views = views }) one other s.homes spent_view (λ e. absurd (true≢false e)) kept
