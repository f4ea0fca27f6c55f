-- A seat that saw every slot taken knows a tree for each.
use Rattle.std.proofs.Common.{◌≡◌, ℕ, zero, suc, ◌+◌, ◌<◌, ◌≤◌, ⊎_elim, List, [], ◌∷◌, length, refl, sym, subst, ◌∙◌, arith}
use Rattle.std.proofs.Math.Decide.{ℕ_discrete}
use Rattle.rc_base.specs.Header.{bit_count}
use Rattle.rc_trees.specs.Trees.{Tree, never, always, node, top, IsAmong}
use Rattle.rc_nodes.specs.Words.{IsWord, var_of, lo_of, hi_of}
use Rattle.rc_nodes.specs.Views.{View, Has, Knows, Grows, IsChild, Sound}
use Rattle.rc_nodes.specs.Seats.{TableView, SeatView, IsSeatOf, SeatKnows, MayMake, SawAll, AreDistinct, IsCrowded}
use Rattle.rc_nodes.proofs.Moves.{one_tree, one_ref, same_word}
use Rattle.rc_nodes.proofs.Probe.{knows_more}

-- two references that one seat knows as one tree are equal
pub same_ref : (v : View) → Sound v → (r q : ℕ) (t : Tree) → Knows v r t → Knows v q t → r ≡ q
same_ref v s r q t = one_ref (Has v.seen) (λ k w h. (s.word k w h).0) s.once r q t

pub same_tree : (v : View) → Sound v → (r : ℕ) (t u : Tree) → Knows v r t → Knows v r u → t ≡ u
same_tree v s r t u = one_tree (Has v.seen) s.same r t u

module _ (v : View) (s : Sound v) (f : (k : ℕ) → k < v.capacity → (w : ℕ) × Has v.seen k w) where
  abbrev Grown : ℕ → ℕ → Type 0
  Grown r x = (t : Tree) × Knows v r t × (x < top t)

  constant : (x r : ℕ) → x < bit_count → r < 2 → Grown r x
  constant x r b lt = elim (ℕ_discrete r 0) [ yes e ↦ (never, e, b) | no ne ↦ (always, omega arith, b) ]

  complete : (fuel k w : ℕ) → Has v.seen k w → bit_count ≤ var_of w + fuel → (low : Tree) × (high : Tree) × Knows v (k + 2) (node (var_of w) low high)
  complete zero k w h le = let b = (s.word k w h).1 in absurd (omega arith)
  complete (suc n) k w h le =
      let b = (s.word k w h).1 in
      let child : (r : ℕ) → IsChild v (var_of w) r → Grown r (var_of w) = λ r c. ⊎_elim (λ lt. constant (var_of w) r b lt)
      (λ p. let (j, e, jc, gt) = p in let (y, hy) = f j jc in let up = gt y hy in
      let (low, high, u) = complete n j y hy (omega arith) in
      (node (var_of y) low high, subst (λ i. Knows v i (node (var_of y) low high)) (sym e) u, up)) c in
      let (low, kl, pl) = child (lo_of w) (s.below k w h).0 in
      let (high, kh, ph) = child (hi_of w) (s.below k w h).1 in
      (low, high, (k, w, refl, h, refl, pl, ph, kl, kh))

  pub tree_at : (k : ℕ) → k < v.capacity → (w : ℕ) × (low : Tree) × (high : Tree) × Has v.seen k w × Knows v (k + 2) (node (var_of w) low high)
  tree_at k lt = let (w, h) = f k lt in let (low, high, u) = complete bit_count k w h (omega arith) in (w, low, high, h, u)

  -- the trees of the slots below n
  abbrev Row : ℕ → Type 0
  Row n = (ts : List Tree) × (length ts ≡ n) × AreDistinct ts × ((t : Tree) → IsAmong ts t → (k : ℕ) × (w : ℕ) × (k < n) × Has v.seen k w × Knows v (k + 2) t)

  pub row : (n : ℕ) → n ≤ v.capacity → Row n
  row zero le = ([], refl, tt, λ t h. absurd h)
  row (suc n) le =
      let (ts, e, d, g) = row n (omega arith) in
      let (w, low, high, h, u) = tree_at n (omega arith) in
      let t : Tree = node (var_of w) low high in (
        t ∷ ts,
        omega arith,
        ((λ m. let (k, y, kn, hy, uk) = g t m in let same = same_ref v s (k + 2) (n + 2) t uk u in absurd (omega arith)), d),
        λ z m. ⊎_elim (λ p. (n, w, omega arith, h, subst (λ q. Knows v (n + 2) q) p u)) (λ p. let (k, y, kn, hy, uk) = g z p in (k, y, omega arith, hy, uk)) m,
      )

-- where a reference is known as this node, its word is the node's word
word_known : (v : View) → Sound v → (k w x var : ℕ) (low high : Tree) → Has v.seen k w → Knows v (k + 2) (node var low high) → IsWord x → var_of x ≡ var → Knows v (lo_of x) low → Knows v (hi_of x) high → w ≡ x
word_known v s k w x var low high h (j, y, e, hy, ev, pl, ph, ul, uh) iw xv xl xh =
    let jk : j ≡ k = omega arith in
    let yw : y ≡ w = s.same k y w (subst (λ i. Has v.seen i y) jk hy) h in
    let lo = same_ref v s (lo_of y) (lo_of x) low ul xl in
    let hi = same_ref v s (hi_of y) (hi_of x) high uh xh in
    sym yw ∙ same_word y x (s.word j y hy).0 iw (ev ∙ sym xv) lo hi

pub crowded : (nodes : TableView) (before seat : SeatView) (x var lo hi : ℕ) → IsSeatOf nodes seat → MayMake nodes before var lo hi → Grows before.view seat.view → IsWord x → var_of x ≡ var → lo_of x ≡ lo → hi_of x ≡ hi
    → SawAll nodes seat x → (low high : Tree) → SeatKnows before lo low → SeatKnows before hi high → IsCrowded nodes seat (node var low high)
unfolding SeatKnows
crowded nodes before seat x var lo hi mine m grows iw ev el eh saw low high kl kh =
    let v : View = seat.view in
    let s = mine.sound in
    let cap = mine.capacity in
    let all : (k : ℕ) → k < v.capacity → (w : ℕ) × Has v.seen k w = λ k lt. let (w, h, ne) = saw k (omega arith) in (w, h) in
    let (ts, e, d, g) = row v s all v.capacity (omega arith) in
    let ul : Knows v lo low = knows_more before.view v grows lo low kl in
    let uh : Knows v hi high = knows_more before.view v grows hi high kh in
    let sl : m.low ≡ low = same_tree v s lo m.low low (knows_more before.view v grows lo m.low m.knows_low) ul in
    let sh : m.high ≡ high = same_tree v s hi m.high high (knows_more before.view v grows hi m.high m.knows_high) uh in
    record {
      trees = ts;
      count = e ∙ cap;
      distinct = d;
      known = λ t h. let (k, w, kn, hw, u) = g t h in (k + 2, u);
      allowed = λ t h. let (k, w, kn, hw, u) = g t h in subst (λ l. IsAmong l t) mine.may (s.allowed k w t hw u);
      further = λ h.
          let (k, w, kn, hw, u) = g (node var low high) h in
          let wx : w ≡ x = word_known v s k w x var low high hw u iw ev (subst (λ n. Knows v n low) (sym el) ul) (subst (λ n. Knows v n high) (sym eh) uh) in
          let (y, hy, ne) = saw k (omega arith) in
          ne (s.same k y w hy hw ∙ wx);
      wanted_allowed = subst (λ q. IsAmong nodes.may (node var q high)) sl (subst (λ q. IsAmong nodes.may (node var m.low q)) sh m.allowed);
    }
