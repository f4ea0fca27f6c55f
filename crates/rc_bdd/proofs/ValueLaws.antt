-- A header's way through a tree.
use Rattle.std.proofs.Common.{◌≡◌, ℕ, ◌+◌, ◌<◌, ◌≤◌, ◌⊎◌, inl, inr, sym, ap, subst, ◌∙◌, arith, Bool, true, false, cond, eqb, eq-eqb, ne_eqb}
use Rattle.rc_base.specs.Header.{bit, bit_count}
use Rattle.rc_base.specs.declared.header.Header.{Header}
use Rattle.rc_trees.specs.Trees.{Tree, never, always, node, top, holds}
use Rattle.rc_nodes.specs.Views.{Sound}
use Rattle.rc_nodes.specs.Seats.{SeatView, SeatKnows}
use Rattle.rc_nodes.specs.declared.words.Node.{Node}
use Rattle.rc_trees.proofs.ReducedLaws.{top-le}
use Rattle.rc_nodes.proofs.KnownLaws.{one_known, known_reduced, known_node}

-- after so many steps a header has come to a tree that tests no variable before, with the value of the whole
pub record IsAt (start now : SeatView) (set at step : ℕ) (h : Header) : Type 0 where
  pub tree : Tree
  pub known : SeatKnows now at tree
  pub above : step ≤ top tree
  pub same : (s : Tree) → SeatKnows start set s → holds tree h ≡ holds s h

pub at_start : (start : SeatView) → Sound start.view → (set : ℕ) (t : Tree) → SeatKnows start set t → (h : Header) → IsAt start start set set 0 h
at_start start sound set t k h = record { tree = t; known = k; above = omega arith; same = λ s ks. ap (λ u. holds u h) (one_known start sound set t s k ks) }

module _ {start now : SeatView} {set at step : ℕ} {h : Header} (w : IsAt start now set at step h) (sound : Sound now.view) where
  pub bit_small : (two : 2 ≤ at) (after : SeatView) (n : Node) → ((v : ℕ) (lo hi : Tree) → SeatKnows now at (node v lo hi) → (n.var ≡ v) × SeatKnows after n.lo.index lo × SeatKnows after n.hi.index hi) → n.var < bit_count
  bit_small two after n opened =
      let (v, lo, hi, e) = known_node now at w.tree two w.known in
      let k = subst (SeatKnows now at) e w.known in
      let r = known_reduced now sound at (node v lo hi) k in
      let is = (opened v lo hi k).0 in
      let a = r.0 in let b = top-le lo r.3 in omega arith

  module _ (two : 2 ≤ at) (after : SeatView) (n : Node) (opened : (v : ℕ) (lo hi : Tree) → SeatKnows now at (node v lo hi) → (n.var ≡ v) × SeatKnows after n.lo.index lo × SeatKnows after n.hi.index hi) where
    pub at_high : (x : Bool) → x ≡ bit h n.var → x ≡ true → IsAt start after set n.hi.index (step + 1) h
    at_high x ex is_one =
        let (v, lo, hi, e) = known_node now at w.tree two w.known in
        let k = subst (SeatKnows now at) e w.known in
        let r = known_reduced now sound at (node v lo hi) k in
        let up : step ≤ v = subst (λ t. step ≤ top t) e w.above in
        let is_bit : bit h v ≡ true = ap (bit h) (sym (opened v lo hi k).0) ∙ sym ex ∙ is_one in
        record {
          tree = hi;
          known = (opened v lo hi k).2;
          above = let a = r.1 in omega arith;
          same = λ s ks. sym (ap (λ b. cond b (holds hi h) (holds lo h)) is_bit) ∙ sym (ap (λ u. holds u h) e) ∙ w.same s ks;
        }

    pub at_low : (x : Bool) → x ≡ bit h n.var → x ≡ false → IsAt start after set n.lo.index (step + 1) h
    at_low x ex is_zero =
        let (v, lo, hi, e) = known_node now at w.tree two w.known in
        let k = subst (SeatKnows now at) e w.known in
        let r = known_reduced now sound at (node v lo hi) k in
        let up : step ≤ v = subst (λ t. step ≤ top t) e w.above in
        let is_bit : bit h v ≡ false = ap (bit h) (sym (opened v lo hi k).0) ∙ sym ex ∙ is_zero in
        record {
          tree = lo;
          known = (opened v lo hi k).1;
          above = let a = r.0 in omega arith;
          same = λ s ks. sym (ap (λ b. cond b (holds hi h) (holds lo h)) is_bit) ∙ sym (ap (λ u. holds u h) e) ∙ w.same s ks;
        }

  ends : (t : Tree) → SeatKnows now at t → ((bit_count ≤ step) ⊎ (at < 2)) → step ≤ top t → eqb at 1 ≡ holds t h
  unfolding SeatKnows
  ends never k stop up = ne_eqb at 1 (λ e. let z : at ≡ 0 = k in absurd (omega arith))
  ends always k stop up = eq-eqb at 1 k
  ends (node v lo hi) k (inl long) up = let r = known_reduced now sound at (node v lo hi) k in let a = r.0 in let b = top-le lo r.3 in absurd (omega arith)
  ends (node v lo hi) k (inr small) up = let e = k.2 in absurd (omega arith)

  pub at_end : ((bit_count ≤ step) ⊎ (at < 2)) → (s : Tree) → SeatKnows start set s → eqb at 1 ≡ holds s h
  at_end stop s ks = ends w.tree w.known stop w.above ∙ w.same s ks
