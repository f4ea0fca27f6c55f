-- With each cube fewer are left.
use Rattle.std.proofs.Common.{refl, ◌≡◌, ap, ◌∙◌, ℕ, zero, suc, ◌+◌, ◌≤◌, ◌<◌, inl, inr, Bool, true, false, List, [], ◌∷◌, length, Some, arith}
use Rattle.std.specs.Prelude.{◌==◌, if◌then◌else◌}
use Rattle.std.proofs.lemmas.Bool.Decides.{nat_tests}
use Rattle.rc_base.specs.Header.{bit_count}
use Rattle.rc_nodes.specs.Seats.{SeatView, SeatKnows}
use Rattle.rc_nodes.specs.Views.{View, Has, Unfolds, Sound}
use Rattle.rc_nodes.specs.Words.{var_of, lo_of, hi_of}
use Rattle.rc_trees.specs.Trees.{Tree, never, always, node, top}
use Rattle.rc_cubes.specs.declared.cube.Cube.{Cube}
use Rattle.rc_cubes.specs.declared.cubes_of.Cubes.{Cubes}
use Rattle.rc_cubes.specs.Cubes.{left, Goes}
use Rattle.rc_cubes.specs.Count.{word_at, tree_of, cubes_left}

same_slot : (a b : ℕ) → a ≡ b → (a == b) ≡ true
same_slot a b e = grind (arith, nat_tests)

slot_is : (a b : ℕ) → (a == b) ≡ true → a ≡ b
slot_is a b e = grind (arith, nat_tests)

-- a slot at which a word was seen has one
has_word : (seen : List (ℕ × ℕ)) (k w : ℕ) → Has seen k w → Has seen k (word_at seen k)
has_word [] k w h = absurd h
has_word (p ∷ seen) k w h = by (p.0 == k) refl h (has_word seen k w)
  where
    by : (b : Bool) → (p.0 == k) ≡ b → Has (p ∷ seen) k w → (Has seen k w → Has seen k (word_at seen k)) → Has (p ∷ seen) k (if b then p.1 else word_at seen k)
    by true is h rest = inl (slot_is p.0 k is, refl)
    by false is (inl e) rest = absurd (let own : (p.0 == k) ≡ true = same_slot p.0 k e.0 in let wrong : ⊥ = cc (own, is) in wrong)
    by false is (inr h) rest = inr (rest h)

module _ (v : View) (s : Sound v) where
  word_is : (k w : ℕ) → Has v.seen k w → word_at v.seen k ≡ w
  word_is k w h = s.same k (word_at v.seen k) w (has_word v.seen k w h) h

  -- the tree that a reference unfolds to is the one over the words
  tree_is : (levels r : ℕ) (t : Tree) → Unfolds (Has v.seen) r t → bit_count + 1 ≤ levels + top t → tree_of levels v.seen r ≡ t
  unfolding tree_of
  tree_is zero r never u enough = absurd (let wrong : ⊥ = omega arith in wrong)
  tree_is zero r always u enough = absurd (let wrong : ⊥ = omega arith in wrong)
  tree_is zero r (node b l h) (k, w, e, at, bit, below_l, below_h, ul, uh) enough =
      let small : var_of w < bit_count = (s.word k w at).1 in
      absurd (let wrong : ⊥ = omega arith in wrong)
  tree_is (suc levels) r never u enough = ap (λ x. tree_of (suc levels) v.seen x) u
  tree_is (suc levels) r always u enough = ap (λ x. tree_of (suc levels) v.seen x) u
  tree_is (suc levels) r (node b l h) (k, w, e, at, bit, below_l, below_h, ul, uh) enough =
      let slot : r ≡ suc (suc k) = omega arith in
      let word : word_at v.seen k ≡ w = word_is k w at in
      let low : tree_of levels v.seen (lo_of w) ≡ l = tree_is levels (lo_of w) l ul (omega arith) in
      let high : tree_of levels v.seen (hi_of w) ≡ h = tree_is levels (hi_of w) h uh (omega arith) in
      ap (λ x. tree_of (suc levels) v.seen x) slot ∙ ap (λ x. node (var_of x) (tree_of levels v.seen (lo_of x)) (tree_of levels v.seen (hi_of x))) word ∙ (λ i. node (bit i) (low i) (high i))

left_is : (seat : SeatView) → Sound seat.view → (cubes : Cubes) (t : Tree) → SeatKnows seat cubes.set.index t → cubes_left seat cubes ≡ length (left cubes.last t)
unfolding cubes_left SeatKnows
left_is seat s cubes t k = ap (λ x. length (left cubes.last x)) (tree_is seat.view s (bit_count + 1) cubes.set.index t k (omega arith))

pub fewer : (before after : SeatView) → Sound before.view → Sound after.view → (old new : Cubes) (t : Tree) → SeatKnows before old.set.index t → SeatKnows after new.set.index t → (c : Cube) → Goes (left old.last t) (Some c) (left new.last t) → cubes_left after new < cubes_left before old
fewer before after s z old new t k j c goes =
    let a : cubes_left before old ≡ length (left old.last t) = left_is before s old t k in
    let b : cubes_left after new ≡ length (left new.last t) = left_is after z new t j in
    let g : length (left old.last t) ≡ suc (length (left new.last t)) = ap length goes in
    omega arith
