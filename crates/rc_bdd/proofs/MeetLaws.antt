-- Two sets have a header in common where their sides at a bit have one.
use Rattle.std.proofs.Common.{◌≡◌, ℕ, ◌≤◌, inl, inr, refl, sym, ap, subst, ◌∙◌, arith, Bool, true, false, not, ◌&&◌, ◌||◌, eqb, eq-eqb, ne_eqb}
use Rattle.rc_trees.specs.Trees.{Tree, never, node, always, same_tree, low_side, high_side}
use Rattle.rc_trees.specs.Combine.{combined, joined}
use Rattle.rc_trees.specs.Parts.{subtrees}
use Rattle.rc_trees.specs.Recipes.{given}
use Rattle.rc_trees.proofs.NodeLaws.{has_recipe}
use Rattle.rc_trees.proofs.OperationLaws.{combined_step}
use Rattle.rc_trees.proofs.SideLaws.{joined_cases}
use Rattle.rc_trees.proofs.TreeLaws.{same_tree-Decides}
use Rattle.rc_nodes.specs.Seats.{TableView, SeatView, SeatKnows}
use Rattle.rc_nodes.specs.Views.{Sound}
use Rattle.rc_nodes.proofs.KnownLaws.{known_never, known_reduced, knows_never}
use Rattle.rc_bdd.specs.Work.{AreSides, IsRight}
use Rattle.rc_bdd.specs.declared.operation.Operation.TheVariants.{And}
use Rattle.rc_bdd.specs.declared.work.Sides.{Sides}
use Rattle.rc_nodes.specs.declared.words.Ref.{Ref}
use Rattle.rc_bdd.proofs.StepLaws.{IsStep, bit}

-- the tree holds some header
abbrev pub is_some : Tree → Bool
is_some t = not (same_tree t never)

-- both sets have some header in common
abbrev pub met : Tree → Tree → Bool
met s t = is_some (combined ◌&&◌ s t)

some_joined : (v : ℕ) (l h : Tree) → is_some (joined v l h) ≡ (is_some l || is_some h)
some_joined v l h = elim (joined_cases v l h) [
  | inl p ↦ ap is_some p.1 ∙ twice (is_some l) ∙ ap (λ t. is_some l || is_some t) p.0
  | inr p ↦ ap is_some p.1 ∙ one (same_tree l never) (same_tree h never) (same_tree-Decides l never).0 (same_tree-Decides h never).0 p.0
]
  where
    twice : (b : Bool) → b ≡ (b || b)
    twice true = refl
    twice false = refl

    one : (a b : Bool) → (a ≡ true → l ≡ never) → (b ≡ true → h ≡ never) → (l ≡ h → ⊥) → true ≡ (not a || not b)
    one false b p q other = refl
    one true false p q other = refl
    one true true p q other = absurd (other (p refl ∙ sym (q refl)))

zero_of : (seat : SeatView) (r : ℕ) → SeatKnows seat r never → r ≡ 0
unfolding SeatKnows
zero_of seat r k = k

one_of : (seat : SeatView) (r : ℕ) → SeatKnows seat r always → r ≡ 1
unfolding SeatKnows
one_of seat r k = k

-- a reference is that of no header exactly where it is known as that
pub some_known : (seat : SeatView) → Sound seat.view → (r : ℕ) (t : Tree) → SeatKnows seat r t → not (eqb r 0) ≡ is_some t
some_known seat sound r never k = ap not (eq-eqb r 0 (zero_of seat r k))
some_known seat sound r always k = ap not (ne_eqb r 0 (λ e. let f = one_of seat r k in absurd (omega arith)))
some_known seat sound r (node v l h) k = ap not (ne_eqb r 0 (λ e. clash (known_never seat (node v l h) (subst (λ n. SeatKnows seat n (node v l h)) e k))))
  where
    clash : node v l h ≡ never → ⊥
    clash e = cc

-- two sets that aren't noted, of which the right one is no constant, and their sides
pub record AreBeside (seat : SeatView) (a b : ℕ) (s t : Tree) (after : SeatView) (sides : Sides) : Type 0 where
  pub sound : Sound seat.view
  pub knows_left : SeatKnows seat a s
  pub knows_right : SeatKnows seat b t
  pub two : 2 ≤ b
  pub at : AreSides after s t sides

-- a table that may make the nodes of the headers in both stands in for one where none is made
abbrev allowing : SeatView → Tree → TableView
allowing seat u = record { table = seat.table; capacity = 0; may = subtrees u }

pub as_step : {seat : SeatView} {a b : ℕ} {s t : Tree} {after : SeatView} {sides : Sides} → AreBeside seat a b s t after sides → IsStep (allowing seat (combined ◌&&◌ s t)) ◌&&◌ seat a b after sides
as_step {seat} {a} {b} {s} {t} w = record {
  sound = w.sound;
  may = record { left = s; right = t; knows_left = w.knows_left; knows_right = w.knows_right; allowed = has_recipe (subtrees (combined ◌&&◌ s t)) (given (combined ◌&&◌ s t)) (λ x there is. there) };
  two = w.two;
  at = w.at;
}

-- they meet where their sides do
pub by_sides : {seat : SeatView} {a b : ℕ} {s t : Tree} {after : SeatView} {sides : Sides} → AreBeside seat a b s t after sides → met s t ≡ (met (low_side sides.var s) (low_side sides.var t) || met (high_side sides.var s) (high_side sides.var t))
by_sides {seat} {a} {b} {s} {t} {after} {sides} w =
    let v : ℕ = sides.var in
    let is = w.at.var in
    ap is_some (combined_step ◌&&◌ v s t (known_reduced seat w.sound a s w.knows_left) (known_reduced seat w.sound b t w.knows_right) (bit (as_step w)) (omega arith) (omega arith))
    ∙ some_joined v (combined ◌&&◌ (low_side v s) (low_side v t)) (combined ◌&&◌ (high_side v s) (high_side v t))

pub nothing_met : (t : Tree) → is_some t ≡ false → t ≡ never
nothing_met t none = (same_tree-Decides t never).0 (by (same_tree t never) none)
  where
    by : (b : Bool) → not b ≡ false → b ≡ true
    by true e = refl
    by false e = absurd (let f : true ≡ false = e in cc)

-- what is noted of two sets that have no header in common
pub apart_note : (seat : SeatView) (left right : Ref) (s t : Tree) → SeatKnows seat left.index s → SeatKnows seat right.index t → met s t ≡ false → IsRight seat (record { operation = And; left = left; right = right; result = record { index = 0 } })
apart_note seat left right s t ks kt none = record { left = s; right = t; knows_left = ks; knows_right = kt; knows_result = subst (SeatKnows seat 0) (sym (nothing_met (combined ◌&&◌ s t) none)) (knows_never seat) }
