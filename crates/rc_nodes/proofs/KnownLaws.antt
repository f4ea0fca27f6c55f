-- What a seat knows are reduced trees.
use Rattle.std.proofs.Common.{◌≡◌, ℕ, ◌<◌, ◌≤◌, refl, sym, subst, arith}
use Rattle.rc_base.specs.Header.{bit_count}
use Rattle.rc_trees.specs.Trees.{Tree, never, always, node, top, IsReduced}
use Rattle.rc_nodes.specs.Views.{View, Knows, Sound}
use Rattle.rc_nodes.specs.Words.{lo_of, hi_of}
use Rattle.rc_nodes.specs.Seats.{SeatView, SeatKnows}
use Rattle.rc_nodes.proofs.Crowd.{same_ref, same_tree}

pub knows_never : (seat : SeatView) → SeatKnows seat 0 never
unfolding SeatKnows
knows_never seat = refl

pub knows_always : (seat : SeatView) → SeatKnows seat 1 always
unfolding SeatKnows
knows_always seat = refl

pub known_never : (seat : SeatView) (t : Tree) → SeatKnows seat 0 t → t ≡ never
unfolding SeatKnows
known_never seat never k = refl
known_never seat always k = absurd (omega arith)
known_never seat (node v l h) k = let e = k.2 in absurd (omega arith)

pub known_always : (seat : SeatView) (t : Tree) → SeatKnows seat 1 t → t ≡ always
unfolding SeatKnows
known_always seat never k = absurd (omega arith)
known_always seat always k = refl
known_always seat (node v l h) k = let e = k.2 in absurd (omega arith)

-- a reference from 2 on is known as a node
pub known_node : (seat : SeatView) (r : ℕ) (t : Tree) → 2 ≤ r → SeatKnows seat r t → (v : ℕ) × (l : Tree) × (h : Tree) × (t ≡ node v l h)
unfolding SeatKnows
known_node seat r never two k = absurd (omega arith)
known_node seat r always two k = absurd (omega arith)
known_node seat r (node v l h) two k = (v, l, h, refl)

-- a constant is known by a reference below 2
pub small_tops : (seat : SeatView) (r : ℕ) (t : Tree) → r < 2 → SeatKnows seat r t → bit_count ≡ top t
unfolding SeatKnows
small_tops seat r never two k = refl
small_tops seat r always two k = refl
small_tops seat r (node v l h) two k = let e = k.2 in absurd (omega arith)

pub one_known : (seat : SeatView) → Sound seat.view → (r : ℕ) (s t : Tree) → SeatKnows seat r s → SeatKnows seat r t → s ≡ t
unfolding SeatKnows
one_known seat sound r s t a b = same_tree seat.view sound r s t a b

pub one_known_ref : (seat : SeatView) → Sound seat.view → (r q : ℕ) (t : Tree) → SeatKnows seat r t → SeatKnows seat q t → r ≡ q
unfolding SeatKnows
one_known_ref seat sound r q t a b = same_ref seat.view sound r q t a b

reduced : (v : View) → Sound v → (r : ℕ) (t : Tree) → Knows v r t → IsReduced t
reduced v s r never u = tt
reduced v s r always u = tt
reduced v s r (node x l h) (k, w, e, a, ev, pl, ph, ul, uh) = (
  pl,
  ph,
  (λ same. (s.word k w a).2 (same_ref v s (lo_of w) (hi_of w) l ul (subst (Knows v (hi_of w)) (sym same) uh))),
  reduced v s (lo_of w) l ul,
  reduced v s (hi_of w) h uh,
)

pub known_reduced : (seat : SeatView) → Sound seat.view → (r : ℕ) (t : Tree) → SeatKnows seat r t → IsReduced t
unfolding SeatKnows
known_reduced seat sound r t k = reduced seat.view sound r t k
