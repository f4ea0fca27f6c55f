-- Operations whose result is a constant or one of the two trees.
use Rattle.std.proofs.Common.{◌≡◌, ℕ, sym, ap, subst, ◌∙◌, Bool, ◌&&◌, ◌||◌}
use Rattle.rc_trees.specs.Trees.{Tree, never, always, IsReduced}
use Rattle.rc_nodes.specs.Seats.{SeatView, SeatKnows}
use Rattle.rc_trees.specs.Combine.{combined, and_not}
use Rattle.rc_bdd.specs.Work.{Gives}
use Rattle.rc_trees.proofs.OperationLaws.{and_never, and_never', and_always, and_always', and_same, or_never, or_never', or_always, or_always', or_same, minus_never, minus_never', minus_always, minus_same}
use Rattle.rc_nodes.proofs.KnownLaws.{known_never, known_always, knows_never, knows_always, one_known, known_reduced}

module _ (f : Bool → Bool → Bool) where
  left_never : (u : Tree → Tree) → ((t : Tree) → IsReduced t → combined f never t ≡ u t) → (b r : ℕ) → ((seat : SeatView) (t : Tree) → SeatKnows seat b t → SeatKnows seat r (u t)) → Gives f 0 b r
  left_never u law b r knows seat s t sound ks kt =
      subst (SeatKnows seat r) (sym (ap (λ x. combined f x t) (known_never seat s ks) ∙ law t (known_reduced seat sound b t kt))) (knows seat t kt)

  left_always : (u : Tree → Tree) → ((t : Tree) → IsReduced t → combined f always t ≡ u t) → (b r : ℕ) → ((seat : SeatView) (t : Tree) → SeatKnows seat b t → SeatKnows seat r (u t)) → Gives f 1 b r
  left_always u law b r knows seat s t sound ks kt =
      subst (SeatKnows seat r) (sym (ap (λ x. combined f x t) (known_always seat s ks) ∙ law t (known_reduced seat sound b t kt))) (knows seat t kt)

  right_never : (u : Tree → Tree) → ((t : Tree) → IsReduced t → combined f t never ≡ u t) → (a r : ℕ) → ((seat : SeatView) (t : Tree) → SeatKnows seat a t → SeatKnows seat r (u t)) → Gives f a 0 r
  right_never u law a r knows seat s t sound ks kt =
      subst (SeatKnows seat r) (sym (ap (λ x. combined f s x) (known_never seat t kt) ∙ law s (known_reduced seat sound a s ks))) (knows seat s ks)

  right_always : (u : Tree → Tree) → ((t : Tree) → IsReduced t → combined f t always ≡ u t) → (a r : ℕ) → ((seat : SeatView) (t : Tree) → SeatKnows seat a t → SeatKnows seat r (u t)) → Gives f a 1 r
  right_always u law a r knows seat s t sound ks kt =
      subst (SeatKnows seat r) (sym (ap (λ x. combined f s x) (known_always seat t kt) ∙ law s (known_reduced seat sound a s ks))) (knows seat s ks)

  both_same : (u : Tree → Tree) → ((t : Tree) → IsReduced t → combined f t t ≡ u t) → (a r : ℕ) → ((seat : SeatView) (t : Tree) → SeatKnows seat a t → SeatKnows seat r (u t)) → Gives f a a r
  both_same u law a r knows seat s t sound ks kt =
      subst (SeatKnows seat r) (sym (ap (λ x. combined f s x) (one_known seat sound a t s kt ks) ∙ law s (known_reduced seat sound a s ks))) (knows seat s ks)

same : Tree → Tree
same t = t

stays : (r : ℕ) (seat : SeatView) (t : Tree) → SeatKnows seat r t → SeatKnows seat r t
stays r seat t k = k

false_known : (r : ℕ) (seat : SeatView) (t : Tree) → SeatKnows seat r t → SeatKnows seat 0 never
false_known r seat t k = knows_never seat

true_known : (r : ℕ) (seat : SeatView) (t : Tree) → SeatKnows seat r t → SeatKnows seat 1 always
true_known r seat t k = knows_always seat

on_left : (f : Bool → Bool → Bool) (a n b r : ℕ) → a ≡ n → Gives f n b r → Gives f a b r
on_left f a n b r e g seat s t sound ks kt = g seat s t sound (subst (λ x. SeatKnows seat x s) e ks) kt

on_right : (f : Bool → Bool → Bool) (a b n r : ℕ) → b ≡ n → Gives f a n r → Gives f a b r
on_right f a b n r e g seat s t sound ks kt = g seat s t sound ks (subst (λ x. SeatKnows seat x t) e kt)

pub and_false_left : (a b : ℕ) → a ≡ 0 → Gives ◌&&◌ a b 0
and_false_left a b e = on_left ◌&&◌ a 0 b 0 e (left_never ◌&&◌ (λ _. never) and_never b 0 (false_known b))

pub and_false_right : (a b : ℕ) → b ≡ 0 → Gives ◌&&◌ a b 0
and_false_right a b e = on_right ◌&&◌ a b 0 0 e (right_never ◌&&◌ (λ _. never) and_never' a 0 (false_known a))

pub and_true_left : (a b : ℕ) → a ≡ 1 → Gives ◌&&◌ a b b
and_true_left a b e = on_left ◌&&◌ a 1 b b e (left_always ◌&&◌ (λ t. t) and_always b b (stays b))

pub and_true_right : (a b : ℕ) → b ≡ 1 → Gives ◌&&◌ a b a
and_true_right a b e = on_right ◌&&◌ a b 1 a e (right_always ◌&&◌ (λ t. t) and_always' a a (stays a))

pub and_itself : (a b : ℕ) → a ≡ b → Gives ◌&&◌ a b a
and_itself a b e = on_right ◌&&◌ a b a a (sym e) (both_same ◌&&◌ (λ t. t) and_same a a (stays a))

pub or_true_left : (a b : ℕ) → a ≡ 1 → Gives ◌||◌ a b 1
or_true_left a b e = on_left ◌||◌ a 1 b 1 e (left_always ◌||◌ (λ _. always) or_always b 1 (true_known b))

pub or_true_right : (a b : ℕ) → b ≡ 1 → Gives ◌||◌ a b 1
or_true_right a b e = on_right ◌||◌ a b 1 1 e (right_always ◌||◌ (λ _. always) or_always' a 1 (true_known a))

pub or_false_left : (a b : ℕ) → a ≡ 0 → Gives ◌||◌ a b b
or_false_left a b e = on_left ◌||◌ a 0 b b e (left_never ◌||◌ (λ t. t) or_never b b (stays b))

pub or_false_right : (a b : ℕ) → b ≡ 0 → Gives ◌||◌ a b a
or_false_right a b e = on_right ◌||◌ a b 0 a e (right_never ◌||◌ (λ t. t) or_never' a a (stays a))

pub or_itself : (a b : ℕ) → a ≡ b → Gives ◌||◌ a b a
or_itself a b e = on_right ◌||◌ a b a a (sym e) (both_same ◌||◌ (λ t. t) or_same a a (stays a))

pub minus_false_left : (a b : ℕ) → a ≡ 0 → Gives and_not a b 0
minus_false_left a b e = on_left and_not a 0 b 0 e (left_never and_not (λ _. never) minus_never b 0 (false_known b))

pub minus_true_right : (a b : ℕ) → b ≡ 1 → Gives and_not a b 0
minus_true_right a b e = on_right and_not a b 1 0 e (right_always and_not (λ _. never) minus_always a 0 (false_known a))

pub minus_false_right : (a b : ℕ) → b ≡ 0 → Gives and_not a b a
minus_false_right a b e = on_right and_not a b 0 a e (right_never and_not (λ t. t) minus_never' a a (stays a))

pub minus_itself : (a b : ℕ) → a ≡ b → Gives and_not a b 0
minus_itself a b e = on_right and_not a b a 0 (sym e) (both_same and_not (λ _. never) minus_same a 0 (false_known a))
