-- What a closed table is left as.
use Rattle.std.proofs.Common.{refl, ◌≡◌, ℕ, zero, suc, ◌+◌, ◌≤◌, false, List, [], ◌∷◌, ◌++◌, length, take, ap, sym, subst, ◌∙◌, arith, Result, Ok, Err, IfOk}
use mathlib.Core.Option.{some}
use lib.ListN.{get_elem?}
use Rattle.atomic_table.specs.Table.{Final, Seen}
use Rattle.rc_nodes.specs.Good.{Good, IsLeft}
use Rattle.rc_nodes.specs.Seats.{TableView, SeatView}
use Rattle.rc_nodes.specs.Views.{Has, StandsAt}
use Rattle.rc_nodes.proofs.Moves.{stands_once}

pub left_over : (nodes : TableView) (seat : SeatView) (id : ℕ) (words : List ℕ) (homes : List (Unit {0})) → Final (Seen (Good nodes.capacity nodes.may) id seat.view) words homes → IsLeft nodes seat words
left_over nodes seat id words homes (s, good, same, rest, others) = record { state = s; good = good.0; words_are = same; number = id; has_view = good.1 }

module _ (nodes : TableView) (seat : SeatView) (words : List ℕ) (left : IsLeft nodes seat words) where
  pub once : (k j w : ℕ) → StandsAt words k w → StandsAt words j w → k ≡ j
  once = subst (λ (ws : List ℕ). (k j w : ℕ) → StandsAt ws k w → StandsAt ws j w → k ≡ j) left.words_are (stands_once nodes.capacity nodes.may left.state left.good)

  pub seen : seat.view.spent ≡ false → (k w : ℕ) → Has seat.view.seen k w → StandsAt words k w
  seen unspent k w has = subst (λ (ws : List ℕ). StandsAt ws k w) left.words_are ((left.good.views left.number seat.view left.has_view unspent).2 k w has)

-- ---- words copied one by one

taken_suc : (xs : List ℕ) (k x : ℕ) → get_elem? xs k ≡ some x → take (suc k) xs ≡ take k xs ++ x ∷ []
taken_suc [] k x e = absurd (cc)
taken_suc (y ∷ ys) zero x e = let same : y ≡ x = cc in ap (λ z. z ∷ []) same
taken_suc (y ∷ ys) (suc k) x e = ap (λ zs. y ∷ zs) (taken_suc ys k x e)

pub taken_more : (xs : List ℕ) (k x : ℕ) → get_elem? xs k ≡ some x → take (k + 1) xs ≡ take k xs ++ x ∷ []
taken_more xs k x e = ap (λ n. take n xs) (let same : k + 1 ≡ suc k = omega arith in same) ∙ taken_suc xs k x e

pub all_taken : (xs : List ℕ) (n : ℕ) → length xs ≤ n → take n xs ≡ xs
all_taken [] zero le = refl
all_taken [] (suc n) le = refl
all_taken (y ∷ ys) zero le = absurd (omega arith)
all_taken (y ∷ ys) (suc n) le = ap (λ zs. y ∷ zs) (all_taken ys n (omega arith))

-- what holds of a list holds of the one that was copied from it
pub copied : {V E : Type 0} (items : V → List ℕ) (P : List ℕ → Type 0) (ws : List ℕ) (r : Result V E) → IfOk r (λ v. items v ≡ ws) → P ws → IfOk r (λ v. P (items v))
copied items P ws (Ok v) same p = subst P (sym same) p
copied items P ws (Err e) same p = tt

pub follows : {V E : Type 0} (P Q : V → Type 0) → ((v : V) → P v → Q v) → (r : Result V E) → IfOk r P → IfOk r Q
follows P Q f (Ok v) p = f v p
follows P Q f (Err e) p = tt
