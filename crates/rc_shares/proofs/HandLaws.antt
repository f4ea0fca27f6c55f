-- What hands make of the items that they take.
use Rattle.std.proofs.Common.{◌≡◌, ℕ, ◌+◌, List, [], ◌∷◌, ◌++◌, All, Option, None, Some, MatchOption, IfSome, sym, subst}
use Rattle.std.proofs.lemmas.List.Elements.{All-nil, All-cons}
use Rattle.rc_shares.specs.Hands.{IsHand}
use Rattle.rc_shares.specs.Stretches.{IsStretch}

module _ {X : Type 0} (makes : ℕ → X → Type 0) where
  pub none_taken : IsHand makes []
  unfolding IsHand
  none_taken = tt

  pub one_more : (es : List (ℕ × X)) (item : ℕ) (x : X) → IsHand makes es → makes item x → IsHand makes (es ++ (item, x) ∷ [])
  unfolding IsHand
  one_more [] item x is it = (it, tt)
  one_more (e ∷ es) item x is it = (is.0, one_more es item x is.1 it)

  -- the first element of a hand, and what is left of it
  pub first_taken : (hand left : List (ℕ × X)) (item : ℕ) (x : X) → hand ≡ (item, x) ∷ left → IsHand makes hand → makes item x × IsHand makes left
  unfolding IsHand
  first_taken hand left item x same is = subst (IsHand makes) same is

  -- what is taken of a hand, if something is, and what is left of it
  pub taken : (hand left : List (ℕ × X)) (item : ℕ) (r : Option X) → MatchOption r (left ≡ hand) (λ x. hand ≡ (item, x) ∷ left) → IsHand makes hand → IfSome r (makes item) × IsHand makes left
  taken hand left item None same is = (tt, subst (IsHand makes) (sym same) is)
  taken hand left item (Some x) same is = first_taken hand left item x same is

  -- hands are, whoever they are of
  pub are_hands : (from to : ℕ) (hands : List (List (ℕ × X))) → IsStretch (λ _hand. IsHand makes) from to hands → All (IsHand makes) hands
  unfolding IsStretch
  are_hands from to [] is = All-nil (IsHand makes)
  are_hands from to (hand ∷ hands) is = All-cons (IsHand makes) hand hands is.0 (are_hands (from + 1) to hands is.1)
