-- A subinterface has its parent's type.
use Rattle.std.proofs.Common.{◌≡◌, ◌∙◌, ap, refl, ℕ, zero, suc, ◌<◌, ◌≤◌, List, [], ◌∷◌, length, Option, Some, None, arith}
use Rattle.std.specs.List.{find}
use Rattle.std.specs.Option.{option_map_or}
use Rattle.rc_base.specs.Name.{same_name}
use Rattle.rc_config.specs.Down.{parent_of, IsSubinterface}
use Rattle.rc_config.specs.IfType.{all_types, front_of, main_name, main_within, type_of, type_word}
use Rattle.rc_config.proofs.DownLaws.{one_parent, parent-is, parent-shorter}

-- no more parents are asked for than a name has bytes
enough : (m n : ℕ) (name : List ℕ) → length name ≤ m → length name ≤ n → main_within m name ≡ main_within n name
enough zero zero name less more = refl
enough zero (suc n) [] less more = refl
enough zero (suc n) (b ∷ name) less more = absurd (omega arith)
enough (suc m) zero [] less more = refl
enough (suc m) zero (b ∷ name) less more = absurd (omega arith)
enough (suc m) (suc n) name less more = by (parent_of name) refl (λ p short. enough m n p (omega arith) (omega arith))
  where
    by : (parent : Option (List ℕ)) → parent_of name ≡ parent → ((p : List ℕ) → length p < length name → main_within m p ≡ main_within n p)
        → option_map_or (main_within m) parent name ≡ option_map_or (main_within n) parent name
    by None is rest = refl
    by (Some p) is rest = rest p (parent-shorter name p (parent-is name p is))

one_main : (n : ℕ) (name p : List ℕ) → length p ≤ n → IsSubinterface name p → main_within (suc n) name ≡ main_name p
one_main n name p long sub = ap (λ parent. option_map_or (main_within n) parent name) (one_parent name p sub) ∙ enough n (length p) p long (omega arith)

main_of_subinterface : (name p : List ℕ) → IsSubinterface name p → main_name name ≡ main_name p
main_of_subinterface [] p sub = (let short = parent-shorter [] p sub in absurd (omega arith))
main_of_subinterface (b ∷ name) p sub = (let short = parent-shorter (b ∷ name) p sub in one_main (length name) (b ∷ name) p (omega arith) sub)

-- `X.n` has the type of X, whether or not X is declared or has a digit in its name
pub type_of_subinterface : (name p : List ℕ) → IsSubinterface name p → type_of name ≡ type_of p
unfolding type_of
type_of_subinterface name p sub = ap (λ main. find (λ t. same_name (type_word t) (front_of main)) all_types) (main_of_subinterface name p sub)
