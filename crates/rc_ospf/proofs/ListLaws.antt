-- Lists that loops make, one element after another.
use Rattle.std.proofs.Common.{refl, ◌≡◌, ap, sym, ◌∙◌, subst, false, List, [], ◌∷◌, ◌++◌, length, not, Option, Some, None, All, arith, append_assoc}
use Rattle.std.specs.Prelude.{◌==◌}
use Rattle.std.proofs.lemmas.Bool.Decides.{nat_tests}
use Rattle.std.proofs.lemmas.Grind.{common_steps}
use Rattle.std.specs.List.{filter_map, flat_map, cons_option}
use Rattle.std.proofs.lemmas.List.Elements.{All-append}

-- one element more of which P holds
pub all_more : {X : Type 0} (P : X → Type 0) (xs ys : List X) (x : X) → ys ≡ xs ++ x ∷ [] → All P xs → P x → All P ys
all_more P xs ys x is all last = subst (All P) (sym is) (All-append P xs (x ∷ []) all (λ k d less. let first : k ≡ 0 = omega (arith, less) in rw first last))

pub flat_more : {X Y : Type 0} (f : X → List Y) (old new : List Y) (x : X) (rest left : List X) (all : List Y) → left ≡ x ∷ rest → new ≡ old ++ f x → old ++ flat_map f left ≡ all → new ++ flat_map f rest ≡ all
flat_more f old new x rest left all next is so_far = ap (λ l. l ++ flat_map f rest) is ∙ append_assoc old (f x) (flat_map f rest) ∙ ap (λ l. old ++ flat_map f l) (sym next) ∙ so_far

module _ {X Y : Type 0} (f : X → Option Y) (old new : List Y) (x : X) (rest left : List X) (all : List Y) (next : left ≡ x ∷ rest) (so_far : old ++ filter_map f left ≡ all) where
  pub found_more : (y : Y) → f x ≡ Some y → new ≡ old ++ y ∷ [] → new ++ filter_map f rest ≡ all
  found_more y here is =
      ap (λ l. l ++ filter_map f rest) is ∙ append_assoc old (y ∷ []) (filter_map f rest) ∙ ap (λ o. old ++ cons_option o (filter_map f rest)) (sym here) ∙ ap (λ l. old ++ filter_map f l) (sym next) ∙ so_far

  pub none_more : f x ≡ None → new ≡ old → new ++ filter_map f rest ≡ all
  none_more here is = ap (λ l. l ++ filter_map f rest) is ∙ ap (λ o. old ++ cons_option o (filter_map f rest)) (sym here) ∙ ap (λ l. old ++ filter_map f l) (sym next) ∙ so_far

pub empty_of : {X : Type 0} (xs : List X) → not (length xs == 0) ≡ false → xs ≡ []
empty_of [] is = refl
empty_of (x ∷ xs) is = absurd (grind (arith, common_steps, nat_tests))
