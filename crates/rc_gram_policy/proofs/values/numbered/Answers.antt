use Rattle.std.proofs.Common.{◌≡◌, ◌<◌, ℕ, List, [], ◌∷◌, length, None, refl, eqb, arith}
use Rattle.std.specs.List.{slice_split}
use Rattle.std.proofs.lemmas.List.Splits.{length-slice_split}
use Rattle.rc_gram_policy.specs.Values.{community_of_parts}
use Rattle.rc_gram_policy.proofs.values.numbered.Goals as goal

three_parts : (a b : List ℕ) (rest : List (List ℕ)) → 0 < length rest → None ≡ community_of_parts (a ∷ b ∷ rest)
three_parts a b [] h = absurd (omega arith)
three_parts a b (c ∷ rest) h = refl

pub returns-in-Some-before_mark : goal.returns-in-Some-before_mark
returns-in-Some-before_mark c =
    let last = slice_split (λ b. eqb b 58) c.in-Some-before_mark.field-0.1.now in
    let some : 0 < length last = omega (arith, length-slice_split (λ b. eqb b 58) c.in-Some-before_mark.field-0.1.now) in
    rw (c.in-Some.ensures, c.in-Some-before_mark.ensures) (three_parts c.in-Some.upper.now c.in-Some-before_mark.field-0.0.now last some)
