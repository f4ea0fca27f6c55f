use Rattle.std.proofs.Common.{◌≡◌, ℕ, Bool, true, false, not, List, ◌∷◌, refl, ap, ◌∙◌, sym}
use Rattle.std.specs.Prelude.{codes}
use Rattle.std.specs.Str.{bytes_eq}
use Rattle.rc_gram_bgp.specs.Redistributions.{kinds_in_front, beside, type_2_kinds}
use Rattle.rc_gram_bgp.proofs.redistributions.first_kinds.Goals as goal

of_type_2 : (ws : List (List ℕ)) (w x : List ℕ) (rest : List (List ℕ)) → ws ≡ w ∷ x ∷ rest
    → bytes_eq w (codes "internal") ≡ false → not (bytes_eq w (codes "external")) ≡ false → bytes_eq x (codes "1") ≡ false → bytes_eq x (codes "2") ≡ true
    → kinds_in_front ws ≡ beside type_2_kinds (kinds_in_front rest)
of_type_2 ws w x rest e i other one two = rw (e, i, is_so (bytes_eq w (codes "external")) other, one, two) refl
  where
    is_so : (b : Bool) → not b ≡ false → b ≡ true
    is_so true h = refl
    is_so false h = sym h

pub returns-then-eq-3-clause-kinds : goal.returns-then-eq-3-clause-kinds
returns-then-eq-3-clause-kinds c =
    rw c.type_2_kinds.ensures (of_type_2 _ _ _ _ (c.in-Some.ensures ∙ ap (λ (ws : List (List ℕ)). c.in-Some.word.now ∷ ws) c.in-Some-next_word.ensures)
    (sym (c.eq.ensures ∙ ap (bytes_eq c.in-Some.word.now) c.as_slice.ensures) ∙ c.if-eq.false)
    (sym (c.ne.ensures ∙ ap (λ (t : List ℕ). not (bytes_eq c.in-Some.word.now t)) c.as_slice-2.ensures) ∙ c.if-ne.false)
    (sym (c.eq-2.ensures ∙ ap (bytes_eq c.in-Some-next_word.of_type.now) c.as_slice-3.ensures) ∙ c.if-eq-2.false)
    (sym (c.eq-3.ensures ∙ ap (bytes_eq c.in-Some-next_word.of_type.now) c.as_slice-4.ensures) ∙ c.if-eq-3.true))
