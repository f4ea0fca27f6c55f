-- Costs in four bytes each.
use Rattle.std.proofs.Common.{refl, ◌≡◌, ap, sym, ◌∙◌, ℕ, suc, zero, ◌+◌, ◌<◌, ◌^◌, Bool, true, false, cond, List, [], ◌∷◌, ◌++◌, map, drop, length, get_or, Option, Some, None, arith, append_assoc}
use Rattle.std.specs.Prelude.{◌==◌}
use Rattle.std.proofs.lemmas.List.{drop_more, map-append}
use Rattle.rc_link_state.specs.Columns.{cost_at, AreSmall}
use Rattle.rc_link_state.specs.Costs.{never, told, code_of}

-- what is at a place
pub at_place : (costs : List (Option ℕ)) (k : ℕ) (d : Option ℕ) → k < length costs → cost_at costs k ≡ get_or costs k d
at_place [] k d lt = absurd (omega (arith, lt))
at_place (o ∷ costs) zero d lt = refl
at_place (o ∷ costs) (suc k) d lt = at_place costs k d (omega (arith, lt))

-- a small cost is told again
told_again : (o : Option ℕ) → ((c : ℕ) → o ≡ Some c → c < 2 ^ 26) → told (code_of o) ≡ o
told_again None small = refl
told_again (Some c) small = by (c == never) refl
  where
    by : (b : Bool) → (c == never) ≡ b → cond b None (Some c) ≡ Some c
    by true is = absurd (let lt : c < 2 ^ 26 = small c refl in let same : c ≡ never = grind (arith, is) in omega (arith, lt, same))
    by false is = refl

-- one cost more is put away
pub put_away : (costs : List (Option ℕ)) (codes new : List ℕ) (i : ℕ) (d : Option ℕ) → AreSmall costs → i < length costs → new ≡ codes ++ code_of (get_or costs i d) ∷ [] →
    map told codes ++ drop i costs ≡ costs → map told new ++ drop (i + 1) costs ≡ costs
put_away costs codes new i d small lt pushed is =
    let o : Option ℕ = get_or costs i d in
    let again : told (code_of o) ≡ o = told_again o (λ c at. small.small i c (at_place costs i d lt ∙ at)) in
    ap (λ l. map told l ++ drop (i + 1) costs) pushed
    ∙ ap (λ l. l ++ drop (i + 1) costs) (map-append told codes (code_of o ∷ []))
    ∙ append_assoc (map told codes) (told (code_of o) ∷ []) (drop (i + 1) costs)
    ∙ ap (λ x. map told codes ++ (x ∷ drop (i + 1) costs)) again
    ∙ ap (λ l. map told codes ++ l) (sym (drop_more costs i d lt))
    ∙ is
