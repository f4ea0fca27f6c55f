-- Digits that make too large a number, and the parts of a word between marks.
use Rattle.std.proofs.Common.{◌≡◌, ℕ, ◌+◌, ◌-◌, ◌*◌, ◌<◌, ◌≤◌, Bool, true, false, ltb, cond, List, [], ◌∷◌, length, take, drop, Some, None, refl, sym, subst, arith}
use Rattle.std.specs.Char.{is_ascii_digit}
use Rattle.std.specs.List.{slice_split, position, position_or_len}
use Rattle.std.proofs.lemmas.Bool.Decides.{nat_tests}
use Rattle.std.proofs.lemmas.List.Splits.{slice_split_first, slice_split_none}
use Rattle.std.proofs.lemmas.List.Elements.{All-from_get_or}
use Rattle.std.proofs.lemmas.List.Sums.{fails_before_first}
use Rattle.std.proofs.lemmas.Option.{cond_some}
use Rattle.rc_openings.specs.Values.{digits_from, at_most}

pub too_large : (limit n : ℕ) (ds : List ℕ) → limit < n → at_most limit (digits_from n ds) ≡ None
too_large limit n [] h = grind (arith, nat_tests)
too_large limit n (d ∷ ds) h =
    let more : at_most limit (digits_from (10 * n + (d - 48)) ds) ≡ None = too_large limit (10 * n + (d - 48)) ds (omega arith) in
    elim (is_ascii_digit d) as (λ b. at_most limit (cond b (digits_from (10 * n + (d - 48)) ds) None) ≡ None) [ true ↦ more | false ↦ refl ]

found_at : (a b k : ℕ) → cond (ltb a b) (Some a) None ≡ Some k → (a < b) × (a ≡ k)
found_at a b k h = let e = cond_some (ltb a b) a k h in (grind (arith, nat_tests), e.1)

not_found : (a b : ℕ) → cond (ltb a b) (Some a) None ≡ None → b ≤ a
not_found a b h = grind (arith, nat_tests)

-- the first part ends at the first place that passes
pub parts_some : (p : ℕ → Bool) (bs : List ℕ) (k : ℕ) → Some k ≡ position p bs → slice_split p bs ≡ take k bs ∷ slice_split p (drop (k + 1) bs)
parts_some p bs k h =
    let found = found_at (position_or_len p bs) (length bs) k (sym h) in
    let P : ℕ → Type 0 = λ n. slice_split p bs ≡ take n bs ∷ slice_split p (drop (n + 1) bs) in
    subst P found.1 (slice_split_first p bs 0 found.0)

-- where none passes, the list is the one part
pub parts_none : (p : ℕ → Bool) (bs : List ℕ) → None ≡ position p bs → slice_split p bs ≡ bs ∷ []
parts_none p bs h =
    let all : length bs ≤ position_or_len p bs = not_found _ _ (sym h) in
    slice_split_none p bs (All-from_get_or (λ x. p x ≡ false) bs 0 (λ i lt. fails_before_first p bs i 0 (omega arith)))
