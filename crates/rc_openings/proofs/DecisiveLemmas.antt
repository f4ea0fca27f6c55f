-- One more row, and which row is then decisive.
use Rattle.std.proofs.Common.{◌≡◌, ℕ, zero, suc, ◌<◌, ◌≤◌, inl, inr, true, false, ◌&&◌, refl, subst, List, [], ◌∷◌, ◌++◌, append_assoc, ◌+◌, length, map, take, get_or, arith, sym, ap, Option}
use Rattle.std.specs.Prelude.{Contains}
use Rattle.std.proofs.lemmas.List.Elements.{Contains-push_cases, Contains-push, Contains-append_left}
use Rattle.std.specs.List.{list_all}
use Rattle.std.specs.Option.{option_map}
use Rattle.std.proofs.lemmas.Bool.{eqb-true}
use Rattle.std.proofs.lemmas.List.{map_more, get_or-map, length-map}
use Rattle.std.proofs.lemmas.List.Folds.{list_any_at}
use Rattle.rc_openings.specs.declared.opening.Opening.{Opening}
use Rattle.rc_openings.specs.Opening.{row_of, is_form_verdict, begins_form}
use Rattle.rc_openings.specs.Groups.{has_one_word}
use Rattle.rc_openings.specs.Words.{words_of}
use Rattle.rc_openings.proofs.ApartLemmas.{at_element, later_member}
use Rattle.rc_openings.specs.Opening.{Row, begins_with, IsDecisive, NoneFits, IsAnswer}

-- a row that fits and is at least as long as each that fits
pub decisive_more : (rows : List Row) (line : List (List ℕ)) (row : Row) → begins_with line row.words ≡ true
    → ((other : Row) → Contains rows other → begins_with line other.words ≡ true → length other.words ≤ length row.words)
    → IsDecisive (rows ++ row ∷ []) line row
decisive_more rows line row fits most = record {
  member = Contains-push rows row;
  fits = fits;
  most = λ other in' ok. elim (Contains-push_cases rows row other in') [ inl h ↦ most other h ok | inr e ↦ let h : length other.words ≡ length row.words = ap (λ (r : Row). length r.words) (sym e) in omega arith ];
}

-- where none fitted
pub decisive_first : (rows : List Row) (line : List (List ℕ)) (row : Row) → begins_with line row.words ≡ true → NoneFits rows line → IsDecisive (rows ++ row ∷ []) line row
decisive_first rows line row fits none = decisive_more rows line row fits (λ other in' ok. let a = none other in' in absurd (cc))

-- where the decisive one is shorter
pub decisive_longer : (rows : List Row) (line : List (List ℕ)) (row best : Row) → begins_with line row.words ≡ true → IsDecisive rows line best → length best.words < length row.words → IsDecisive (rows ++ row ∷ []) line row
decisive_longer rows line row best fits was lt = decisive_more rows line row fits (λ other in' ok. let a = was.most other in' ok in omega arith)

-- where the decisive one is not shorter, or the row does not fit
pub decisive_kept : (rows : List Row) (line : List (List ℕ)) (row best : Row) → IsDecisive rows line best → length row.words ≤ length best.words → IsDecisive (rows ++ row ∷ []) line best
decisive_kept rows line row best was le = record {
  member = Contains-append_left rows (row ∷ []) best was.member;
  fits = was.fits;
  most = λ other in' ok. elim (Contains-push_cases rows row other in') [ inl h ↦ was.most other h ok | inr e ↦ let h : length other.words ≡ length row.words = ap (λ (r : Row). length r.words) (sym e) in omega arith ];
}

-- a loop's step over the openings
pub answer_more : (rows : List Row) (os : List Opening) (i : ℕ) (d : Opening) (line : List (List ℕ)) (was now : Option Opening) → i < length os
    → IsAnswer (rows ++ map row_of (take i os)) line (option_map row_of was)
    → ((rows : List Row) → IsAnswer rows line (option_map row_of was) → IsAnswer (rows ++ row_of (get_or os i d) ∷ []) line (option_map row_of now))
    → IsAnswer (rows ++ map row_of (take (i + 1) os)) line (option_map row_of now)
answer_more rows os i d line was now lt before step = rw (map_more row_of os i d lt, ← (append_assoc rows (map row_of (take i os)) (row_of (get_or os i d) ∷ []))) (step (rows ++ map row_of (take i os)) before)

-- one more with which the line does not begin
pub none_more : (os : List Opening) (i : ℕ) (d : Opening) (line : List (List ℕ)) → i < length os → begins_with line (words_of (get_or os i d).text.now) ≡ false → NoneFits (map row_of (take i os)) line → NoneFits (map row_of (take (i + 1) os)) line
none_more os i d line lt miss none =
    rw (map_more row_of os i d lt) (λ r there. elim (Contains-push_cases (map row_of (take i os)) (row_of (get_or os i d)) r there) [
      | inl h ↦ none r h
      | inr e ↦ subst (λ (y : Row). begins_with line y.words ≡ false) e miss
    ])

member_at : (os : List Opening) (i : ℕ) (d : Opening) → i < length os → Contains (map row_of os) (row_of (get_or os i d))
member_at [] i d lt = absurd (omega arith)
member_at (o ∷ os) zero d lt = (zero, omega arith, refl)
member_at (o ∷ os) (suc i) d lt = later_member (row_of o) (map row_of os) (row_of (get_or os i d)) (member_at os i d (omega arith))

-- of openings of one word each one that fits is decisive
pub only_one : (os : List Opening) (i : ℕ) (d : Opening) (line : List (List ℕ)) → i < length os → begins_with line (words_of (get_or os i d).text.now) ≡ true → list_all has_one_word (map row_of os) ≡ true
    → IsDecisive (map row_of os) line (row_of (get_or os i d))
only_one os i d line lt fits ones = record {
  member = member_at os i d lt;
  fits = fits;
  most = λ other there ok. let theirs : length other.words ≡ 1 = one_word other there in let its : length (words_of (get_or os i d).text.now) ≡ 1 = one_word (row_of (get_or os i d)) (member_at os i d lt) in omega arith;
}
  where
    one_word : (r : Row) → Contains (map row_of os) r → length r.words ≡ 1
    one_word r there = eqb-true (length r.words) 1 (at_element has_one_word (map row_of os) r ones there.0 there.1 there.2)

-- a form opening that the line begins with settles the answer
pub form_found : (os : List Opening) (i : ℕ) (d : Opening) (line : List (List ℕ)) → i < length os → is_form_verdict (get_or os i d).verdict ≡ true
    → begins_with line (words_of (get_or os i d).text.now) ≡ true → begins_form (map row_of os) line ≡ true
form_found os i d line lt is_form fits =
    let inside : i < length (map row_of os) = simp length-map lt in
    list_any_at (λ r. is_form_verdict r.verdict && begins_with line r.words) (map row_of os) i (row_of d) inside (rw (get_or-map row_of os i d (row_of d) lt, is_form, fits) refl)
