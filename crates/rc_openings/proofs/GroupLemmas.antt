-- The openings that a line finds in a table are all with which it begins.
use Rattle.std.proofs.Common.{◌≡◌, ℕ, suc, zero, ◌+◌, ◌-◌, ◌<◌, ◌≤◌, add-one, Bool, true, false, ◌||◌, ◌&&◌, cond, List, [], ◌∷◌, ◌++◌, length, map, take, drop, arith, refl, sym, ◌∙◌, ap, subst, inl, inr, Option, Some, None}
use borrow.Author.Tests.{ltb-true}
use Rattle.std.specs.Prelude.{nat_eq, nat_lt, slice_index_or, Contains}
use Rattle.std.specs.List.{filter, flat_map, list_all, list_any}
use Rattle.std.specs.Str.{bytes_eq}
use Rattle.std.proofs.lemmas.Bool.{and_parts, or_cases, false≢true, eqb-true, ne_eqb}
use Rattle.std.proofs.lemmas.Bool.Decides.{nat_tests}
use Rattle.std.proofs.lemmas.List.{take_at, take-map, drop_at, drop-drop}
use Rattle.std.proofs.lemmas.List.Elements.{All-contains_itself, All-filter, All-contains, Contains-append_left, Contains-append_right, Contains-append_cases}
use Rattle.std.proofs.lemmas.List.Folds.{list_any_at, list_any-append}
use Rattle.rc_openings.specs.declared.table.Index.{Index}
use Rattle.rc_openings.specs.declared.table.Longer.{Longer}
use Rattle.rc_openings.specs.declared.table.Table.{Table}
use Rattle.rc_openings.specs.Groups.{AreLonger, is_one_of, groups, starts_from, is_letter, letters, letters_from, keyed, is_placed, IsIndex, one_word, starred, more_words, is_of_three, IsTable}
use Rattle.rc_openings.specs.Opening.{Row, row_of, stands_for, begins_with, begins_form, is_form_verdict, IsAnswer}
use Rattle.rc_openings.specs.Words.{first_byte, byte_behind}
use Rattle.rc_openings.proofs.ApartLemmas.{at_element}

-- what a filter leaves, and what it keeps
from_filter : (p : Row → Bool) (rows : List Row) (r : Row) → Contains (filter p rows) r → Contains rows r
from_filter p rows r h = All-contains (Contains rows) (filter p rows) r (All-filter p (Contains rows) rows (All-contains_itself rows)) h

behind_first : (x : Row) (rows : List Row) (r : Row) → Contains rows r → Contains (x ∷ rows) r
behind_first x rows r (k, lt, here) = (suc k, omega arith, here)

to_filter : (p : Row → Bool) (rows : List Row) (r : Row) → p r ≡ true → Contains rows r → Contains (filter p rows) r
to_filter p [] r e h = let lt : h.0 < 0 = h.1 in absurd (omega arith)
to_filter p (x ∷ rows) r e (zero, lt, here) = rw (here, e) (zero, omega arith, refl)
to_filter p (x ∷ rows) r e (suc k, lt, here) = by (p x) (to_filter p rows r e (k, omega arith, here))
  where
    by : (v : Bool) → Contains (filter p rows) r → Contains (cond v (x ∷ filter p rows) (filter p rows)) r
    by true h = behind_first x (filter p rows) r h
    by false h = h

-- a byte of an opening that stands for itself is the line's, where the line begins with the opening
first_agrees : (words line : List (List ℕ)) → nat_lt 42 (first_byte words) ≡ true → begins_with line words ≡ true → nat_eq (first_byte words) (first_byte line) ≡ true
first_agrees [] line g h = absurd (false≢true g)
first_agrees ([] ∷ ws) line g h = absurd (false≢true g)
first_agrees ((c ∷ cs) ∷ ws) [] g h = absurd (false≢true h)
first_agrees ((c ∷ cs) ∷ ws) ([] ∷ vs) g h = absurd (false≢true (rw (ne_eqb c 42 (λ e. let lt : 42 < c = ltb-true 42 c g in omega arith)) at h))
first_agrees ((c ∷ cs) ∷ ws) ((d ∷ ds) ∷ vs) g h = same (bytes_eq cs []) (bytes_eq cs ds) (begins_with vs ws) (ne_eqb c 42 (λ e. let lt : 42 < c = ltb-true 42 c g in omega arith)) h
  where
    same : (x y z : Bool) → nat_eq c 42 ≡ false → (((nat_eq c 42 && x) || (nat_eq c d && y)) && z) ≡ true → nat_eq c d ≡ true
    same x y z star h = (and_parts (nat_eq c d) y (and_parts (nat_eq c d && y) z (rw star at h)).0).0

agrees_behind : (count : ℕ) (words line : List (List ℕ)) → nat_lt 42 (byte_behind count words) ≡ true → begins_with line words ≡ true → nat_eq (byte_behind count words) (byte_behind count line) ≡ true
agrees_behind zero words line g h = first_agrees words line g h
agrees_behind (suc n) [] line g h = absurd (false≢true g)
agrees_behind (suc n) (w ∷ ws) [] g h = absurd (false≢true h)
agrees_behind (suc n) (w ∷ ws) (v ∷ vs) g h = agrees_behind n ws vs g (and_parts (stands_for w v) (begins_with vs ws) h).1

-- the group of a line's key has all rows of an index with which the line begins
in_group : (count : ℕ) (rows : List Row) (line : List (List ℕ)) (r : Row) → list_all (is_placed (byte_behind count)) rows ≡ true → Contains rows r → begins_with line r.words ≡ true
    → Contains (keyed (byte_behind count) (byte_behind count line) rows) r
in_group count rows line r placed there fits =
    let key = byte_behind count in
    let own = and_parts (nat_lt 42 (key r.words)) (is_letter (key r.words)) (at_element (is_placed key) rows r placed there.0 there.1 there.2) in
    to_filter (λ x. nat_eq (key x.words) (key line)) rows r (agrees_behind count r.words line own.0 fits) there

-- the rows that a line finds by the word behind so many
abbrev pub group : ℕ → List (List ℕ) → List Row → List Row
group count line rows = keyed (byte_behind count) (byte_behind count line) rows

-- what a line finds in a table
abbrev pub found : List Row → List (List ℕ) → List Row
found rows line = group 0 line (one_word rows) ++ group 2 line (starred rows) ++ group 1 line (more_words rows)

found_in : (rows : List Row) (line : List (List ℕ)) (r : Row) → Contains (found rows line) r → Contains rows r
found_in rows line r h =
    let ones = group 0 line (one_word rows) in
    let stars = group 2 line (starred rows) in
    let more = group 1 line (more_words rows) in
    elim (Contains-append_cases (ones ++ stars) more r h) [
      | inl front ↦ elim (Contains-append_cases ones stars r front) [
        | inl one ↦ from_filter (λ x. nat_eq (byte_behind 1 x.words) 0) rows r (from_filter (λ x. nat_eq (byte_behind 0 x.words) (byte_behind 0 line)) (one_word rows) r one)
        | inr star ↦ from_filter (λ x. nat_eq (byte_behind 1 x.words) 42) rows r (from_filter (λ x. nat_eq (byte_behind 2 x.words) (byte_behind 2 line)) (starred rows) r star)
      ]
      | inr last ↦ from_filter (λ x. nat_lt 42 (byte_behind 1 x.words)) rows r (from_filter (λ x. nat_eq (byte_behind 1 x.words) (byte_behind 1 line)) (more_words rows) r last)
    ]

found_all : (table : Table) (rows : List Row) (line : List (List ℕ)) (r : Row) → IsTable table rows → Contains rows r → begins_with line r.words ≡ true → Contains (found rows line) r
found_all table rows line r h there fits =
    let ones = group 0 line (one_word rows) in
    let stars = group 2 line (starred rows) in
    let more = group 1 line (more_words rows) in
    let b = byte_behind 1 r.words in
    elim (or_cases (nat_eq b 0 || nat_eq b 42) (nat_lt 42 b) (at_element is_of_three rows r h.three there.0 there.1 there.2)) [
      | inl few ↦ elim (or_cases (nat_eq b 0) (nat_eq b 42) few) [
        | inl none ↦
            let one = in_group 0 (one_word rows) line r h.one_word.placed (to_filter (λ x. nat_eq (byte_behind 1 x.words) 0) rows r none there) fits in
            Contains-append_left (ones ++ stars) more r (Contains-append_left ones stars r one)
        | inr star ↦
            let starry = in_group 2 (starred rows) line r h.starred.index.placed (to_filter (λ x. nat_eq (byte_behind 1 x.words) 42) rows r star there) fits in
            Contains-append_left (ones ++ stars) more r (Contains-append_right ones stars r starry)
      ]
      | inr own ↦
          let last = in_group 1 (more_words rows) line r h.more_words.index.placed (to_filter (λ x. nat_lt 42 (byte_behind 1 x.words)) rows r own there) fits in
          Contains-append_right (ones ++ stars) more r last
    ]

-- the decisive row of what the line finds is that of all rows
pub answer_of_found : (table : Table) (rows : List Row) (line : List (List ℕ)) (answer : Option Row) → IsTable table rows → IsAnswer (found rows line) line answer → IsAnswer rows line answer
answer_of_found table rows line None h none = λ r there. by r there (begins_with line r.words) refl
  where
    by : (r : Row) → Contains rows r → (v : Bool) → begins_with line r.words ≡ v → begins_with line r.words ≡ false
    by r there false e = e
    by r there true e = none r (found_all table rows line r h there e)
answer_of_found table rows line (Some best) h was = record {
  member = found_in rows line best was.member;
  fits = was.fits;
  most = λ other there ok. was.most other (found_all table rows line other h there ok) ok;
}

-- where the line begins with no further row, the answer stays
stays : (rows more : List Row) (line : List (List ℕ)) (best : Option Row) → ((r : Row) → Contains more r → begins_with line r.words ≡ true → ⊥) → IsAnswer rows line best → IsAnswer (rows ++ more) line best
stays rows more line None never none = λ r there. by r there (begins_with line r.words) refl
  where
    by : (r : Row) → Contains (rows ++ more) r → (v : Bool) → begins_with line r.words ≡ v → begins_with line r.words ≡ false
    by r there false e = e
    by r there true e = elim (Contains-append_cases rows more r there) [ inl h ↦ none r h | inr h ↦ absurd (never r h e) ]
stays rows more line (Some best) never was = record {
  member = Contains-append_left rows more best was.member;
  fits = was.fits;
  most = λ other there ok. elim (Contains-append_cases rows more other there) [ inl h ↦ was.most other h ok | inr h ↦ absurd (never other h ok) ];
}

pub no_front : (count : ℕ) (longer : Longer) (rows found : List Row) (line : List (List ℕ)) (best : Option Row) → AreLonger count longer rows → is_one_of longer.fronts.now (byte_behind 0 line) ≡ false
    → IsAnswer found line best → IsAnswer (found ++ group count line rows) line best
no_front count longer rows found line best h other was = stays found (group count line rows) line best none was
  where
    none : (r : Row) → Contains (group count line rows) r → begins_with line r.words ≡ true → ⊥
    none r there fits =
        let own = from_filter (λ x. nat_eq (byte_behind count x.words) (byte_behind count line)) rows r there in
        let test = λ (x : Row). nat_lt 42 (byte_behind 0 x.words) && is_one_of longer.fronts.now (byte_behind 0 x.words) in
        let front = and_parts (nat_lt 42 (byte_behind 0 r.words)) (is_one_of longer.fronts.now (byte_behind 0 r.words)) (at_element test rows r h.fronts own.0 own.1 own.2) in
        let same : byte_behind 0 r.words ≡ byte_behind 0 line = eqb-true (byte_behind 0 r.words) (byte_behind 0 line) (first_agrees r.words line front.0 fits) in
        false≢true (sym other ∙ subst (λ b. is_one_of longer.fronts.now b ≡ true) same front.1)

-- what holds of all rows holds of those that a filter leaves
pub all_left : (p q : Row → Bool) (rows : List Row) → list_all p rows ≡ true → list_all p (filter q rows) ≡ true
all_left p q [] h = h
all_left p q (x ∷ rows) h =
    let parts = and_parts (p x) (list_all p rows) h in
    by parts.0 (q x) (all_left p q rows parts.1)
  where
    by : p x ≡ true → (v : Bool) → list_all p (filter q rows) ≡ true → list_all p (cond v (x ∷ filter q rows) (filter q rows)) ≡ true
    by one true e = rw one e
    by one false e = e

-- an element that passes, and a test that some element passes
some_of : (q : Row → Bool) (rows : List Row) → list_any q rows ≡ true → (r : Row) × Contains rows r × (q r ≡ true)
some_of q [] h = absurd (false≢true h)
some_of q (x ∷ rows) h = elim (or_cases (q x) (list_any q rows) h) [
  | inl here ↦ (x, (zero, omega arith, refl), here)
  | inr there ↦ let p = some_of q rows there in (p.0, behind_first x rows p.0 p.1, p.2)
]

any_of : (q : Row → Bool) (rows : List Row) (r : Row) → Contains rows r → q r ≡ true → list_any q rows ≡ true
any_of q rows r (k, lt, here) e = list_any_at q rows k r lt (rw here e)

same_test : (x y : Bool) → (x ≡ true → y ≡ true) → (y ≡ true → x ≡ true) → x ≡ y
same_test true y f g = sym (f refl)
same_test false true f g = g refl
same_test false false f g = refl

-- a form opening that the line finds is one of all rows
pub form_of_found : (table : Table) (rows : List Row) (line : List (List ℕ)) → IsTable table rows
    → (begins_form (group 0 line (one_word rows)) line || begins_form (group 2 line (starred rows)) line || begins_form (group 1 line (more_words rows)) line) ≡ begins_form rows line
form_of_found table rows line h =
    let q = λ (r : Row). is_form_verdict r.verdict && begins_with line r.words in
    let ones = group 0 line (one_word rows) in
    let stars = group 2 line (starred rows) in
    let more = group 1 line (more_words rows) in
    let joined : list_any q (found rows line) ≡ (list_any q ones || list_any q stars || list_any q more) = rw (list_any-append q (ones ++ stars) more, list_any-append q ones stars) refl in
    sym joined ∙ same_test (list_any q (found rows line)) (list_any q rows)
    (λ e. let p = some_of q (found rows line) e in any_of q rows p.0 (found_in rows line p.0 p.1) p.2)
    (λ e. let p = some_of q rows e in any_of q (found rows line) p.0 (found_all table rows line p.0 h p.1 (and_parts (is_form_verdict p.0.verdict) (begins_with line p.0.words) p.2).1) p.2)

-- no row has a key that is no letter
pub none_keyed : (key : List (List ℕ) → ℕ) (rows : List Row) (b : ℕ) → list_all (is_placed key) rows ≡ true → is_letter b ≡ false → keyed key b rows ≡ []
none_keyed key [] b placed other = refl
none_keyed key (row ∷ rows) b placed other =
    let parts = and_parts (is_placed key row) (list_all (is_placed key) rows) placed in
    by (nat_eq (key row.words) b) refl (and_parts (nat_lt 42 (key row.words)) (is_letter (key row.words)) parts.0).1 (none_keyed key rows b parts.1 other)
  where
    by : (v : Bool) → nat_eq (key row.words) b ≡ v → is_letter (key row.words) ≡ true → keyed key b rows ≡ [] → cond v (row ∷ keyed key b rows) (keyed key b rows) ≡ []
    by true e has h = absurd (false≢true (sym other ∙ rw (eqb-true (key row.words) b e) at has))
    by false e has h = h

-- the rows of a letter stand from its start to that of the next one
first_start : {X : Type 0} (n : ℕ) (xss : List (List X)) → slice_index_or (starts_from n xss) 0 0 ≡ n
first_start n [] = refl
first_start n (xs ∷ xss) = refl

start_le : {X : Type 0} (n : ℕ) (xss : List (List X)) (k : ℕ) → k ≤ length xss → n ≤ slice_index_or (starts_from n xss) k 0
start_le n [] zero h = omega arith
start_le n [] (suc k) h = absurd (omega arith)
start_le n (xs ∷ xss) zero h = omega arith
start_le n (xs ∷ xss) (suc k) h =
    let more : n + length xs ≤ slice_index_or (starts_from (n + length xs) xss) k 0 = start_le (n + length xs) xss k (omega arith) in
    omega arith

many_letters : (f : ℕ → List Row) (b m : ℕ) → length (map f (letters_from b m)) ≡ m
many_letters f b zero = refl
many_letters f b (suc m) = ap suc (many_letters f (suc b) m)

part_at : (f : ℕ → List Row) (b m k n : ℕ) → k < m → let start = λ (i : ℕ). slice_index_or (starts_from n (map f (letters_from b m))) i 0 in
    take (start (suc k) - start k) (drop (start k - n) (flat_map (λ rs. rs) (map f (letters_from b m)))) ≡ f (b + k)
part_at f b zero k n lt = absurd (omega arith)
part_at f b (suc m) zero n lt =
    let rest = map f (letters_from (suc b) m) in
    let size : slice_index_or (starts_from (n + length (f b)) rest) 0 0 - n ≡ length (f b) = omega (arith, first_start (n + length (f b)) rest) in
    let none : n - n ≡ 0 = omega arith in
    let here : b + zero ≡ b = omega arith in
    rw (size, none, here) (take_at (f b) (flat_map (λ rs. rs) rest) (length (f b)) refl)
part_at f b (suc m) (suc k) n lt =
    let rest = map f (letters_from (suc b) m) in
    let behind = n + length (f b) in
    let start = slice_index_or (starts_from behind rest) k 0 in
    let low : behind ≤ start = start_le behind rest k (omega (arith, many_letters f (suc b) m)) in
    let far : start - n ≡ length (f b) + (start - behind) = omega arith in
    let past : drop (start - n) (f b ++ flat_map (λ rs. rs) rest) ≡ drop (start - behind) (flat_map (λ rs. rs) rest) =
    ap (λ i. drop i (f b ++ flat_map (λ rs. rs) rest)) far ∙ sym (drop-drop (start - behind) (length (f b)) (f b ++ flat_map (λ rs. rs) rest))
    ∙ ap (drop (start - behind)) (drop_at (f b) (flat_map (λ rs. rs) rest) (length (f b)) refl) in
    let next : b + suc k ≡ suc b + k = omega arith in
    rw (past, next) (part_at f (suc b) m k behind (omega arith))

drop-map : {X Y : Type 0} (f : X → Y) (n : ℕ) (xs : List X) → map f (drop n xs) ≡ drop n (map f xs)
drop-map f zero xs = refl
drop-map f (suc n) [] = refl
drop-map f (suc n) (x ∷ xs) = drop-map f n xs

pub at_letter : (key : List (List ℕ) → ℕ) (index : Index) (rows : List Row) (b : ℕ) → is_letter b ≡ true → IsIndex key index rows → let start = λ (i : ℕ). slice_index_or index.starts.now i 0 in
    map row_of (take (start (b - 65 + 1) - start (b - 65)) (drop (start (b - 65)) index.openings.now)) ≡ keyed key b rows
unfolding letters
at_letter key index rows b e h =
    let low : 65 ≤ b = grind (arith, nat_tests) in
    let k : b - 65 < 58 = grind (arith, nat_tests) in
    let same : 65 + (b - 65) ≡ b = omega arith in
    let start = λ (i : ℕ). slice_index_or (starts_from 0 (groups key rows)) i 0 in
    let parts : take (start (suc (b - 65)) - start (b - 65)) (drop (start (b - 65) - 0) (flat_map (λ rs. rs) (groups key rows))) ≡ keyed key (65 + (b - 65)) rows =
    part_at (λ c. keyed key c rows) 65 58 (b - 65) 0 k in
    let whole : start (b - 65) - 0 ≡ start (b - 65) = omega arith in
    rw (h.starts, ← (take-map row_of (start (b - 65 + 1) - start (b - 65)) (drop (start (b - 65)) index.openings.now)), drop-map row_of (start (b - 65)) index.openings.now, h.openings, add-one)
    (rw (whole, same) at parts)
