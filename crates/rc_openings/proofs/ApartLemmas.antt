-- One opening decides.
use Rattle.std.proofs.Common.{◌≡◌, ℕ, suc, zero, ◌<◌, ◌≤◌, ◌⊎◌, inl, inr, Bool, true, false, ◌||◌, not, List, [], ◌∷◌, length, arith, refl, sym, ◌∙◌, ap, subst, eq-eqb}
use borrow.Author.Tests.{ltb-true, ltb-false}
use Rattle.std.proofs.Common.{cond, Option, Some, None}
use Rattle.std.specs.Prelude.{nat_lt}
use Rattle.rc_openings.specs.declared.block.Block.{Block}
use Rattle.rc_openings.specs.declared.block.Block.TheVariants as block
use Rattle.std.specs.Prelude.{Contains, nat_eq}
use Rattle.std.specs.Str.{bytes_eq}
use Rattle.std.specs.List.{list_all}
use Rattle.std.proofs.lemmas.Bool.{and_parts, false≢true}
use Rattle.std.proofs.lemmas.Slice.Eq.{bytes_eq-Decides}
use Rattle.std.specs.Prelude.{codes, slice_index_or}
use Rattle.rc_openings.specs.Apart.{conflict, are_apart}
use Rattle.rc_openings.specs.Opening.{Row, begins_with, stands_for, IsDecisive, NoneFits, IsAnswer, longer, decisive_row}
use Rattle.rc_openings.specs.GlobalOpenings.{global, global_forms, global_refused, global_ignored}
use Rattle.rc_openings.specs.InterfaceOpenings.{interface, interface_forms, interface_refused, interface_ignored}
use Rattle.rc_openings.specs.AccessListOpenings.{access_list, access_list_forms, access_list_refused, access_list_ignored}
use Rattle.rc_openings.specs.RouteMapOpenings.{route_map, route_map_forms, route_map_refused, route_map_ignored}
use Rattle.rc_openings.specs.OspfOpenings.{ospf, ospf_forms, ospf_refused, ospf_ignored}
use Rattle.rc_openings.specs.BgpOpenings.{bgp, bgp_forms, bgp_refused, bgp_ignored}
use Rattle.rc_openings.specs.FamilyOpenings.{ipv4_family, other_family}
use Rattle.rc_openings.specs.Block.{rows_of}
use Rattle.rc_openings.specs.Words.{words_of}

or_cases : (x y : Bool) → (x || y) ≡ true → (x ≡ true) ⊎ (y ≡ true)
or_cases true y h = inl refl
or_cases false y h = inr h

pub or_left : (x y : Bool) → x ≡ true → (x || y) ≡ true
or_left true y h = refl
or_left false y h = absurd (false≢true h)

pub or_right : (x y : Bool) → y ≡ true → (x || y) ≡ true
or_right true y h = refl
or_right false y h = h

-- two tokens that stand for one word don't conflict
meet : (w a b : List ℕ) → stands_for a w ≡ true → stands_for b w ≡ true → (stands_for a b || stands_for b a) ≡ true
meet w a b f g = elim (or_cases (bytes_eq a (codes "*")) (bytes_eq a w) f) [
  | inl star ↦ or_left (stands_for a b) (stands_for b a) (or_left (bytes_eq a (codes "*")) (bytes_eq a b) star)
  | inr same ↦ elim (or_cases (bytes_eq b (codes "*")) (bytes_eq b w) g) [
    | inl star ↦ or_right (stands_for a b) (stands_for b a) (or_left (bytes_eq b (codes "*")) (bytes_eq b a) star)
    | inr other ↦
        let e : a ≡ b = (bytes_eq-Decides a w).0 same ∙ sym ((bytes_eq-Decides b w).0 other) in
        or_left (stands_for a b) (stands_for b a) (or_right (bytes_eq a (codes "*")) (bytes_eq a b) ((bytes_eq-Decides a b).1 e))
  ]
]

pub no_both : (line as' bs : List (List ℕ)) → begins_with line as' ≡ true → begins_with line bs ≡ true → conflict as' bs ≡ true → ⊥
no_both line [] bs f g h = false≢true h
no_both line (a ∷ as') [] f g h = false≢true h
no_both [] (a ∷ as') (b ∷ bs) f g h = false≢true f
no_both (w ∷ ws) (a ∷ as') (b ∷ bs) f g h =
    let p = and_parts (stands_for a w) (begins_with ws as') f in
    let q = and_parts (stands_for b w) (begins_with ws bs) g in
    elim (or_cases (not (stands_for a b || stands_for b a)) (conflict as' bs) h) [
      | inl differ ↦ false≢true (rw (meet w a b p.0 q.0) at differ)
      | inr later ↦ no_both ws as' bs p.1 q.1 later
    ]

-- a fact of each element, at an element
pub at_element : (p : Row → Bool) (rows : List Row) (r : Row) → list_all p rows ≡ true → (k : ℕ) → k < length rows → slice_index_or rows k r ≡ r → p r ≡ true
at_element p [] r h k lt e = absurd (omega arith)
at_element p (x ∷ rows) r h zero lt e = rw e at (and_parts (p x) (list_all p rows) h).0
at_element p (x ∷ rows) r h (suc k) lt e = at_element p rows r (and_parts (p x) (list_all p rows) h).1 k (omega arith) e

clash : (line : List (List ℕ)) (r s : Row) → (not (nat_eq (length r.words) (length s.words)) || conflict r.words s.words) ≡ true → length r.words ≡ length s.words
    → begins_with line r.words ≡ true → begins_with line s.words ≡ true → ⊥
clash line r s h e f g = elim (or_cases (not (nat_eq (length r.words) (length s.words))) (conflict r.words s.words) h) [
  | inl differ ↦ false≢true (rw (eq-eqb (length r.words) (length s.words) e) at differ)
  | inr apart ↦ no_both line r.words s.words f g apart
]

-- two rows with equally many words that fit one line are one row
same_row : (rows : List Row) (line : List (List ℕ)) (r s : Row) → are_apart rows ≡ true → begins_with line r.words ≡ true → begins_with line s.words ≡ true → length r.words ≡ length s.words
    → (k : ℕ) → k < length rows → slice_index_or rows k r ≡ r → (j : ℕ) → j < length rows → slice_index_or rows j s ≡ s → r ≡ s
same_row [] line r s a f g e k lt here j less there = absurd (omega arith)
same_row (x ∷ rows) line r s a f g e zero lt here zero less there = sym here ∙ there
same_row (x ∷ rows) line r s a f g e zero lt here (suc j) less there =
    let test = λ (y z : Row). not (nat_eq (length y.words) (length z.words)) || conflict y.words z.words in
    absurd (clash line r s (subst (λ y. test y s ≡ true) here (at_element (test x) rows s (and_parts (list_all (test x) rows) (are_apart rows) a).0 j (omega arith) there)) e f g)
same_row (x ∷ rows) line r s a f g e (suc k) lt here zero less there =
    let test = λ (y z : Row). not (nat_eq (length y.words) (length z.words)) || conflict y.words z.words in
    absurd (clash line s r (subst (λ y. test y r ≡ true) there (at_element (test x) rows r (and_parts (list_all (test x) rows) (are_apart rows) a).0 k (omega arith) here)) (sym e) g f)
same_row (x ∷ rows) line r s a f g e (suc k) lt here (suc j) less there =
    let test = λ (y z : Row). not (nat_eq (length y.words) (length z.words)) || conflict y.words z.words in
    same_row rows line r s (and_parts (list_all (test x) rows) (are_apart rows) a).1 f g e k (omega arith) here j (omega arith) there

-- one row decides
one_decides : (rows : List Row) (line : List (List ℕ)) (r s : Row) → are_apart rows ≡ true → IsDecisive rows line r → IsDecisive rows line s → r ≡ s
one_decides rows line r s a d f =
    let le : length r.words ≤ length s.words = f.most r d.member d.fits in
    let ge : length s.words ≤ length r.words = d.most s f.member f.fits in
    same_row rows line r s a d.fits f.fits (omega arith) d.member.0 d.member.1 d.member.2 f.member.0 f.member.1 f.member.2

global_apart : are_apart global ≡ true
unfolding global global_forms global_refused global_ignored words_of
global_apart = refl

interface_apart : are_apart interface ≡ true
unfolding interface interface_forms interface_refused interface_ignored words_of
interface_apart = refl

access_lists_apart : are_apart access_list ≡ true
unfolding access_list access_list_forms access_list_refused access_list_ignored words_of
access_lists_apart = refl

route_map_apart : are_apart route_map ≡ true
unfolding route_map route_map_forms route_map_refused route_map_ignored words_of
route_map_apart = refl

ospf_apart : are_apart ospf ≡ true
unfolding ospf ospf_forms ospf_refused ospf_ignored words_of
ospf_apart = refl

bgp_apart : are_apart bgp ≡ true
unfolding bgp bgp_forms bgp_refused bgp_ignored words_of
bgp_apart = refl

ipv4_family_apart : are_apart ipv4_family ≡ true
unfolding ipv4_family bgp bgp_forms bgp_refused bgp_ignored words_of
ipv4_family_apart = refl

other_family_apart : are_apart other_family ≡ true
unfolding other_family words_of
other_family_apart = refl

apart_rows : (kind : Block) → are_apart (rows_of kind) ≡ true
apart_rows block.Closed = refl
apart_rows block.Global = global_apart
apart_rows block.Interface = interface_apart
apart_rows block.AccessList = access_lists_apart
apart_rows block.RouteMap = route_map_apart
apart_rows block.Ospf = ospf_apart
apart_rows block.Bgp = bgp_apart
apart_rows block.Ipv4Family = ipv4_family_apart
apart_rows block.OtherFamily = other_family_apart
apart_rows block.Ignored = refl

pub one_opening_decides : (kind : Block) (line : List (List ℕ)) (r s : Row) → IsDecisive (rows_of kind) line r → IsDecisive (rows_of kind) line s → r ≡ s
one_opening_decides kind line r s = one_decides (rows_of kind) line r s (apart_rows kind)

none_first : (row : Row) (rows : List Row) (line : List (List ℕ)) → begins_with line row.words ≡ false → NoneFits rows line → NoneFits (row ∷ rows) line
none_first row rows line miss none r (zero, lt, here) = subst (λ y. begins_with line y.words ≡ false) here miss
none_first row rows line miss none r (suc k, lt, here) = none r (k, omega arith, here)

-- a row before the others, as long as each of them that fits
first_is : (row best : Row) (rows : List Row) (line : List (List ℕ)) → Contains (row ∷ rows) best → begins_with line best.words ≡ true → (begins_with line row.words ≡ true → length row.words ≤ length best.words)
    → ((other : Row) → Contains rows other → begins_with line other.words ≡ true → length other.words ≤ length best.words) → IsDecisive (row ∷ rows) line best
first_is row best rows line member fits first most = record { member = member; fits = fits; most = all }
  where
    all : (other : Row) → Contains (row ∷ rows) other → begins_with line other.words ≡ true → length other.words ≤ length best.words
    all other (zero, lt, here) ok = subst (λ y. length y.words ≤ length best.words) here (first (subst (λ y. begins_with line y.words ≡ true) (sym here) ok))
    all other (suc k, lt, here) ok = most other (k, omega arith, here) ok

pub later_member : (row : Row) (rows : List Row) (r : Row) → Contains rows r → Contains (row ∷ rows) r
later_member row rows r (k, lt, here) = (suc k, omega arith, here)

-- what the computed row is
pub decisive_row-is : (rows : List Row) (line : List (List ℕ)) → IsAnswer rows line (decisive_row rows line)
unfolding decisive_row
decisive_row-is [] line = λ r h. let lt : h.0 < 0 = h.1 in absurd (omega arith)
decisive_row-is (row ∷ rows) line = by (begins_with line row.words) refl (decisive_row rows line) (decisive_row-is rows line)
  where
    longest : (best : Row) (v : Bool) → nat_lt (length row.words) (length best.words) ≡ v → begins_with line row.words ≡ true → IsDecisive rows line best → IsDecisive (row ∷ rows) line (cond v best row)
    longest best true e fit d =
        let lt : length row.words < length best.words = ltb-true (length row.words) (length best.words) e in
        first_is row best rows line (later_member row rows best d.member) d.fits (λ _. omega arith) d.most
    longest best false e fit d =
        let le : length best.words ≤ length row.words = ltb-false (length row.words) (length best.words) e in
        first_is row row rows line (zero, omega arith, refl) fit (λ _. omega arith) (λ other there ok. let m : length other.words ≤ length best.words = d.most other there ok in omega arith)

    by : (v : Bool) → begins_with line row.words ≡ v → (best : Option Row) → IsAnswer rows line best → IsAnswer (row ∷ rows) line (cond v (Some (longer row best)) best)
    by false e None h = none_first row rows line e h
    by false e (Some best) h = first_is row best rows line (later_member row rows best h.member) h.fits (λ ok. absurd (false≢true (sym e ∙ ok))) h.most
    by true e None h = first_is row row rows line (zero, omega arith, refl) e (λ _. omega arith) (λ other there ok. absurd (false≢true (sym (h other there) ∙ ok)))
    by true e (Some best) h = longest best (nat_lt (length row.words) (length best.words)) refl e h

-- one answer
pub one_answer : (kind : Block) (line : List (List ℕ)) (a b : Option Row) → IsAnswer (rows_of kind) line a → IsAnswer (rows_of kind) line b → a ≡ b
one_answer kind line None None h g = refl
one_answer kind line None (Some s) h g = absurd (false≢true (sym (h s g.member) ∙ g.fits))
one_answer kind line (Some r) None h g = absurd (false≢true (sym (g r h.member) ∙ h.fits))
one_answer kind line (Some r) (Some s) h g = ap Some (one_opening_decides kind line r s h g)

pub answer_is : (kind : Block) (line : List (List ℕ)) (a : Option Row) → IsAnswer (rows_of kind) line a → a ≡ decisive_row (rows_of kind) line
answer_is kind line a h = one_answer kind line a (decisive_row (rows_of kind) line) h (decisive_row-is (rows_of kind) line)
