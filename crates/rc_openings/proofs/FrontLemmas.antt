-- Which openings can decide a line with a given front.
use Rattle.std.proofs.Common.{inl, inr, ◌≡◌, true, false, ◌||◌, ◌&&◌, not, List, [], ◌∷◌, ℕ, Bool, refl}
use Rattle.std.specs.Prelude.{codes}
use Rattle.std.specs.List.{list_any}
use Rattle.std.specs.Str.{bytes_eq}
use Rattle.std.proofs.lemmas.Bool.{and_parts, or_cases, false≢true}
use Rattle.std.proofs.lemmas.Slice.Eq.{bytes_eq-Decides}
use Rattle.rc_openings.specs.declared.block.Block.{Block}
use Rattle.rc_openings.specs.declared.form.Form.{Form as FormKind}
use Rattle.rc_openings.specs.Apart.{conflict, is_own, is_form_of, front_has, forms_have}
use Rattle.rc_openings.specs.Block.{rows_of}
use Rattle.rc_openings.specs.Opening.{Row, stands_for, begins_with, IsDecisive}
use Rattle.rc_openings.proofs.ApartLemmas.{at_element, no_both, or_left, or_right}

pub front_decides : (own : FormKind → Bool) (kind : Block) (front line : List (List ℕ)) (row : Row) → front_has own front (rows_of kind) ≡ true → begins_with line front ≡ true → IsDecisive (rows_of kind) line row → is_own own row.verdict ≡ true
front_decides own kind front line row test f d =
    elim (or_cases (conflict front row.words) (is_own own row.verdict) (at_element (λ r. conflict front r.words || is_own own r.verdict) (rows_of kind) row test d.member.0 d.member.1 d.member.2)) [
      | inl clash ↦ absurd (no_both line front row.words f d.fits clash)
      | inr one ↦ one
    ]

-- what stands for a token stands for each word that the token stands for
through : (word token front : List ℕ) → stands_for token word ≡ true → stands_for front token ≡ true → stands_for front word ≡ true
through word token front f g =
    elim (or_cases (bytes_eq front (codes "*")) (bytes_eq front token) g) [
      | inl star ↦ or_left (bytes_eq front (codes "*")) (bytes_eq front word) star
      | inr same ↦ let e : front ≡ token = (bytes_eq-Decides front token).0 same in rw e f
    ]

both : (x y : Bool) → x ≡ true → y ≡ true → (x && y) ≡ true
both true y h g = g
both false y h g = absurd (false≢true h)

-- a line that begins with an opening begins with the opening's front
begins_through : (line words front : List (List ℕ)) → begins_with line words ≡ true → begins_with words front ≡ true → begins_with line front ≡ true
begins_through line words [] f g = refl
begins_through line [] (t ∷ ts) f g = absurd (false≢true g)
begins_through [] (w ∷ ws) (t ∷ ts) f g = absurd (false≢true f)
begins_through (x ∷ xs) (w ∷ ws) (t ∷ ts) f g =
    let p = and_parts (stands_for w x) (begins_with xs ws) f in
    let q = and_parts (stands_for t w) (begins_with ws ts) g in
    both (stands_for t x) (begins_with xs ts) (through x w t p.0 q.0) (begins_through xs ws ts p.1 q.1)

any_through : (line words : List (List ℕ)) (fronts : List (List (List ℕ))) → begins_with line words ≡ true → list_any (begins_with words) fronts ≡ true → list_any (begins_with line) fronts ≡ true
any_through line words [] f g = g
any_through line words (t ∷ ts) f g =
    elim (or_cases (begins_with words t) (list_any (begins_with words) ts) g) [
      | inl here ↦ or_left (begins_with line t) (list_any (begins_with line) ts) (begins_through line words t f here)
      | inr there ↦ or_right (begins_with line t) (list_any (begins_with line) ts) (any_through line words ts f there)
    ]

pub form_has_front : (own : FormKind → Bool) (kind : Block) (fronts : List (List (List ℕ))) (line : List (List ℕ)) (row : Row)
    → forms_have own fronts (rows_of kind) ≡ true → IsDecisive (rows_of kind) line row → is_form_of own row.verdict ≡ true → list_any (begins_with line) fronts ≡ true
form_has_front own kind fronts line row test d is_one =
    elim (or_cases (not (is_form_of own row.verdict)) (list_any (begins_with row.words) fronts) (at_element (λ r. not (is_form_of own r.verdict) || list_any (begins_with r.words) fronts) (rows_of kind) row test d.member.0 d.member.1 d.member.2)) [
      | inl other ↦ absurd (false≢true (rw is_one at other))
      | inr front ↦ any_through line row.words fronts d.fits front
    ]
