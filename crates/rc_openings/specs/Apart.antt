-- Tests over a table: which lines no two of its openings share, and which openings a line with a given front may have.
use Rattle.std.specs.Prelude.{ℕ, Bool, true, false, ◌||◌, ◌&&◌, not, List, [], ◌∷◌, length, nat_eq}
use Rattle.std.specs.List.{list_all, list_any}
use Rattle.rc_openings.specs.declared.form.Form.{Form as FormKind}
use Rattle.rc_openings.specs.declared.opening.Verdict.{Verdict}
use Rattle.rc_openings.specs.declared.opening.Verdict.TheVariants.{Form, Refused, Ignored}
use Rattle.rc_openings.specs.Opening.{Row, stands_for, begins_with}

-- no line begins with both
abbrev pub conflict : List (List ℕ) → List (List ℕ) → Bool
conflict [] bs = false
conflict (a ∷ as') [] = false
conflict (a ∷ as') (b ∷ bs) = not (stands_for a b || stands_for b a) || conflict as' bs

-- no two rows with equally many words fit one line
abbrev pub are_apart : List Row → Bool
are_apart [] = true
are_apart (row ∷ rows) = list_all (λ other. not (nat_eq (length row.words) (length other.words)) || conflict row.words other.words) rows && are_apart rows

-- where it is a form, it is one of these
abbrev pub is_own : (FormKind → Bool) → Verdict → Bool
is_own own (Form f) = own f
is_own own Refused = true
is_own own Ignored = true

-- it is one of these forms
abbrev pub is_form_of : (FormKind → Bool) → Verdict → Bool
is_form_of own (Form f) = own f
is_form_of own Refused = false
is_form_of own Ignored = false

-- each opening of a form with which a line with this front may begin is one of these
abbrev pub front_has : (FormKind → Bool) → List (List ℕ) → List Row → Bool
front_has own front rows = list_all (λ r. conflict front r.words || is_own own r.verdict) rows

-- each opening of these forms begins with one of the fronts
abbrev pub forms_have : (FormKind → Bool) → List (List (List ℕ)) → List Row → Bool
forms_have own fronts rows = list_all (λ r. not (is_form_of own r.verdict) || list_any (begins_with r.words) fronts) rows
