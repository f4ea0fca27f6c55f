-- What the rows of a command are after its defaults, by the id that is looked up.
use Rattle.std.proofs.Common.{ap, sym, subst, ◌≡◌, ◌∙◌, Bool, true, false, List, [], ◌∷◌, ◌++◌, refl, Option, Some, None, cond, fold, find, ◌||◌, if◌then◌else◌, true≢false, slice_get}
use Rattle.std.specs.Prelude.{option_map}
use Rattle.std.specs.Str.{bytes_eq}
use Rattle.std.proofs.lemmas.Slice.Eq.{bytes_eq-Decides}
use Rattle.clap.specs.Walk.{Row, Rule, Text, has_row, with_default, default_rows, reading_by, more_values}
use Rattle.clap.specs.declared.parser.matches.ValueSource.TheVariants.{DefaultValue}
use Rattle.rc_words.proofs.PlainWalk.{new_row, same_text_eq}
use Rattle.rc_words.proofs.Rules.{AllOf}

-- the first row with an id
abbrev pub look : Text → List Row → Option Row
look id rows = find (λ r. bytes_eq r.id id) rows

abbrev pub default_row : Rule → Text → Row
default_row a v = record { id = a.id; values = v ∷ []; count = None; source = Some DefaultValue; reading = reading_by a }

abbrev pub defaults_by : Option Text → List Text
defaults_by None = []
defaults_by (Some v) = v ∷ []

-- the rule has one default or none
abbrev pub IsDefaulted : Rule → Type 0
IsDefaulted a = (o : Option Text) × (a.defaults ≡ defaults_by o)

-- what is found of a rule's id after its default, from what was found before
abbrev pub or_default : Rule → Option Row → Option Row
or_default a None = option_map (default_row a) (slice_get a.defaults 0)
or_default a (Some r) = Some r

-- what is found of an id after the defaults of these rules
abbrev pub looked : Text → List Rule → Option Row → Option Row
looked id [] found = found
looked id (a ∷ c) found = looked id c (if bytes_eq a.id id then or_default a found else found)

pub here : (id : Text) (rows : List Row) → has_row id rows ≡ true → (r : Row) × (look id rows ≡ Some r)
here id [] e = absurd (true≢false (sym e))
here id (r ∷ rows) e = elim (bytes_eq r.id id) as (λ b. (b || has_row id rows) ≡ true → (x : Row) × (cond b (Some r) (look id rows) ≡ Some x)) [
  | true ↦ λ _. (r, refl)
  | false ↦ λ h. here id rows h
] e

pub absent : (id : Text) (rows : List Row) → has_row id rows ≡ false → look id rows ≡ None
absent id [] e = refl
absent id (r ∷ rows) e = elim (bytes_eq r.id id) as (λ b. (b || has_row id rows) ≡ false → cond b (Some r) (look id rows) ≡ None) [
  | true ↦ λ h. absurd (true≢false h)
  | false ↦ λ h. absent id rows h
] e

behind : (id : Text) (rows : List Row) (r : Row) → has_row id rows ≡ false → bytes_eq r.id id ≡ true → look id (rows ++ r ∷ []) ≡ Some r
behind id [] r e same = rw same
behind id (x ∷ rows) r e same = elim (bytes_eq x.id id) as (λ b. (b || has_row id rows) ≡ false → cond b (Some x) (look id (rows ++ r ∷ [])) ≡ Some r) [
  | true ↦ λ h. absurd (true≢false h)
  | false ↦ λ h. behind id rows r h same
] e

beside : (id : Text) (rows : List Row) (r : Row) → bytes_eq r.id id ≡ false → look id (rows ++ r ∷ []) ≡ look id rows
beside id [] r other = rw other
beside id (x ∷ rows) r other = ap (cond (bytes_eq x.id id) (Some x)) (beside id rows r other)

-- the default's own id
default_same : (a : Rule) (rows : List Row) → IsDefaulted a → look a.id (with_default rows a) ≡ or_default a (look a.id rows)
default_same a rows (o, is) = go (has_row a.id rows) refl
  where
    put : has_row a.id rows ≡ false → (o : Option Text) → a.defaults ≡ defaults_by o → look a.id (default_rows a.id (reading_by a) a.defaults rows) ≡ option_map (default_row a) (slice_get a.defaults 0)
    put e None is = rw is (absent a.id rows e)
    put e (Some v) is = rw (is, new_row a.id (more_values DefaultValue (v ∷ [])) (default_row a v ∷ []) rows e) (behind a.id rows (default_row a v) e (same_text_eq a.id))

    go : (b : Bool) → has_row a.id rows ≡ b → look a.id (with_default rows a) ≡ or_default a (look a.id rows)
    go true e = let (r, there) = here a.id rows e in rw (e, there)
    go false e = rw (e, absent a.id rows e) (put e o is)

-- another id
default_other : (a : Rule) (id : Text) (rows : List Row) → IsDefaulted a → bytes_eq a.id id ≡ false → look id (with_default rows a) ≡ look id rows
default_other a id rows (o, is) other = go (has_row a.id rows) refl
  where
    put : has_row a.id rows ≡ false → (o : Option Text) → a.defaults ≡ defaults_by o → look id (default_rows a.id (reading_by a) a.defaults rows) ≡ look id rows
    put e None is = rw is
    put e (Some v) is = rw (is, new_row a.id (more_values DefaultValue (v ∷ [])) (default_row a v ∷ []) rows e) (beside id rows (default_row a v) other)

    go : (b : Bool) → has_row a.id rows ≡ b → look id (with_default rows a) ≡ look id rows
    go true e = rw e
    go false e = rw e (put e o is)

default_step : (a : Rule) (id : Text) (rows : List Row) → IsDefaulted a → look id (with_default rows a) ≡ if bytes_eq a.id id then or_default a (look id rows) else look id rows
default_step a id rows d = go (bytes_eq a.id id) refl
  where
    go : (b : Bool) → bytes_eq a.id id ≡ b → look id (with_default rows a) ≡ if bytes_eq a.id id then or_default a (look id rows) else look id rows
    go true e = rw e (subst (λ (x : Text). look x (with_default rows a) ≡ or_default a (look x rows)) ((bytes_eq-Decides a.id id).0 e) (default_same a rows d))
    go false e = rw e (default_other a id rows d e)

pub look_all : (c : List Rule) (id : Text) (rows : List Row) → AllOf IsDefaulted c → look id (fold with_default rows c) ≡ looked id c (look id rows)
look_all [] id rows h = refl
look_all (a ∷ c) id rows h = look_all c id (with_default rows a) h.1 ∙ ap (looked id c) (default_step a id rows h.0)
