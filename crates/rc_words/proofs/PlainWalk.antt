-- Plain words: options with their values, each once.
use Rattle.std.proofs.Common.{rules, ap, ◌≡◌, ◌∙◌, ℕ, true, false, List, [], ◌∷◌, ◌++◌, refl, Some, None, ◌||◌, if◌then◌else◌, true≢false, fold}
use Rattle.std.specs.Str.{bytes_eq}
use Rattle.clap.specs.Walk.{Held, Row, Rule, Text, idle, option, Walk, action_of, arg_by_id, arg_by_long, arg_by_index, has_row, is_multiple, most_values, reading_by, settled, takes_several, walked, walk_from, nothing_held, without, at_row, more_values}
use Rattle.clap.specs.Faults.{settle_fault, turn_fault, walk_fault}
use Rattle.clap.specs.Takes.{value_passes}
use Rattle.clap.specs.Facts.{unwrap_or_range}
use Rattle.clap.specs.Lexer.{long_of, short_of}
use Rattle.clap.specs.Simple.{Shape}
use Rattle.clap.specs.declared.builder.ArgAction.TheVariants.{Set}
use Rattle.clap.specs.declared.parser.matches.ValueSource.TheVariants.{CommandLine}

-- the option or positional takes one value at a use
pub record IsSingle (c : List Rule) (a : Rule) (v : Text) : Type 0 where
  pub here : arg_by_id c a.id ≡ Some a
  pub set : action_of a ≡ Set
  pub least : (unwrap_or_range a.range).start_inclusive ≡ 1
  pub most : most_values a ≡ 1
  pub passes : value_passes a v ≡ true

abbrev pub row_for : Rule → Text → Row
row_for a v = record { id = a.id; values = v ∷ []; count = None; source = Some CommandLine; reading = reading_by a }

abbrev pub waits : List Row → Rule → Text → Held
waits rows a v = record { rows = rows; pending = Some (a.id, v ∷ []); skip = 0 }

pub new_row : (id : Text) (change : Row → List Row) (missing rows : List Row) → has_row id rows ≡ false → at_row id change missing rows ≡ rows ++ missing
new_row id change missing [] e = refl
new_row id change missing (r ∷ rs) e = elim (bytes_eq r.id id) as (λ b. (b || has_row id rs) ≡ false → (if b then change r ++ rs else r ∷ at_row id change missing rs) ≡ r ∷ (rs ++ missing)) [
  | true ↦ λ h. absurd (true≢false h)
  | false ↦ λ h. ap (λ l. r ∷ l) (new_row id change missing rs h)
] e

pub all_rows : (rows : List Row) → rows ++ [] ≡ rows
all_rows [] = refl
all_rows (r ∷ rs) = ap (λ l. r ∷ l) (all_rows rs)

pub settles : (c : List Rule) (rows : List Row) (a : Rule) (v : Text) → IsSingle c a v → has_row a.id rows ≡ false → settled c (waits rows a v) ≡ record { rows = rows ++ row_for a v ∷ []; pending = None; skip = 0 }
settles c rows a v s e =
    let gone : without a.id rows ≡ rows = new_row a.id (λ _. []) [] rows e ∙ all_rows rows in
    rw (s.here, s.set, gone, new_row a.id (more_values CommandLine (v ∷ [])) (row_for a v ∷ []) rows e)

pub settles_well : (c : List Rule) (rows : List Row) (a : Rule) (v : Text) → IsSingle c a v → has_row a.id rows ≡ false → settle_fault c false (waits rows a v) ≡ []
settles_well c rows a v s e = rw (s.here, s.least, s.most, s.set, e, s.passes)

-- ---- an option and its value

abbrev pub at_rest : List Row → Rule → Text → ℕ → Walk
at_rest rows a v position = record { held = waits rows a v; waiting = idle; position = position; is_trailing = false; stopped = None }

abbrev pub named : List Row → Rule → ℕ → Walk
named rows b position = record { held = record { rows = rows; pending = Some (b.id, []); skip = 0 }; waiting = option b.id; position = position; is_trailing = false; stopped = None }

-- the word `--name` of the option b
pub record IsOptionWord (c : List Rule) (word : Text) (b : Rule) : Type 0 where
  pub name : Text
  pub long : long_of word ≡ Some (name, None)
  pub not_end : bytes_eq word (45 ∷ 45 ∷ []) ≡ false
  pub found : arg_by_long c name ≡ Some b

-- a text that is no flag
pub record IsPlainText (v : Text) : Type 0 where
  pub not_end : bytes_eq v (45 ∷ 45 ∷ []) ≡ false
  pub not_long : long_of v ≡ None
  pub not_short : short_of v ≡ None

pub same_text_eq : (t : Text) → bytes_eq t t ≡ true
same_text_eq t = search rules

pub reads_name : (c : List Rule) (rows : List Row) (a : Rule) (v word : Text) (b : Rule) (u : Text) (position : ℕ) → IsSingle c a v → has_row a.id rows ≡ false → IsOptionWord c word b → IsSingle c b u
    → walked c [] (at_rest rows a v position) word ≡ named (rows ++ row_for a v ∷ []) b position
unfolding walked
reads_name c rows a v word b u position s e w t = rw (w.not_end, w.long, w.found, t.most) (ap (λ (h : Held). record { held = record { rows = h.rows; pending = Some (b.id, []); skip = 0 }; waiting = option b.id; position = position; is_trailing = false; stopped = None }) (settles c rows a v s e))

pub reads_value : (c : List Rule) (rows : List Row) (b : Rule) (u : Text) (position : ℕ) → IsSingle c b u → IsPlainText u → walked c [] (named rows b position) u ≡ at_rest rows b u position
unfolding walked
reads_value c rows b u position t p = rw (p.not_end, p.not_long, p.not_short, t.here, same_text_eq b.id, t.most)

-- ---- the same words find no fault

pub name_fault : (s : Shape) (rows : List Row) (a : Rule) (v word : Text) (b : Rule) (u : Text) (position : ℕ) → s.args_override_self ≡ false → IsSingle s.rules a v → has_row a.id rows ≡ false → IsOptionWord s.rules word b → IsSingle s.rules b u
    → turn_fault s [] (at_rest rows a v position) word ≡ []
name_fault s rows a v word b u position o i e w t = rw (w.not_end, w.long, w.found, t.most, o, settles_well s.rules rows a v i e)

pub value_fault : (s : Shape) (rows : List Row) (b : Rule) (u : Text) (position : ℕ) → IsSingle s.rules b u → IsPlainText u → turn_fault s [] (named rows b position) u ≡ []
value_fault s rows b u position t p = rw (p.not_end, p.not_long, p.not_short)

-- ---- several options

pub record OptionUse : Type 0 where
  pub word : Text
  pub rule : Rule
  pub value : Text

abbrev pub words_of : List OptionUse → List Text
words_of [] = []
words_of (u ∷ us) = u.word ∷ u.value ∷ words_of us

abbrev pub given : List Row → Rule → Text → List OptionUse → List Row
given rows a v [] = rows ++ row_for a v ∷ []
given rows a v (u ∷ us) = given (rows ++ row_for a v ∷ []) u.rule u.value us

-- each argument is used once, and takes its value
abbrev pub AreUsed : List Rule → List Row → Rule → Text → List OptionUse → Type 0
AreUsed c rows a v [] = IsSingle c a v × (has_row a.id rows ≡ false)
AreUsed c rows a v (u ∷ us) = IsSingle c a v × (has_row a.id rows ≡ false) × IsOptionWord c u.word u.rule × IsSingle c u.rule u.value × IsPlainText u.value × AreUsed c (rows ++ row_for a v ∷ []) u.rule u.value us

two_words : (c : List Rule) (rows : List Row) (a : Rule) (v : Text) (u : OptionUse) (position : ℕ) → IsSingle c a v → has_row a.id rows ≡ false → IsOptionWord c u.word u.rule → IsSingle c u.rule u.value → IsPlainText u.value
    → walked c [] (walked c [] (at_rest rows a v position) u.word) u.value ≡ at_rest (rows ++ row_for a v ∷ []) u.rule u.value position
two_words c rows a v u position s e w t p = ap (λ z. walked c [] z u.value) (reads_name c rows a v u.word u.rule u.value position s e w t) ∙ reads_value c (rows ++ row_for a v ∷ []) u.rule u.value position t p

pub walks : (c : List Rule) (rows : List Row) (a : Rule) (v : Text) (us : List OptionUse) (position : ℕ) → AreUsed c rows a v us
    → settled c (fold (walked c []) (at_rest rows a v position) (words_of us)).held ≡ record { rows = given rows a v us; pending = None; skip = 0 }
walks c rows a v [] position (s, e) = settles c rows a v s e
walks c rows a v (u ∷ us) position (s, e, w, t, p, rest) =
    ap (λ z. settled c (fold (walked c []) z (words_of us)).held) (two_words c rows a v u position s e w t p)
    ∙ (walks c (rows ++ row_for a v ∷ []) u.rule u.value us position rest)

pub walks_well : (s : Shape) (rows : List Row) (a : Rule) (v : Text) (us : List OptionUse) (position : ℕ) → s.args_override_self ≡ false → AreUsed s.rules rows a v us
    → walk_fault s [] (at_rest rows a v position) (words_of us) ≡ []
unfolding walk_fault
walks_well s rows a v [] position o h = refl
walks_well s rows a v (u ∷ us) position o (i, e, w, t, p, rest) =
    rw (
      name_fault s rows a v u.word u.rule u.value position o i e w t,
      reads_name s.rules rows a v u.word u.rule u.value position i e w t,
      value_fault s (rows ++ row_for a v ∷ []) u.rule u.value position t p,
      reads_value s.rules (rows ++ row_for a v ∷ []) u.rule u.value position t p,
    )
    (walks_well s (rows ++ row_for a v ∷ []) u.rule u.value us position o rest)

pub ends_well : (c : List Rule) (rows : List Row) (a : Rule) (v : Text) (us : List OptionUse) (position : ℕ) → AreUsed c rows a v us
    → settle_fault c false (fold (walked c []) (at_rest rows a v position) (words_of us)).held ≡ []
ends_well c rows a v [] position (s, e) = settles_well c rows a v s e
ends_well c rows a v (u ∷ us) position (s, e, w, t, p, rest) =
    ap (λ z. settle_fault c false (fold (walked c []) z (words_of us)).held) (two_words c rows a v u position s e w t p)
    ∙ (ends_well c (rows ++ row_for a v ∷ []) u.rule u.value us position rest)

-- ---- the first word

pub record IsFirst (c : List Rule) (a : Rule) (v : Text) : Type 0 where
  pub single : IsSingle c a v
  pub place : arg_by_index c 1 ≡ Some a
  pub one : is_multiple a ≡ false
  pub several : takes_several a ≡ false
  pub trailing : a.trailing_var_arg ≡ false

pub reads_first : (c : List Rule) (a : Rule) (v : Text) → IsFirst c a v → IsPlainText v → walked c [] (walk_from nothing_held) v ≡ at_rest [] a v 2
unfolding walked
reads_first c a v f p = rw (p.not_end, p.not_long, p.not_short, f.place, f.one, f.trailing)

pub first_fault : (s : Shape) (a : Rule) (v : Text) → IsFirst s.rules a v → IsPlainText v → turn_fault s [] (walk_from nothing_held) v ≡ []
first_fault s a v f p = rw (p.not_end, p.not_long, p.not_short, f.place)
