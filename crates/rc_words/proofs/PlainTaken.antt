-- Plain words of a command have no fault, and clap finds their values.
use Rattle.std.proofs.Common.{ap, ap₂, ◌≡◌, ◌∙◌, true, false, List, [], ◌∷◌, ◌++◌, refl, Option, Some, None, fold, is_some, not, ◌||◌, if◌then◌else◌}
use Rattle.std.specs.List.{list_any}
use Rattle.clap.specs.Takes.{is_given, value_passes}
use Rattle.clap.specs.Walk.{Held, Names, Row, Rule, Text, Walk, walked, walk, walk_from, nothing_held, finished, settled, with_default, has_row, is_empty}
use Rattle.clap.specs.Faults.{settle_fault, walk_fault, level_fault, entered_fault, check_fault, defaults_fault, default_fault, given_default_fault}
use Rattle.clap.specs.Kinds.{check_kinds, or_else, Kinds}
use Rattle.clap.specs.Simple.{Shape, names_of, entered, rows_at}
use Rattle.clap.specs.Words.{fault_of, subcommand_of}
use Rattle.rc_words.specs.App.{netcheck_app}
use Rattle.rc_words.specs.Plain.{CommandName, command_word}
use Rattle.rc_words.proofs.ByCommand.{stop}
use Rattle.rc_words.proofs.Commands.{IsCommand, whole, gone, wanted_ids}
use Rattle.rc_words.proofs.PlainWalk.{IsPlainText, OptionUse, words_of, given, AreUsed, at_rest, walks, walks_well, ends_well, reads_first, first_fault}
use Rattle.rc_words.proofs.Rules.{AllOf}
use Rattle.rc_words.proofs.Told.{after}

-- ---- the words behind the command's name

default_well : (rows : List Row) (a : Rule) → given_default_fault a a.defaults ≡ [] → default_fault rows a ≡ []
default_well rows a e = elim (has_row a.id rows || is_empty a.defaults) as (λ b. (if b then [] else given_default_fault a a.defaults) ≡ []) [ true ↦ refl | false ↦ e ]

defaults_well : (c : List Rule) (rows : List Row) → AllOf (λ a. given_default_fault a a.defaults ≡ []) c → defaults_fault rows c ≡ []
unfolding defaults_fault
defaults_well [] rows h = refl
defaults_well (a ∷ c) rows h = rw (default_well rows a h.0) (defaults_well c (with_default rows a) h.1)

none_missing : (ids : List Text) (rows : List Row) → AllOf (λ id. is_given id rows ≡ true) ids → list_any (λ id. not (is_given id rows)) ids ≡ false
none_missing [] rows h = refl
none_missing (id ∷ ids) rows h = rw h.0 (none_missing ids rows h.1)

-- ---- the command's name

stopped_well : (s : Shape) (names : Names) (h : Held) (name : Text) (acc ws : List Text) → walk_fault s names (gone h name acc) ws ≡ []
unfolding walk_fault walked
stopped_well s names h name acc [] = refl
stopped_well s names h name acc (w ∷ ws) = stopped_well s names h name (acc ++ w ∷ []) ws

-- `built_fault`, by where the walk over the first words stopped
abbrev fault_at : Held → Option (Text × List Text) → List Text → Kinds
fault_at end stopped ws =
    let b = whole in
    or_else (walk_fault b.top (names_of b) (walk_from nothing_held) ws)
    (or_else (entered_fault b stopped) (or_else (settle_fault b.top.rules b.top.args_override_self end)
    (or_else (defaults_fault (settled b.top.rules end).rows b.top.rules)
    (check_fault b.top (finished b.top.rules end) (is_some (entered b stopped))))))

module _ (k : CommandName) (a : Rule) (s : Shape) (f : IsCommand k a s) (d : Text) (pass : value_passes a d ≡ true) (p : IsPlainText d) where
  start : walked s.rules [] (walk_from nothing_held) d ≡ at_rest [] a d 2
  start = reads_first s.rules a d (f.first d pass) p

  rows_held : (us : List OptionUse) → AreUsed s.rules [] a d us
      → settled s.rules (walk s.rules [] nothing_held (d ∷ words_of us)).held ≡ record { rows = given [] a d us; pending = None; skip = 0 }
  rows_held us u = ap (λ z. settled s.rules (fold (walked s.rules []) z (words_of us)).held) start ∙ walks s.rules [] a d us 2 u

  level_well : (us : List OptionUse) → AreUsed s.rules [] a d us → AllOf (λ id. is_given id (after s.rules (given [] a d us)) ≡ true) (wanted_ids a k)
      → level_fault s [] nothing_held (d ∷ words_of us) false [] ≡ []
  unfolding walk_fault
  level_well us u there =
      let walk_well : walk_fault s [] (walk_from nothing_held) (d ∷ words_of us) ≡ [] =
      ap₂ or_else (first_fault s a d (f.first d pass) p) (ap (λ z. walk_fault s [] z (words_of us)) start ∙ walks_well s [] a d us 2 f.once u) in
      let held_well : settle_fault s.rules false (walk s.rules [] nothing_held (d ∷ words_of us)).held ≡ [] =
      ap (λ z. settle_fault s.rules false (fold (walked s.rules []) z (words_of us)).held) start ∙ ends_well s.rules [] a d us 2 u in
      let end_well : settle_fault s.rules s.args_override_self (walk s.rules [] nothing_held (d ∷ words_of us)).held ≡ [] = rw f.once held_well in
      let check_well : check_fault s (finished s.rules (walk s.rules [] nothing_held (d ∷ words_of us)).held) false ≡ [] =
      ap (λ (h : Held). check_fault s (after s.rules h.rows) false) (rows_held us u)
      ∙ f.check (after s.rules (given [] a d us))
      ∙ ap (check_kinds false false) (none_missing (wanted_ids a k) (after s.rules (given [] a d us)) there) in
      ap₂ or_else walk_well (ap₂ or_else end_well (ap₂ or_else (defaults_well s.rules _ f.defaults_pass) check_well))

  walks_top : (ws : List Text) → walk_fault whole.top (names_of whole) (walk_from nothing_held) (command_word k ∷ ws) ≡ []
  unfolding walk_fault
  walks_top ws = ap₂ or_else f.enters_well (ap (λ z. walk_fault whole.top (names_of whole) z ws) f.enters ∙ stopped_well whole.top (names_of whole) nothing_held (command_word k) [] ws)

  top_well : (ws : List Text) → level_fault s [] nothing_held ws false [] ≡ [] → fault_at nothing_held (Some (command_word k, ws)) (command_word k ∷ ws) ≡ []
  unfolding defaults_fault
  top_well ws below =
      let entered_well : entered_fault whole (Some (command_word k, ws)) ≡ [] = rw f.found below in
      let is_entered : is_some (entered whole (Some (command_word k, ws))) ≡ true = rw f.found in
      let checked : check_fault whole.top [] (is_some (entered whole (Some (command_word k, ws)))) ≡ [] = rw is_entered in
      ap₂ or_else (walks_top ws) (ap₂ or_else entered_well checked)

  pub plain_well : (us : List OptionUse) → AreUsed s.rules [] a d us → AllOf (λ id. is_given id (after s.rules (given [] a d us)) ≡ true) (wanted_ids a k)
      → fault_of netcheck_app (command_word k ∷ d ∷ words_of us) ≡ []
  plain_well us u there =
      ap (λ (z : Walk). fault_at z.held z.stopped (command_word k ∷ d ∷ words_of us)) (stop k a s f (d ∷ words_of us))
      ∙ top_well (d ∷ words_of us) (level_well us u there)

  pub plain_rows : (us : List OptionUse) → AreUsed s.rules [] a d us
      → subcommand_of netcheck_app (command_word k ∷ d ∷ words_of us) ≡ Some (command_word k, after s.rules (given [] a d us))
  plain_rows us u =
      let here : entered whole (Some (command_word k, d ∷ words_of us)) ≡ Some (rows_at s (d ∷ words_of us)) = rw f.found in
      ap (λ (z : Walk). entered whole z.stopped) (stop k a s f (d ∷ words_of us))
      ∙ here
      ∙ ap₂ (λ (n : Text) (h : Held). Some (n, after s.rules h.rows)) f.name (rows_held us u)
