-- Words that are taken begin with the name of a command.
use Rattle.std.proofs.Common.{ap, sym, ◌≡◌, ◌∙◌, ◌⊎◌, inl, inr, ℕ, zero, suc, Bool, true, false, List, [], ◌∷◌, refl, Option, Some, None, fold, length, is_some, slice_get, true≢false}
use Rattle.std.specs.Str.{bytes_eq, chars}
use Rattle.std.proofs.lemmas.Slice.Eq.{bytes_eq-Decides}
use Rattle.clap.specs.Faults.{turn_fault, walk_fault, step_fault, flag_word_fault, fault_of}
use Rattle.clap.specs.Kinds.{or_else}
use Rattle.clap.specs.Lexer.{long_of, short_of}
use Rattle.clap.specs.Simple.{names_of, entered}
use Rattle.clap.specs.Walk.{Held, Text, Walk, idle, value, Step, plain, after_flag, bundle_met, bundle_step, short_or_plain, long_or_other, nothing_held, walk_from, walked, subcommand_met}
use Rattle.rc_words.specs.App.{netcheck_app}
use Rattle.rc_words.specs.Plain.{CommandName, routes, trace, reach, loops, uneven, lines, failures, sample, command_word}
use Rattle.rc_words.proofs.Commands.{whole}
use Rattle.rc_words.proofs.KeptValues.{first_none, second_none}
use Rattle.rc_words.proofs.Matched.{stop_at, top_parts}
use Rattle.rc_words.proofs.Rules.{AllOf}

-- the top command has no arguments of its own, so what is no command's name is a stray word
bundle_value : (k : ℕ) (flags word : Text) (h : Held) → (after_flag [] idle word (bundle_met [] k flags 0 plain h).0 (bundle_met [] k flags 0 plain h).1).1 ≡ value
unfolding bundle_met
bundle_value zero flags word h = refl
bundle_value (suc k) flags word h = go (slice_get (chars flags) 0)
  where
    go : (x : Option ℕ) → (after_flag [] idle word (bundle_step [] x flags 0 plain h (bundle_met [] k)).0 (bundle_step [] x flags 0 plain h (bundle_met [] k)).1).1 ≡ value
    go None = refl
    go (Some x) = refl

other_value : (word : Text) (flags : Option Text) → (short_or_plain [] idle word flags nothing_held).1 ≡ value
other_value word None = refl
other_value word (Some flags) = bundle_value (length flags) flags word nothing_held

stray : (h : Held) (step : Step) → step ≡ value → step_fault whole.top 1 h step ≡ [] → ⊥
stray h step is e = let bad = rw is at e in absurd (cc)

no_flag : (word : Text) (long : Option (Text × Option Text))
    → or_else (flag_word_fault [] false long word nothing_held) (step_fault whole.top 1 (long_or_other [] idle word long nothing_held).0 (long_or_other [] idle word long nothing_held).1) ≡ [] → ⊥
no_flag word (Some p) e = cc
no_flag word None e = stray (long_or_other [] idle word None nothing_held).0 (long_or_other [] idle word None nothing_held).1 (other_value word (short_of word)) (second_none (flag_word_fault [] false None word nothing_held) _ e)

-- the word names no command
abbrev IsOther : Text → Type 0
IsOther w = subcommand_met (names_of whole) idle w ≡ None

abbrev IsNamed : Text → Type 0
IsNamed w = (k : CommandName) × (w ≡ command_word k)

abbrev commands : List CommandName
commands = routes ∷ trace ∷ reach ∷ loops ∷ uneven ∷ lines ∷ failures ∷ sample ∷ []

-- the word names one of some commands, or none of them
one_or_none : (ks : List CommandName) (w : Text) → IsNamed w ⊎ AllOf (λ k. bytes_eq (command_word k) w ≡ false) ks
one_or_none [] w = inr tt
one_or_none (k ∷ ks) w = go (bytes_eq (command_word k) w) refl (one_or_none ks w)
  where
    go : (b : Bool) → bytes_eq (command_word k) w ≡ b → IsNamed w ⊎ AllOf (λ k. bytes_eq (command_word k) w ≡ false) ks → IsNamed w ⊎ AllOf (λ k. bytes_eq (command_word k) w ≡ false) (k ∷ ks)
    go true e others = inl (k, sym ((bytes_eq-Decides (command_word k) w).0 e))
    go false e (inl named) = inl named
    go false e (inr none) = inr (e, none)

command_or_other : (w : Text) → IsNamed w ⊎ IsOther w
command_or_other w = elim (one_or_none commands w) [
  | inl named ↦ inl named
  | inr none ↦ inr (rw (none.0, none.1.0, none.1.1.0, none.1.1.1.0, none.1.1.1.1.0, none.1.1.1.1.1.0, none.1.1.1.1.1.1.0, none.1.1.1.1.1.1.1.0))
]

top_word : (w : Text) → IsOther w → bytes_eq w (45 ∷ 45 ∷ []) ≡ false → turn_fault whole.top (names_of whole) (walk_from nothing_held) w ≡ [] → ⊥
top_word w other no_dashes e = no_flag w (long_of w) (rw (other, no_dashes) at e)

-- after `--`
abbrev dashed : Walk
dashed = record { held = nothing_held; waiting = idle; position = 1; is_trailing = true; stopped = None }

dashes : (w : Text) → IsOther w → bytes_eq w (45 ∷ 45 ∷ []) ≡ true → walked whole.top.rules (names_of whole) (walk_from nothing_held) w ≡ dashed
unfolding walked
dashes w other is = rw (other, is)

after_dashes : (ws : List Text) → walk_fault whole.top (names_of whole) dashed ws ≡ [] → is_some (fold (walked whole.top.rules (names_of whole)) dashed ws).stopped ≡ true → ⊥
unfolding walk_fault
after_dashes [] f s = true≢false (sym s)
after_dashes (x ∷ xs) f s = cc

begins : (words : List Text) → walk_fault whole.top (names_of whole) (walk_from nothing_held) words ≡ [] → is_some (stop_at words) ≡ true → (k : CommandName) × (rest : List Text) × (words ≡ command_word k ∷ rest)
unfolding walk_fault
begins [] f s = absurd (true≢false (sym s))
begins (w ∷ ws) f s = elim (command_or_other w) [
  | inl named ↦ (named.0, ws, ap (λ x. x ∷ ws) named.1)
  | inr other ↦ absurd (go other (bytes_eq w (45 ∷ 45 ∷ [])) refl)
]
  where
    go : IsOther w → (d : Bool) → bytes_eq w (45 ∷ 45 ∷ []) ≡ d → ⊥
    go e true t =
        let is_dashed = dashes w e t in
        let turn = turn_fault whole.top (names_of whole) (walk_from nothing_held) w in
        let fault_behind = second_none turn (walk_fault whole.top (names_of whole) (walked whole.top.rules (names_of whole) (walk_from nothing_held) w) ws) f in
        after_dashes ws (rw is_dashed at fault_behind) (ap (λ z. is_some (fold (walked whole.top.rules (names_of whole)) z ws).stopped) (sym is_dashed) ∙ s)
    go e false t =
        let turn = turn_fault whole.top (names_of whole) (walk_from nothing_held) w in
        top_word w e t (first_none turn (walk_fault whole.top (names_of whole) (walked whole.top.rules (names_of whole) (walk_from nothing_held) w) ws) f)

stop_some : (stop : Option (Text × List Text)) → is_some (entered whole stop) ≡ true → is_some stop ≡ true
stop_some None e = e
stop_some (Some p) e = refl

pub first_word : (words : List Text) → fault_of netcheck_app words ≡ [] → (k : CommandName) × (rest : List Text) × (words ≡ command_word k ∷ rest)
first_word words e =
    let (walked_well, below, there) = top_parts words e in
    begins words walked_well (stop_some (stop_at words) there)
