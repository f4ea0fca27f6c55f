-- Clap is told a command's arguments one after another.
use Rattle.std.proofs.Common.{refl, ap, sym, ◌≡◌, ◌∙◌, ℕ, zero, suc, ◌+◌, ◌<◌, ◌≤◌, arith, List, [], ◌∷◌, drop, fold, get_or, length, map, false, drop-cons, add-one}
use Rattle.clap.specs.Words.{App, AddsArg, app_of, rule_of, with_rule}
use Rattle.clap.specs.declared.builder.arg.Arg.{Arg}
use Rattle.clap.specs.declared.builder.command.Command.{Command}
use Rattle.clap.specs.declared.builder.command.Command.TheViews.{out-Command}
use Rattle.rc_words.specs.Arguments.{IsTold, rule_told}
use Rattle.rc_words.specs.declared.app.Argument.{Argument}

-- with the arguments that are left, the command as told so far is what all of them make of the first one
pub record AreLeft (start : App) (now : Command) (all : List Argument) (i : ℕ) : Type 0 where
  pub same : fold with_rule (app_of now) (map rule_told (drop i all)) ≡ fold with_rule start (map rule_told all)
  pub local : (out-Command now).has_globals ≡ false

pub one_more : (start : App) (old new : Command) (a : Arg) (x : Argument) (all : List Argument) (i : ℕ) → i < length all → x ≡ get_or all i x → rule_of a ≡ rule_told x → a.global ≡ false → AddsArg old a new
    → AreLeft start old all i → AreLeft start new all (i + 1)
one_more start old new a x all i lt is rule local added left =
    let told : app_of new ≡ with_rule (app_of old) (rule_told x) = added.shape local ∙ ap (with_rule (app_of old)) rule in
    let first : drop i all ≡ x ∷ drop (i + 1) all = drop-cons all i x lt ∙ ap (λ y. y ∷ drop (suc i) all) (sym is) ∙ ap (λ j. x ∷ drop j all) (sym (add-one i)) in
    record {
      same = ap (λ b. fold with_rule b (map rule_told (drop (i + 1) all))) told ∙ sym (ap (λ xs. fold with_rule (app_of old) (map rule_told xs)) first) ∙ left.same;
      local = added.globals ∙ rw (left.local, local);
    }

-- where no argument is left clap is told them all
pub all_told : (start : App) (now : Command) (all : List Argument) (i : ℕ) → length all ≤ i → AreLeft start now all i → IsTold now (fold with_rule start (map rule_told all))
all_told start now all i le left = record {
  app = ap (λ xs. fold with_rule (app_of now) (map rule_told xs)) (sym (drop_whole all i le)) ∙ left.same;
  local = left.local;
}
  where
    drop_whole : (xs : List Argument) (k : ℕ) → length xs ≤ k → drop k xs ≡ []
    drop_whole [] zero le = refl
    drop_whole [] (suc k) le = refl
    drop_whole (x ∷ xs) zero le = absurd (omega arith)
    drop_whole (x ∷ xs) (suc k) le = drop_whole xs k (omega arith)
