-- What clap finds behind a command's name is found of that command.
use Rattle.std.proofs.Common.{ap, ◌≡◌, ◌∙◌, sym, List, [], ◌∷◌, ◌++◌, refl, Some, append_assoc, fold}
use Rattle.clap.specs.Simple.{Shape, names_of, entered, rows_at}
use Rattle.clap.specs.Walk.{Held, Names, Row, Rule, Text, Walk, walked, walk, nothing_held}
use Rattle.clap.specs.Words.{subcommand_of}
use Rattle.rc_words.specs.App.{netcheck_app}
use Rattle.rc_words.specs.Plain.{CommandName, routes, trace, reach, loops, uneven, lines, failures, sample, command_word}
use Rattle.rc_words.proofs.Commands.{IsCommand, whole, gone, dir_rule, count_rule, routes_shape, routes_is, trace_shape, trace_is, reach_shape, reach_is, loops_shape, loops_is, uneven_shape, uneven_is, lines_shape, lines_is, failures_shape, failures_is, sample_shape, sample_is}

all_texts : (ts : List Text) → ts ++ [] ≡ ts
all_texts [] = refl
all_texts (t ∷ ts) = ap (λ l. t ∷ l) (all_texts ts)

stops : (c : List Rule) (names : Names) (h : Held) (name : Text) (acc ws : List Text) → fold (walked c names) (gone h name acc) ws ≡ gone h name (acc ++ ws)
unfolding walked
stops c names h name acc [] = ap (gone h name) (sym (all_texts acc))
stops c names h name acc (w ∷ ws) = stops c names h name (acc ++ w ∷ []) ws ∙ ap (gone h name) (append_assoc acc (w ∷ []) ws)

-- the walk over the words stops at the command's name
pub stop : (k : CommandName) (a : Rule) (s : Shape) → IsCommand k a s → (ws : List Text) → walk whole.top.rules (names_of whole) nothing_held (command_word k ∷ ws) ≡ gone nothing_held (command_word k) ws
stop k a s f ws = ap (λ z. fold (walked whole.top.rules (names_of whole)) z ws) f.enters ∙ stops whole.top.rules (names_of whole) nothing_held (command_word k) [] ws

rows_of_shape : (k : CommandName) (a : Rule) (s : Shape) → IsCommand k a s → (ws : List Text) → (rows : List Row) × (subcommand_of netcheck_app (command_word k ∷ ws) ≡ Some (command_word k, rows))
rows_of_shape k a s f ws =
    let here : entered whole (Some (command_word k, ws)) ≡ Some (rows_at s ws) = rw f.found in
    ((rows_at s ws).1, ap (λ (z : Walk). entered whole z.stopped) (stop k a s f ws) ∙ here ∙ ap (λ (n : Text). Some (n, (rows_at s ws).1)) f.name)

pub rows_of_command : (k : CommandName) (ws : List Text) → (rows : List Row) × (subcommand_of netcheck_app (command_word k ∷ ws) ≡ Some (command_word k, rows))
rows_of_command routes = rows_of_shape routes dir_rule routes_shape routes_is
rows_of_command trace = rows_of_shape trace dir_rule trace_shape trace_is
rows_of_command reach = rows_of_shape reach dir_rule reach_shape reach_is
rows_of_command loops = rows_of_shape loops dir_rule loops_shape loops_is
rows_of_command uneven = rows_of_shape uneven dir_rule uneven_shape uneven_is
rows_of_command lines = rows_of_shape lines dir_rule lines_shape lines_is
rows_of_command failures = rows_of_shape failures dir_rule failures_shape failures_is
rows_of_command sample = rows_of_shape sample count_rule sample_shape sample_is
