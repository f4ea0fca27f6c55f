-- The rows of prefix lists, community lists and route maps (IOS `ip prefix-list`, `ip community-list` and `route-map`): the command
-- that a line of each form is, by its words behind the opening. A line that fits no row is BadValue.
use Rattle.std.specs.Prelude.{ℕ, List, Result, Ok, Err}
use Rattle.rc_openings.specs.declared.form.MapEntryForm.{MapEntryForm}
use Rattle.rc_openings.specs.declared.form.PolicyForm.{PolicyForm}
use Rattle.rc_openings.specs.declared.form.PolicyForm.TheVariants as form
use Rattle.rc_openings.specs.declared.reading.LineRefusal.{LineRefusal}
use Rattle.rc_openings.specs.declared.reading.LineRefusal.TheVariants.{BadValue}
use Rattle.rc_config.specs.declared.command.Command.{Command}
use Rattle.rc_config.specs.declared.command.Command.TheVariants as command
use Rattle.rc_config.specs.declared.lists.ListLine.TheVariants as list_line
use Rattle.rc_config.specs.declared.community_list.CommunityLine.{CommunityLine}
use Rattle.rc_config.specs.declared.context.OpenBlock.{OpenBlock}
use Rattle.rc_config.specs.declared.context.OpenBlock.TheVariants as place
use Rattle.rc_config.specs.declared.prefix_list.PrefixLine.{PrefixLine}
use Rattle.rc_config.specs.declared.router_text.RouterText.{RouterText}
use Rattle.rc_gram_policy.specs.Lines.{prefix_answer, numbered_answer, standard_answer, opening_answer, map_answer}
use Rattle.rc_gram_policy.specs.declared.map_opening.OpenedEntry.{OpenedEntry}

-- what a line says as a command
abbrev pub said : {A : Type 0} → (A → Command) → Result A LineRefusal → Result Command LineRefusal
said command_of (Ok x) = Ok (command_of x)
said command_of (Err refusal) = Err refusal

abbrev pub prefix_command : List ℕ × PrefixLine → Command
prefix_command (list, line) = command.ListLine list (list_line.PrefixLine line)

abbrev pub community_command : List ℕ × CommunityLine → Command
community_command (list, line) = command.ListLine list (list_line.CommunityLine line)

abbrev pub opening_command : OpenedEntry → Command
opening_command e = command.MapOpened e.map e.number e.action

-- `ip prefix-list NAME ..`, `ip community-list N ..`, `ip community-list standard NAME ..` and `route-map NAME ..`
abbrev pub list_answer : RouterText → PolicyForm → List (List ℕ) → Result Command LineRefusal
list_answer file form.PrefixList behind = said prefix_command (prefix_answer file.lists.prefix_lists behind)
list_answer file form.CommunityList behind = said community_command (numbered_answer behind)
list_answer file form.StandardCommunityList behind = said community_command (standard_answer behind)
list_answer file form.RouteMap behind = said opening_command (opening_answer behind)

-- a line of this number in the block of an entry of a route map; in another block it fits no row
abbrev pub entry_answer : OpenBlock → ℕ → MapEntryForm → List (List ℕ) → Result Command LineRefusal
entry_answer (place.Map map entry) number f behind = said (command.MapLine map entry) (map_answer number f behind)
entry_answer _ number f behind = Err BadValue
