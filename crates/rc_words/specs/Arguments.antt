-- The arguments of the commands, one by one, as clap is told them.
use Rattle.std.specs.Prelude.{◌≡◌, codes, false}
use Rattle.clap.specs.Words.{App, Rule, app_of}
use Rattle.clap.specs.declared.builder.command.Command.{Command}
use Rattle.clap.specs.declared.builder.command.Command.TheViews.{out-Command}
use Rattle.rc_words.specs.App.{number_option, text_option, wanted_option, default_option, dir_argument, count_argument}
use Rattle.rc_words.specs.declared.app.Argument.{Argument}
use Rattle.rc_words.specs.declared.app.Argument.TheVariants.{Number, Text, Wanted, Source, Folder, Count}

-- what an argument is in clap's own words
abbrev pub rule_told : Argument → Rule
rule_told (Number name least most default) = number_option name.now least most default.now
rule_told (Text name) = text_option name.now
rule_told (Wanted name) = wanted_option name.now
rule_told Source = default_option (codes "src") (codes "0.0.0.0")
rule_told Folder = dir_argument
rule_told Count = count_argument

-- clap is told this command, in which no argument is global
pub record IsTold (command : Command) (a : App) : Type 0 where
  pub app : app_of command ≡ a
  pub local : (out-Command command).has_globals ≡ false
