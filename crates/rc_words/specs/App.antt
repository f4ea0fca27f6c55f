-- The command line as clap is told it, in clap's own words: the usage text as a term.
use Rattle.std.specs.Prelude.{ℕ, [], ◌∷◌, codes, fold, map, Some, true}
use Rattle.clap.specs.Words.{App, Rule, Text, new_app, new_rule, with_rule, with_subcommand}
use Rattle.clap.specs.declared.builder.ValueParser.TheVariants as vp
use Rattle.rc_base.specs.Fields.{fields, name}
use Rattle.rc_base.specs.declared.field.Field.{Field}
use Rattle.rc_base.specs.declared.field.Field.TheVariants.{Dst, Src}
use Rattle.rc_words.specs.HeaderOptions.{greatest}

-- `--NAME N`: a number from least to most, and what stands for it where it is not given
abbrev pub number_option : Text → ℕ → ℕ → Text → Rule
number_option name least most default = record (new_rule name) { long = Some name; parser = Some (vp.Unsigned least most); defaults = default ∷ [] }

-- `--NAME TEXT`, which may be left out
abbrev pub text_option : Text → Rule
text_option name = record (new_rule name) { long = Some name }

-- `--NAME TEXT`, which has to be there
abbrev pub wanted_option : Text → Rule
wanted_option name = record (text_option name) { required = true }

-- `--NAME TEXT`, and what stands for it where it is not given
abbrev pub default_option : Text → Text → Rule
default_option name default = record (text_option name) { defaults = default ∷ [] }

abbrev pub dir_argument : Rule
dir_argument = record (new_rule (codes "DIR")) { required = true }

-- N: how many routers a made network has
abbrev pub count_argument : Rule
count_argument = record (new_rule (codes "N")) { parser = Some (vp.Unsigned 4 512); required = true }

-- the options of every command, behind its own
abbrev pub with_limits : App → App
with_limits a = with_rule (with_rule (with_rule a
    (number_option (codes "rounds") 1 100000 (codes "1000")))
    (number_option (codes "workers") 1 64 (codes "4")))
    (number_option (codes "nodes") 16 16777216 (codes "1048576"))

-- a field of a packet's header: the destination has to be there, and every other one is 0 where it is not given
abbrev pub field_option : Field → Rule
field_option Dst = wanted_option (name Dst)
field_option Src = default_option (name Src) (codes "0.0.0.0")
field_option f = number_option (name f) 0 (greatest f) (codes "0")

-- all its fields
abbrev pub with_header : App → App
with_header a = fold with_rule a (map field_option fields)

-- how many cubes get an example
abbrev pub with_examples : App → App
with_examples a = with_rule a (number_option (codes "examples") 0 1000 (codes "0"))

-- a command whose first argument is DIR
abbrev pub on_folder : Text → App
on_folder name = with_rule (new_app name) dir_argument

-- one about all routers or one
abbrev pub on_routers : Text → App
on_routers name = with_rule (on_folder name) (text_option (codes "router"))

-- one about the packets from a place
abbrev pub on_packets : Text → App
on_packets name = with_rule (on_folder name) (wanted_option (codes "from"))

-- routes DIR [--router R]
abbrev pub routes_app : App
routes_app = with_limits (on_routers (codes "routes"))

-- trace DIR --from PLACE --dst A [--src A] [--proto N] [--sport N] [--dport N] [--type N] [--code N] [--ack N] [--rst N]
abbrev pub trace_app : App
trace_app = with_limits (with_header (on_packets (codes "trace")))

-- reach DIR --from PLACE [--end KIND] [--examples N]
abbrev pub reach_app : App
reach_app = with_limits (with_examples (with_rule (on_packets (codes "reach")) (text_option (codes "end"))))

-- loops DIR --from PLACE [--examples N]
abbrev pub loops_app : App
loops_app = with_limits (with_examples (on_packets (codes "loops")))

-- uneven DIR --from PLACE [--examples N]
abbrev pub uneven_app : App
uneven_app = with_limits (with_examples (on_packets (codes "uneven")))

-- lines DIR [--router R]
abbrev pub lines_app : App
lines_app = with_limits (on_routers (codes "lines"))

-- failures DIR --from PLACE --dst A [--end KIND] [--src A] [--proto N] [--sport N] [--dport N] [--type N] [--code N] [--ack N] [--rst N]
abbrev pub failures_app : App
failures_app = with_limits (with_header (with_rule (on_packets (codes "failures")) (text_option (codes "end"))))

-- sample N
abbrev pub sample_app : App
sample_app = with_limits (with_rule (new_app (codes "sample")) count_argument)

-- the words begin with a command's name, one is wanted, and neither `--help`, `-h` nor `help` is one
abbrev pub with_settings : App → App
with_settings a = record a { top = record a.top { no_binary_name = true; disable_help_flag = true; disable_help_subcommand = true; subcommand_required = true } }

-- the commands that ask about tables and walks
abbrev pub tables_app : App
tables_app = with_subcommand (with_subcommand (with_settings (new_app (codes "netcheck"))) routes_app.top) trace_app.top

-- and those that ask about sets of packets
abbrev pub sets_app : App
sets_app = with_subcommand (with_subcommand (with_subcommand tables_app reach_app.top) loops_app.top) uneven_app.top

abbrev pub netcheck_app : App
netcheck_app = with_subcommand (with_subcommand (with_subcommand sets_app lines_app.top) failures_app.top) sample_app.top
