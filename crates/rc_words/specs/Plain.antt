-- Plain words: a command and its DIR (or N), then options, each with its value as the next word. clap plays no part here.
use Rattle.std.specs.Prelude.{◌≡◌, ℕ, ◌<◌, ◌≤◌, Bool, true, false, ◌==◌, not, if◌then◌else◌, List, [], ◌∷◌, ◌++◌, codes, length, map, Option, Some, None, option_and_then, option_map}
use Rattle.std.specs.List.{list_all, list_any}
use Rattle.std.specs.Option.{option_map_or}
use Rattle.std.specs.Str.{all_ascii_digits, bytes_eq}
use Rattle.std.specs.Str.Parse.{digits_value}
use Rattle.rc_base.specs.Fields.{fields, name}
use Rattle.rc_base.specs.declared.field.Field.{Field}
use Rattle.rc_base.specs.declared.field.Field.TheVariants.{Dst, Src}
use Rattle.rc_openings.specs.Values.{address_of}
use Rattle.rc_words.specs.Endings.{endings_of}
use Rattle.rc_words.specs.HeaderOptions.{greatest, header_of}
use Rattle.rc_words.specs.Request.{place_of}
use Rattle.rc_words.specs.declared.request.Ask.{Ask}
use Rattle.rc_words.specs.declared.request.Ask.TheVariants.{Routes, Trace, Reach, Loops, Uneven, Lines, Failures, Summary}
use Rattle.rc_words.specs.declared.request.Limits.{Limits}
use Rattle.rc_words.specs.declared.request.Request.{Request}
use Rattle.rc_words.specs.declared.request.Source.{Source}
use Rattle.rc_words.specs.declared.request.Source.TheVariants.{Folder, Made}

-- ---- commands and options

-- the commands
pub data CommandName : Type 0 where
  routes : CommandName
  trace : CommandName
  reach : CommandName
  loops : CommandName
  uneven : CommandName
  lines : CommandName
  failures : CommandName
  sample : CommandName

-- the word that names a command
abbrev pub command_word : CommandName → List ℕ
command_word routes = codes "routes"
command_word trace = codes "trace"
command_word reach = codes "reach"
command_word loops = codes "loops"
command_word uneven = codes "uneven"
command_word lines = codes "lines"
command_word failures = codes "failures"
command_word sample = codes "sample"

pub data OptionName : Type 0 where
  router : OptionName
  from : OptionName
  field : Field → OptionName
  end : OptionName
  examples : OptionName
  rounds : OptionName
  workers : OptionName
  nodes : OptionName

-- an option's name, which stands behind two dashes
abbrev pub option_name : OptionName → List ℕ
option_name router = codes "router"
option_name from = codes "from"
option_name (field f) = name f
option_name end = codes "end"
option_name examples = codes "examples"
option_name rounds = codes "rounds"
option_name workers = codes "workers"
option_name nodes = codes "nodes"

abbrev pub same_option : OptionName → OptionName → Bool
same_option a b = bytes_eq (option_name a) (option_name b)

-- what an option's value is: the decimal digits of a number from the first to the second, or any text
pub data ValueKind : Type 0 where
  number : ℕ → ℕ → ValueKind
  text : ValueKind

-- an address is a text
abbrev pub field_kind : Field → ValueKind
field_kind Dst = text
field_kind Src = text
field_kind f = number 0 (greatest f)

abbrev pub kind_of : OptionName → ValueKind
kind_of router = text
kind_of from = text
kind_of (field f) = field_kind f
kind_of end = text
kind_of examples = number 0 1000
kind_of rounds = number 1 100000
kind_of workers = number 1 64
kind_of nodes = number 16 16777216

-- what stands for a field that isn't given; the destination has to be
abbrev pub field_default : Field → Option (List ℕ)
field_default Dst = None
field_default Src = Some (codes "0.0.0.0")
field_default f = Some (codes "0")

-- what stands for an option that isn't given
abbrev pub default : OptionName → Option (List ℕ)
default router = None
default from = None
default (field f) = field_default f
default end = None
default examples = Some (codes "0")
default rounds = Some (codes "1000")
default workers = Some (codes "4")
default nodes = Some (codes "1048576")

-- the options of every command
abbrev pub limit_options : List OptionName
limit_options = rounds ∷ workers ∷ nodes ∷ []

abbrev pub options_of : CommandName → List OptionName
options_of routes = router ∷ limit_options
options_of trace = from ∷ map field fields ++ limit_options
options_of reach = from ∷ end ∷ examples ∷ limit_options
options_of loops = from ∷ examples ∷ limit_options
options_of uneven = from ∷ examples ∷ limit_options
options_of lines = router ∷ limit_options
options_of failures = from ∷ end ∷ map field fields ++ limit_options
options_of sample = limit_options

-- those that have to be given
abbrev pub required_of : CommandName → List OptionName
required_of routes = []
required_of trace = from ∷ field Dst ∷ []
required_of reach = from ∷ []
required_of loops = from ∷ []
required_of uneven = from ∷ []
required_of lines = []
required_of failures = from ∷ field Dst ∷ []
required_of sample = []

-- what the word behind the command is: a folder, or for `sample` a number of routers
abbrev pub argument_of : CommandName → ValueKind
argument_of sample = number 4 512
argument_of _ = text

abbrev pub has_option : OptionName → List OptionName → Bool
has_option o os = list_any (λ a. same_option a o) os

-- ---- plain words

-- an option and the word behind it
pub record Use : Type 0 where
  pub option : OptionName
  pub value : List ℕ

abbrev pub is_given : OptionName → List Use → Bool
is_given o uses = list_any (λ u. same_option u.option o) uses

-- a text that isn't empty and doesn't begin with a dash (45)
abbrev pub is_plain_text : List ℕ → Bool
is_plain_text [] = false
is_plain_text (b ∷ bs) = not (b == 45)

-- one decimal digit or more, zeros in front or not, that write a number in the range
pub record IsPlainNumber (low high : ℕ) (value : List ℕ) : Type 0 where
  pub some : 0 < length value
  pub digits : all_ascii_digits value ≡ true
  pub least : low ≤ digits_value 10 value
  pub most : digits_value 10 value ≤ high

abbrev pub IsPlainValue : ValueKind → List ℕ → Type 0
IsPlainValue (number low high) value = IsPlainNumber low high value
IsPlainValue text value = is_plain_text value ≡ true

-- each option is one of the command's, has a plain value, and isn't given twice
abbrev pub ArePlainUses : CommandName → List Use → Type 0
ArePlainUses command [] = Unit {0}
ArePlainUses command (u ∷ us) = (has_option u.option (options_of command) ≡ true) × IsPlainValue (kind_of u.option) u.value × (is_given u.option us ≡ false) × ArePlainUses command us

-- words in the form of the usage text: an argument that isn't empty and begins with no dash, the command's own options, each at most once
-- with a value that it takes, and all that it wants
pub record ArePlain (command : CommandName) (dir : List ℕ) (uses : List Use) : Type 0 where
  pub argument : IsPlainValue (argument_of command) dir
  pub options : ArePlainUses command uses
  pub required : list_all (λ o. is_given o uses) (required_of command) ≡ true

abbrev pub option_words : List Use → List (List ℕ)
option_words [] = []
option_words (u ∷ us) = (codes "--" ++ option_name u.option) ∷ u.value ∷ option_words us

-- the command, its DIR or N, and the options
abbrev pub plain_words : CommandName → List ℕ → List Use → List (List ℕ)
plain_words command dir uses = command_word command ∷ dir ∷ option_words uses

-- ---- what they ask for

-- the text that an option is given, or else its default
abbrev pub text_for : OptionName → List Use → Option (List ℕ)
text_for o [] = default o
text_for o (u ∷ us) = if same_option u.option o then Some u.value else text_for o us

-- the number that an option is given, or else its default
abbrev pub number_for : OptionName → List Use → ℕ
number_for o uses = option_map_or (digits_value 10) (text_for o uses) 0

abbrev pub plain_limits : List Use → Limits
plain_limits uses = record { rounds = number_for rounds uses; workers = number_for workers uses; nodes = number_for nodes uses }

-- the number of a field: that of its address, where it is read, or else the number that it is given or its default
abbrev pub plain_field : List Use → Field → Option ℕ
plain_field uses Dst = option_and_then address_of (text_for (field Dst) uses)
plain_field uses Src = option_and_then address_of (text_for (field Src) uses)
plain_field uses f = Some (number_for (field f) uses)

-- the network: that of the folder, or for `sample` a made one of so many routers
abbrev pub plain_source : CommandName → List ℕ → Source
plain_source sample dir = Made (digits_value 10 dir)
plain_source _ dir = Folder dir

abbrev pub plain_ask : CommandName → List Use → Option Ask
plain_ask routes uses = Some (Routes (text_for router uses))
plain_ask trace uses = option_and_then (λ place. option_map (λ header. Trace place header) (header_of (plain_field uses))) (option_and_then place_of (text_for from uses))
plain_ask reach uses = option_and_then (λ place. option_map (λ ends. Reach place ends (number_for examples uses)) (endings_of (text_for end uses))) (option_and_then place_of (text_for from uses))
plain_ask loops uses = option_map (λ place. Loops place (number_for examples uses)) (option_and_then place_of (text_for from uses))
plain_ask uneven uses = option_map (λ place. Uneven place (number_for examples uses)) (option_and_then place_of (text_for from uses))
plain_ask lines uses = Some (Lines (text_for router uses))
plain_ask failures uses = option_and_then (λ place. option_and_then (λ header. option_map (λ ends. Failures place header ends) (endings_of (text_for end uses))) (header_of (plain_field uses))) (option_and_then place_of (text_for from uses))
plain_ask sample uses = Some Summary

-- what plain words ask for, and nothing where the text of a place, an address or an ending isn't read
abbrev pub plain_request : CommandName → List ℕ → List Use → Option Request
plain_request command dir uses = option_map (λ ask. record { source = plain_source command dir; ask = ask; limits = plain_limits uses }) (plain_ask command uses)
