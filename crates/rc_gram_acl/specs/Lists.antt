-- The rows of access lists (IOS `access-list` and `ip access-list`): the command that a line of each form is, by its words behind the
-- opening. A line that fits no row is BadValue.
use Rattle.std.specs.Prelude.{◌≡◌, ℕ, Bool, true, false, ◌&&◌, List, [], ◌∷◌, Option, Some, None, Result, Ok, Err, if◌then◌else◌, is_some, codes}
use Rattle.std.specs.Str.{bytes_eq}
use Rattle.rc_base.specs.Name.{name_of, name_of_number}
use Rattle.rc_openings.specs.Values.{number_of}
use Rattle.rc_openings.specs.declared.reading.LineRefusal.{LineRefusal}
use Rattle.rc_openings.specs.declared.reading.LineRefusal.TheVariants.{BadValue}
use Rattle.rc_config.specs.AccessList.{has_sequence}
use Rattle.rc_config.specs.ActionWord.{action_of}
use Rattle.rc_config.specs.Named.{named}
use Rattle.rc_config.specs.Lists.{access_list_named}
use Rattle.rc_config.specs.declared.access_list.AccessList.{AccessList}
use Rattle.rc_config.specs.declared.access_list.AccessListKind.{AccessListKind}
use Rattle.rc_config.specs.declared.access_list.AccessListKind.TheVariants.{Standard, Extended}
use Rattle.rc_config.specs.declared.access_list.Action.{Action}
use Rattle.rc_config.specs.declared.command.Command.{Command}
use Rattle.rc_config.specs.declared.command.Command.TheVariants as command
use Rattle.rc_config.specs.declared.lists.ListLine.TheVariants as list_line
use Rattle.rc_config.specs.declared.router_text.RouterText.{RouterText}
use Rattle.rc_gram_acl.specs.Entry.{Entry, entry}
use Rattle.rc_gram_acl.specs.Lines.{line_with}
use Rattle.rc_gram_acl.specs.ListNumber.{kind_of_number}
use Rattle.rc_gram_acl.specs.Sequence.{sequence_for}

abbrev pub Answer : Type 0
Answer = Result Command LineRefusal

abbrev pub same_kind : AccessListKind → AccessListKind → Bool
same_kind Standard Standard = true
same_kind Standard Extended = false
same_kind Extended Standard = false
same_kind Extended Extended = true

-- the list that is there is of this kind, or none is there
abbrev pub may_be : Option AccessList → AccessListKind → Bool
may_be None kind = true
may_be (Some f) kind = same_kind f.kind kind

-- the number of one more line: none where the list that is there is of the other kind
abbrev pub sequence_by : Option AccessList → AccessListKind → Option ℕ → Option ℕ
sequence_by None kind written = sequence_for [] written
sequence_by (Some f) kind written = if same_kind f.kind kind then sequence_for f.lines written else None

abbrev pub sequence_in : RouterText → List ℕ → AccessListKind → Option ℕ → Option ℕ
sequence_in file list kind written = sequence_by (named file.lists.access_lists list) kind written

-- the list that is there is of this kind, and no line of it has this number
abbrev pub HasRoom : RouterText → List ℕ → AccessListKind → ℕ → Type 0
HasRoom file list kind n = ((access_list_named file.lists list kind).kind ≡ kind) × (has_sequence (access_list_named file.lists list kind).lines n ≡ false)

-- a line whose words fit is a line of the list where it has a number, and a bad value where it has none
abbrev pub line_at : List ℕ → AccessListKind → Option ℕ → Action → Entry → Answer
line_at list kind written action (Err refusal) = Err refusal
line_at list kind None action (Ok tests) = Err BadValue
line_at list kind (Some n) action (Ok tests) = Ok (command.ListLine list (list_line.AccessListLine kind (line_with n action tests)))

-- one more line of a list, behind `permit` or `deny`
abbrev pub line_of : RouterText → List ℕ → AccessListKind → Option ℕ → Action → List (List ℕ) → Answer
line_of file list kind written action words = line_at list kind (sequence_in file list kind written) action (entry kind words)

-- the same of the list whose name is its number, which has a kind
abbrev pub numbered_line : RouterText → ℕ → Option AccessListKind → Action → List (List ℕ) → Answer
numbered_line file n (Some kind) action words = line_of file (name_of_number n) kind None action words
numbered_line file n None action words = Err BadValue

abbrev pub numbered_by : RouterText → Option ℕ → Option Action → List (List ℕ) → Answer
numbered_by file (Some n) (Some action) words = numbered_line file n (kind_of_number n) action words
numbered_by file _ _ words = Err BadValue

-- `access-list N remark ..`, which has no effect and takes every number, and `access-list N permit|deny ..`
abbrev pub numbered : RouterText → List (List ℕ) → Answer
numbered file (n ∷ w ∷ rest) =
    if is_some (number_of n) && bytes_eq w (codes "remark") then Ok command.Remark else numbered_by file (number_of n) (action_of w) rest
numbered file _ = Err BadValue

abbrev pub opened_as : RouterText → AccessListKind → Option (List ℕ) → Answer
opened_as file kind (Some list) = if may_be (named file.lists.access_lists list) kind then Ok (command.ListLine list (list_line.AccessListOpened kind)) else Err BadValue
opened_as file kind None = Err BadValue

-- `ip access-list standard NAME`, `ip access-list extended NAME`: a number is a name too and stands for itself, and no list of the
-- other kind has the name
abbrev pub opened : RouterText → AccessListKind → List (List ℕ) → Answer
opened file kind (name ∷ []) = opened_as file kind (name_of name)
opened file kind _ = Err BadValue
