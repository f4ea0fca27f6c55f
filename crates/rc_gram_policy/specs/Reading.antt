-- What a line of a policy says where it stands.
use Rattle.std.specs.Prelude.{ℕ, List, Result, Err}
use Rattle.rc_openings.specs.Reading.{FormRows, SaysBy, said_by}
use Rattle.rc_openings.specs.declared.form.Form.{Form}
use Rattle.rc_openings.specs.declared.form.Form.TheVariants.{MapEntry, Policy}
use Rattle.rc_openings.specs.declared.reading.LineRefusal.{LineRefusal}
use Rattle.rc_openings.specs.declared.reading.LineRefusal.TheVariants.{BadValue}
use Rattle.rc_lines.specs.OpenBlock.{block_at}
use Rattle.rc_config.specs.declared.command.Command.{Command}
use Rattle.rc_config.specs.declared.command.Command.TheVariants.{Passed}
use Rattle.rc_config.specs.declared.context.OpenBlock.{OpenBlock}
use Rattle.rc_config.specs.declared.router_text.RouterText.{RouterText}
use Rattle.rc_gram_policy.specs.Rows.{entry_answer, list_answer}

-- what a line of a form says, by its words behind the opening; forms of other grammars have no row here
abbrev pub answer_of : OpenBlock → RouterText → ℕ → Form → List (List ℕ) → Result Command LineRefusal
answer_of block file number (Policy f) behind = list_answer file f behind
answer_of block file number (MapEntry f) behind = entry_answer block number f behind
answer_of block file number _ behind = Err BadValue

-- the rows for the line of this number at a place
abbrev pub rows_at : OpenBlock → RouterText → ℕ → FormRows Command
rows_at block file number = record { answer = answer_of block file number; passed = Passed }

-- the line says this where it stands: the opening with most words decides
abbrev pub Says : OpenBlock → RouterText → ℕ → List (List ℕ) → Result Command LineRefusal → Type 0
Says block file number line answer = SaysBy (rows_at block file number) (block_at block) line answer

-- the same, computed
abbrev pub says : OpenBlock → RouterText → ℕ → List (List ℕ) → Result Command LineRefusal
says block file number line = said_by (rows_at block file number) (block_at block) line
