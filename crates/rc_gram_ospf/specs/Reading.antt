-- What a line of OSPF says where it stands.
use Rattle.std.specs.Prelude.{ℕ, List, Err}
use Rattle.rc_openings.specs.Reading.{FormRows, SaysBy, said_by}
use Rattle.rc_openings.specs.declared.form.Form.{Form}
use Rattle.rc_openings.specs.declared.form.Form.TheVariants.{Ospf}
use Rattle.rc_openings.specs.declared.reading.LineRefusal.TheVariants.{BadValue}
use Rattle.rc_lines.specs.OpenBlock.{block_at}
use Rattle.rc_config.specs.declared.command.Command.{Command}
use Rattle.rc_config.specs.declared.command.Command.TheVariants.{Passed}
use Rattle.rc_config.specs.declared.context.OpenBlock.{OpenBlock}
use Rattle.rc_config.specs.declared.router_text.RouterText.{RouterText}
use Rattle.rc_gram_ospf.specs.Rows.{Answer, row_answer}

-- what a line of a form says, by its words behind the opening; forms of other grammars have no row here
abbrev pub answer_of : RouterText → ℕ → List (List ℕ) → Form → List (List ℕ) → Answer
answer_of file number line (Ospf f) behind = row_answer file number line f behind
answer_of file number line _ behind = Err BadValue

-- the rows for the line of this number and these words, in this file
abbrev pub rows_in : RouterText → ℕ → List (List ℕ) → FormRows Command
rows_in file number line = record { answer = answer_of file number line; passed = Passed }

-- the line says this where it stands: the opening with most words decides
abbrev pub Says : OpenBlock → RouterText → ℕ → List (List ℕ) → Answer → Type 0
Says block file number line answer = SaysBy (rows_in file number line) (block_at block) line answer

-- the same, computed
abbrev pub says : OpenBlock → RouterText → ℕ → List (List ℕ) → Answer
says block file number line = said_by (rows_in file number line) (block_at block) line
