-- What a line of an access list says where it stands.
use Rattle.std.specs.Prelude.{ℕ, List, [], Option, None, Ok, Err}
use Rattle.rc_openings.specs.Reading.{FormRows, SaysBy, said_by, judged, number_in_front}
use Rattle.rc_openings.specs.declared.form.AccessListForm.{AccessListForm}
use Rattle.rc_openings.specs.declared.form.AccessListForm.TheVariants as form
use Rattle.rc_openings.specs.declared.form.Form.{Form}
use Rattle.rc_openings.specs.declared.form.Form.TheVariants.{AccessList}
use Rattle.rc_openings.specs.declared.reading.LineRefusal.TheVariants.{BadValue}
use Rattle.rc_lines.specs.OpenBlock.{block_at}
use Rattle.rc_config.specs.declared.access_list.AccessListKind.TheVariants.{Standard, Extended}
use Rattle.rc_config.specs.declared.access_list.Action.{Action}
use Rattle.rc_config.specs.declared.access_list.Action.TheVariants.{Permit, Deny}
use Rattle.rc_config.specs.declared.command.Command.{Command}
use Rattle.rc_config.specs.declared.command.Command.TheVariants.{Passed, Remark}
use Rattle.rc_config.specs.declared.context.OpenBlock.{OpenBlock}
use Rattle.rc_config.specs.declared.context.OpenBlock.TheVariants as place
use Rattle.rc_config.specs.declared.router_text.RouterText.{RouterText}
use Rattle.rc_gram_acl.specs.Lists.{Answer, line_of, numbered, opened}
use Rattle.rc_gram_acl.specs.Refused.{refused_words}

-- one more line of the list in whose block it stands, behind `permit` or `deny`
abbrev pub line_in : OpenBlock → RouterText → Option ℕ → Action → List (List ℕ) → Answer
line_in (place.AccessList list kind) file written action behind = line_of file list kind written action behind
line_in _ file written action behind = Err BadValue

-- the row of a form, where this sequence number is written in front of the line
abbrev pub row : AccessListForm → OpenBlock → RouterText → Option ℕ → List (List ℕ) → Answer
row form.Numbered block file written behind = numbered file behind
row form.Standard block file written behind = opened file Standard behind
row form.Extended block file written behind = opened file Extended behind
row form.Permit block file written behind = line_in block file written Permit behind
row form.Deny block file written behind = line_in block file written Deny behind
row form.Remark block file written behind = Ok Remark

-- The words that make a line of a form one that isn't modelled, where it fits no row, also where one stands in the place of a list's
-- number.
abbrev pub refused_behind : AccessListForm → List (List ℕ)
refused_behind form.Numbered = refused_words
refused_behind form.Permit = refused_words
refused_behind form.Deny = refused_words
refused_behind _ = []

-- what a line of a form says by its words behind the opening
abbrev pub row_answer : OpenBlock → RouterText → Option ℕ → AccessListForm → List (List ℕ) → Answer
row_answer block file written f behind = judged (refused_behind f) behind (row f block file written behind)

-- the sequence number that is written in front of a line in the block of an access list
abbrev pub written_at : OpenBlock → List (List ℕ) → Option ℕ
written_at (place.AccessList list kind) line = number_in_front line
written_at _ line = None

-- the same of every form, for a line at a place: those of other grammars have no row here
abbrev pub answer_of : OpenBlock → RouterText → List (List ℕ) → Form → List (List ℕ) → Answer
answer_of block file line (AccessList f) behind = row_answer block file (written_at block line) f behind
answer_of block file line _ behind = Err BadValue

-- the rows for a line at a place
abbrev pub rows_at : OpenBlock → RouterText → List (List ℕ) → FormRows Command
rows_at block file line = record { answer = answer_of block file line; passed = Passed }

-- the line says this where it stands: the opening with most words decides
abbrev pub Says : OpenBlock → RouterText → List (List ℕ) → Answer → Type 0
Says block file line answer = SaysBy (rows_at block file line) (block_at block) line answer

-- the same, computed
abbrev pub says : OpenBlock → RouterText → List (List ℕ) → Answer
says block file line = said_by (rows_at block file line) (block_at block) line
