-- What a line says where it stands, by the grammar of its form.
use Rattle.std.specs.Prelude.{ℕ, List, Result, Ok, Err}
use Rattle.rc_openings.specs.Reading.{FormRows, SaysBy, decided_before, said, said_by}
use Rattle.rc_openings.specs.declared.form.Form.{Form}
use Rattle.rc_openings.specs.declared.form.Form.TheVariants.{General, Interface, AccessList, Policy, MapEntry, Ospf, Bgp}
use Rattle.rc_openings.specs.declared.reading.LineRefusal.{LineRefusal}
use Rattle.rc_lines.specs.OpenBlock.{block_at}
use Rattle.rc_config.specs.declared.bgp.BgpLine.TheVariants.{Active}
use Rattle.rc_config.specs.declared.command.Command.{Command}
use Rattle.rc_config.specs.declared.command.Command.TheVariants.{BgpLine, Passed, Remark}
use Rattle.rc_config.specs.declared.context.OpenBlock.{OpenBlock}
use Rattle.rc_config.specs.declared.router_text.RouterText.{RouterText}
use Rattle.rc_gram_acl.specs.Reading.{written_at, row_answer as access_list_answer}
use Rattle.rc_gram_bgp.specs.Reading.{row_answer as bgp_answer}
use Rattle.rc_gram_if.specs.Reading.{general_answer, interface_answer}
use Rattle.rc_gram_ospf.specs.Rows.{row_answer as ospf_answer}
use Rattle.rc_gram_policy.specs.Rows.{entry_answer, list_answer}

abbrev pub Answer : Type 0
Answer = Result Command LineRefusal

-- what a line of a form says in the grammar of the form, by its words behind the opening
abbrev pub answer_of : OpenBlock → RouterText → ℕ → List (List ℕ) → Form → List (List ℕ) → Answer
answer_of block file number line (General f) behind = general_answer file number f behind
answer_of block file number line (Interface f) behind = interface_answer block line f behind
answer_of block file number line (AccessList f) behind = access_list_answer block file (written_at block line) f behind
answer_of block file number line (Policy f) behind = list_answer file f behind
answer_of block file number line (MapEntry f) behind = entry_answer block number f behind
answer_of block file number line (Ospf f) behind = ospf_answer file number line f behind
answer_of block file number line (Bgp f) behind = bgp_answer block file number line f behind

-- the rows of all forms, for the line of this number at a place: each form has those of its grammar
abbrev pub rows_at : OpenBlock → RouterText → ℕ → List (List ℕ) → FormRows Command
rows_at block file number line = record { answer = answer_of block file number line; passed = Passed }

-- the line says this where it stands: the opening with most words decides
abbrev pub Says : OpenBlock → RouterText → ℕ → List (List ℕ) → Answer → Type 0
Says block file number line answer = SaysBy (rows_at block file number line) (block_at block) line answer

-- the same, computed
abbrev pub says : OpenBlock → RouterText → ℕ → List (List ℕ) → Answer
says block file number line = said_by (rows_at block file number line) (block_at block) line

-- a command as it was before netcheck read address families and peer groups: `activate` had no effect
abbrev pub before : Command → Command
before (BgpLine (Active whom is_active)) = Remark
before command = command

abbrev pub answer_before : Answer → Answer
answer_before (Ok command) = Ok (before command)
answer_before (Err refusal) = Err refusal

-- What a line said then: lines that begin with the words of later forms were refused, and all others said what they say now, but for
-- `activate`.
abbrev pub says_before : OpenBlock → RouterText → ℕ → List (List ℕ) → Answer
says_before block file number line = answer_before (said (rows_at block file number line) (decided_before (block_at block) line))
