-- What a line says where it stands.
use Rattle.std.specs.Prelude.{ℕ, true, false, List, [], Err, if◌then◌else◌}
use Rattle.rc_openings.specs.Reading.{FormRows, SaysBy, said_by, judged, share_a_word}
use Rattle.rc_openings.specs.declared.form.Form.{Form}
use Rattle.rc_openings.specs.declared.form.Form.TheVariants.{General, Interface}
use Rattle.rc_openings.specs.declared.form.GeneralForm.{GeneralForm}
use Rattle.rc_openings.specs.declared.form.GeneralForm.TheVariants as general
use Rattle.rc_openings.specs.declared.form.InterfaceForm.{InterfaceForm}
use Rattle.rc_openings.specs.declared.form.InterfaceForm.TheVariants as form
use Rattle.rc_openings.specs.declared.reading.LineRefusal.{LineRefusal}
use Rattle.rc_openings.specs.declared.reading.LineRefusal.TheVariants.{BadValue, Unsupported}
use Rattle.rc_lines.specs.OpenBlock.{block_at}
use Rattle.rc_config.specs.declared.command.Command.{Command}
use Rattle.rc_config.specs.declared.command.Command.TheVariants.{Passed}
use Rattle.rc_config.specs.declared.context.OpenBlock.{OpenBlock}
use Rattle.rc_config.specs.declared.context.OpenBlock.TheVariants as place
use Rattle.rc_config.specs.declared.router_text.RouterText.{RouterText}
use Rattle.rc_config.specs.declared.ospf.NetworkType.TheVariants.{Broadcast, PointToPoint}
use Rattle.rc_gram_if.specs.Ospf as ospf
use Rattle.rc_gram_if.specs.Rows as rows

-- the row of a form that stands in no block, to the line of this number
abbrev pub general_row : GeneralForm → RouterText → ℕ → List (List ℕ) → rows.Answer
general_row general.Hostname file number behind = rows.hostname file number behind
general_row general.Interface file number behind = rows.interface number behind
general_row general.StaticRoute file number behind = rows.static_route behind

-- The row of a form in the block of an interface, by all words of the line and those behind the opening. `ip ospf network` with another
-- word fits no row.
abbrev pub interface_row : InterfaceForm → List ℕ → List (List ℕ) → List (List ℕ) → rows.Answer
interface_row form.IpAddress owner line behind = rows.ip_address owner behind
interface_row form.Shutdown owner line behind = rows.shutdown owner true behind
interface_row form.NoShutdown owner line behind = rows.shutdown owner false behind
interface_row form.Bandwidth owner line behind = rows.bandwidth owner behind
interface_row form.AccessGroup owner line behind = rows.access_group owner behind
interface_row form.OspfCost owner line behind = ospf.sets owner (ospf.cost behind)
interface_row form.OspfHelloInterval owner line behind = ospf.sets owner (ospf.hello_interval behind)
interface_row form.OspfDeadInterval owner line behind = ospf.sets owner (ospf.dead_interval behind)
interface_row form.OspfNetworkType owner line behind = Err BadValue
interface_row form.OspfNetworkBroadcast owner line behind = ospf.sets owner (ospf.network_type Broadcast behind)
interface_row form.OspfNetworkPointToPoint owner line behind = ospf.sets owner (ospf.network_type PointToPoint behind)
interface_row form.OspfArea owner line behind = ospf.sets owner (ospf.area line)

-- the same in any block: in one of no interface a line fits no row
abbrev pub row_in : OpenBlock → InterfaceForm → List (List ℕ) → List (List ℕ) → rows.Answer
row_in (place.Interface owner) f line behind = interface_row f owner line behind
row_in _ f line behind = Err BadValue

-- the words that make a line of a form one that isn't modelled, where it fits no row
abbrev pub refused_in_general : GeneralForm → List (List ℕ)
refused_in_general general.StaticRoute = rows.refused_in_route
refused_in_general _ = []

abbrev pub refused_in_interface : InterfaceForm → List (List ℕ)
refused_in_interface form.OspfNetworkType = ospf.refused_types
refused_in_interface form.OspfDeadInterval = ospf.refused_intervals
refused_in_interface _ = []

-- why a line that fits no row is refused, by the refused words and those behind its opening
abbrev pub refusal_of : List (List ℕ) → List (List ℕ) → LineRefusal → LineRefusal
refusal_of refused behind BadValue = if share_a_word behind refused then Unsupported else BadValue
refusal_of refused behind refusal = refusal

-- what a line of a form says by its words behind the opening
abbrev pub general_answer : RouterText → ℕ → GeneralForm → List (List ℕ) → rows.Answer
general_answer file number f behind = judged (refused_in_general f) behind (general_row f file number behind)

abbrev pub interface_answer : OpenBlock → List (List ℕ) → InterfaceForm → List (List ℕ) → rows.Answer
interface_answer block line f behind = judged (refused_in_interface f) behind (row_in block f line behind)

-- forms of other grammars have no row here
abbrev pub answer_of : OpenBlock → RouterText → ℕ → List (List ℕ) → Form → List (List ℕ) → rows.Answer
answer_of block file number line (General f) behind = general_answer file number f behind
answer_of block file number line (Interface f) behind = interface_answer block line f behind
answer_of block file number line _ behind = Err BadValue

-- the rows for the line of this number and these words, at a place
abbrev pub rows_at : OpenBlock → RouterText → ℕ → List (List ℕ) → FormRows Command
rows_at block file number line = record { answer = answer_of block file number line; passed = Passed }

-- the line says this where it stands: the opening with most words decides
abbrev pub Says : OpenBlock → RouterText → ℕ → List (List ℕ) → rows.Answer → Type 0
Says block file number line answer = SaysBy (rows_at block file number line) (block_at block) line answer

-- the same, computed
abbrev pub says : OpenBlock → RouterText → ℕ → List (List ℕ) → rows.Answer
says block file number line = said_by (rows_at block file number line) (block_at block) line
