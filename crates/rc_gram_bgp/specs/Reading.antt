-- What a line of BGP says where it stands.
use Rattle.std.specs.Prelude.{ℕ, List, [], ◌∷◌, Err, codes}
use Rattle.rc_openings.specs.Reading.{FormRows, SaysBy, said_by, judged}
use Rattle.rc_openings.specs.declared.form.BgpForm.{BgpForm}
use Rattle.rc_openings.specs.declared.form.BgpForm.TheVariants as form
use Rattle.rc_openings.specs.declared.form.Form.{Form}
use Rattle.rc_openings.specs.declared.form.Form.TheVariants.{Bgp}
use Rattle.rc_openings.specs.declared.reading.LineRefusal.TheVariants.{BadValue}
use Rattle.rc_lines.specs.OpenBlock.{block_at}
use Rattle.rc_config.specs.declared.command.Command.{Command}
use Rattle.rc_config.specs.declared.command.Command.TheVariants.{Passed}
use Rattle.rc_config.specs.declared.context.OpenBlock.{OpenBlock}
use Rattle.rc_config.specs.declared.router_text.RouterText.{RouterText}
use Rattle.rc_gram_bgp.specs.Peers.{groups_of}
use Rattle.rc_gram_bgp.specs.Rows.{Answer, known_as, row}

abbrev pub refused_options : List (List ℕ)
refused_options = codes "tag" ∷ codes "nssa-only" ∷ codes "metric-type" ∷ []

-- the words that make a line of a form one that isn't modelled, where it fits no row
abbrev pub refused_words : BgpForm → List (List ℕ)
refused_words form.Network = codes "route-map" ∷ codes "backdoor" ∷ []
refused_words form.NeighborDefaultOriginate = codes "route-map" ∷ []
refused_words form.RedistributeConnected = refused_options
refused_words form.RedistributeStatic = refused_options
refused_words form.RedistributeOspf = refused_options
refused_words _ = []

-- what a line of a form says where it stands, by its number and all its words, and by those behind the opening
abbrev pub row_answer : OpenBlock → RouterText → ℕ → List (List ℕ) → BgpForm → List (List ℕ) → Answer
row_answer at file number line f behind = judged (refused_words f) behind (row at (known_as file) (groups_of file) number line f behind)

-- the same of every form: those of other grammars have no row here
abbrev pub answer_of : OpenBlock → RouterText → ℕ → List (List ℕ) → Form → List (List ℕ) → Answer
answer_of at file number line (Bgp f) behind = row_answer at file number line f behind
answer_of at file number line _ behind = Err BadValue

-- the rows for the line of this number and these words where it stands
abbrev pub rows_at : OpenBlock → RouterText → ℕ → List (List ℕ) → FormRows Command
rows_at at file number line = record { answer = answer_of at file number line; passed = Passed }

-- the line says this where it stands: the opening with most words decides
abbrev pub Says : OpenBlock → RouterText → ℕ → List (List ℕ) → Answer → Type 0
Says block file number line answer = SaysBy (rows_at block file number line) (block_at block) line answer

-- the same, computed
abbrev pub says : OpenBlock → RouterText → ℕ → List (List ℕ) → Answer
says block file number line = said_by (rows_at block file number line) (block_at block) line
