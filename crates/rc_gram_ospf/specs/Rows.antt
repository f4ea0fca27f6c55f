-- The rows of OSPF: the command that a line of each form is, by its words behind the opening. A line that fits no row is BadValue.
use Rattle.std.specs.Prelude.{ℕ, ◌==◌, true, false, List, [], ◌∷◌, Option, Some, None, Result, Ok, Err, if◌then◌else◌, codes}
use Rattle.rc_config.specs.declared.command.Command.{Command}
use Rattle.rc_config.specs.declared.command.Command.TheVariants as command
use Rattle.rc_config.specs.declared.ospf.OspfLine.{OspfLine}
use Rattle.rc_config.specs.declared.ospf.OspfProcess.{OspfProcess}
use Rattle.rc_config.specs.declared.ospf.RedistributedSource.TheVariants.{Connected, Static}
use Rattle.rc_config.specs.declared.router_text.RouterText.{RouterText}
use Rattle.rc_openings.specs.Reading.{judged}
use Rattle.rc_openings.specs.Values.{number_within}
use Rattle.rc_openings.specs.Words.{words_of}
use Rattle.rc_openings.specs.declared.form.OspfForm.{OspfForm}
use Rattle.rc_openings.specs.declared.form.OspfForm.TheVariants as form
use Rattle.rc_openings.specs.declared.reading.LineRefusal.{LineRefusal}
use Rattle.rc_openings.specs.declared.reading.LineRefusal.TheVariants.{Unsupported, BadValue}
use Rattle.rc_gram_ospf.specs.Lines.{default_information, network, passive_default, passive_interface, redistribute, redistribute_bgp, reference_bandwidth, router_id, stub_area}

abbrev pub Answer : Type 0
Answer = Result Command LineRefusal

-- the process that is there opens again, and a second one isn't modelled
abbrev pub opened : Option OspfProcess → ℕ → Answer
opened None process = Ok (command.OspfOpened process)
opened (Some p) process = if p.process == process then Ok (command.OspfOpened process) else Err Unsupported

abbrev pub opened_by : Option OspfProcess → Option ℕ → Answer
opened_by known (Some process) = opened known process
opened_by known None = Err BadValue

-- `router ospf N`, from 1 to 65535
abbrev pub router_ospf : RouterText → List (List ℕ) → Answer
router_ospf file (n ∷ []) = opened_by file.ospf (number_within 1 65535 n)
router_ospf file _ = Err BadValue

abbrev pub in_block : Option OspfLine → Answer
in_block (Some line) = Ok (command.OspfLine line)
in_block None = Err BadValue

-- The row of a form, to the line of this number and these words. `no passive-interface default` names an interface `default`, and leaves
-- what the others are.
abbrev pub row : RouterText → ℕ → List (List ℕ) → OspfForm → List (List ℕ) → Answer
row file number line form.RouterOspf behind = router_ospf file behind
row file number line form.RouterId behind = in_block (router_id behind)
row file number line form.Network behind = in_block (network behind)
row file number line form.StubArea behind = in_block (stub_area line)
row file number line form.PassiveInterface behind = in_block (passive_interface true behind)
row file number line form.NoPassiveInterface behind = in_block (passive_interface false behind)
row file number line form.PassiveInterfaceDefault behind = in_block (passive_default behind)
row file number line form.ReferenceBandwidth behind = in_block (reference_bandwidth behind)
row file number line form.RedistributeConnected behind = in_block (redistribute Connected number behind)
row file number line form.RedistributeStatic behind = in_block (redistribute Static number behind)
row file number line form.RedistributeBgp behind = in_block (redistribute_bgp number behind)
row file number line form.DefaultInformationOriginate behind = in_block (default_information behind)

-- the words that make a line of a form one that isn't modelled, where it fits no row
unfoldable pub refused_words : OspfForm → List (List ℕ)
refused_words form.RedistributeConnected = words_of (codes "tag nssa-only")
refused_words form.RedistributeStatic = words_of (codes "tag nssa-only")
refused_words form.RedistributeBgp = words_of (codes "tag nssa-only")
refused_words form.DefaultInformationOriginate = words_of (codes "route-map")
refused_words _ = []

-- what a line of a form says by its words behind the opening
abbrev pub row_answer : RouterText → ℕ → List (List ℕ) → OspfForm → List (List ℕ) → Answer
row_answer file number line f behind = judged (refused_words f) behind (row file number line f behind)
