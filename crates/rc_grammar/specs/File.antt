-- A file: its lines in order, each read where it stands, up to the first refusal.
use Rattle.std.specs.Prelude.{◌≡◌, ◌≤◌, ◌↔◌, ℕ, ◌+◌, ◌==◌, Bool, true, false, ◌&&◌, nat_le, if◌then◌else◌, List, [], ◌∷◌, ◌++◌, length, Option, Some, None, Result, Ok, Err, is_none, is_some}
use Rattle.rc_openings.specs.Words.{words_of}
use Rattle.rc_openings.specs.declared.reading.LineError.{LineError}
use Rattle.rc_openings.specs.declared.reading.LineError.TheVariants as line_error
use Rattle.rc_openings.specs.declared.reading.LineRefusal.{LineRefusal}
use Rattle.rc_openings.specs.declared.reading.LineRefusal.TheVariants.{BadValue}
use Rattle.rc_lines.specs.Banners.{indent_of}
use Rattle.rc_lines.specs.Lines.{TextLine, lines_of, is_too_long}
use Rattle.rc_lines.specs.declared.banner.Part.{Part}
use Rattle.rc_lines.specs.declared.banner.Part.TheVariants as part
use Rattle.rc_config.specs.Lawful.{HasLawfulBgp, HasLawfulInterfaces, HasLawfulLists, HasLawfulOspf, HasLawfulRoutes}
use Rattle.rc_config.specs.Named.{named}
use Rattle.rc_config.specs.Update.{after, empty}
use Rattle.rc_config.specs.declared.command.Command.{Command}
use Rattle.rc_config.specs.declared.command.Command.TheVariants as command
use Rattle.rc_config.specs.declared.lists.ListLine.{ListLine}
use Rattle.rc_config.specs.declared.lists.ListLine.TheVariants as list_line
use Rattle.rc_config.specs.declared.context.OpenBlock.{OpenBlock}
use Rattle.rc_config.specs.declared.context.OpenBlock.TheVariants as block
use Rattle.rc_config.specs.declared.router_text.RouterText.{RouterText}
use Rattle.rc_grammar.specs.Grammars.{says, says_before}
use Rattle.rc_grammar.specs.declared.reading.Reading.{Reading}
use Rattle.rc_grammar.specs.declared.refusal.FileCause.{FileCause}
use Rattle.rc_grammar.specs.declared.refusal.FileCause.TheVariants.{Line, LineTooLong, NoHostName, OpenBanner, TooManyInterfaces}
use Rattle.rc_grammar.specs.declared.refusal.FileRefusal.{FileRefusal}
use Rattle.rc_grammar.specs.declared.refusal.ReadError.{ReadError}
use Rattle.rc_grammar.specs.declared.refusal.ReadError.TheVariants as error

-- no words, or a first byte `!`: such a line is passed over, and closes no block
abbrev pub is_passed : List (List ℕ) → Bool
is_passed [] = true
is_passed ([] ∷ ws) = false
is_passed ((b ∷ bs) ∷ ws) = b == 33

-- a line without indent stands in the global block, and any other in the open one
abbrev pub at_line : Reading → List ℕ → Reading
at_line r text = record r { block = if indent_of text == 0 then block.Global else r.block }

-- the block of an access list, which is open behind the line that opens it
abbrev pub list_block : List ℕ → ListLine → OpenBlock
list_block list (list_line.AccessListOpened kind) = block.AccessList list kind
list_block list _ = block.Closed

-- The block that is open after a command: a line without indent closes the open block, `interface`, `ip access-list`, `route-map`,
-- `router ospf` and `router bgp` open one, and a line without indent that is passed over opens one whose lines are all passed over. In
-- the block of a BGP process `address-family` opens that of a family, and its end leads back.
abbrev pub open_after : OpenBlock → Command → OpenBlock
open_after block.Global (command.Interface name line) = block.Interface name
open_after block.Global (command.ListLine list line) = list_block list line
open_after block.Global (command.MapOpened map n action) = block.Map map n
open_after block.Global (command.OspfOpened process) = block.Ospf
open_after block.Global (command.BgpOpened asn) = block.Bgp
open_after block.Global command.Passed = block.Ignored
open_after block.Global _ = block.Closed
open_after block.Bgp command.FamilyOpened = block.InFamily
open_after block.Bgp command.OtherFamilyOpened = block.InOtherFamily
open_after block.InFamily command.FamilyClosed = block.Bgp
open_after block.InOtherFamily command.FamilyClosed = block.Bgp
open_after at _ = at

-- the interface whose block a command opens or changes. A static route names interfaces without declaring them.
abbrev pub interface_of : Command → Option (List ℕ)
interface_of command.Passed = None
interface_of command.Remark = None
interface_of (command.Hostname name line) = None
interface_of (command.Interface name line) = Some name
interface_of (command.InterfaceLine name line) = Some name
interface_of (command.StaticRoute route) = None
interface_of (command.ListLine list line) = None
interface_of (command.MapOpened map n action) = None
interface_of (command.MapLine map n line) = None
interface_of (command.OspfOpened process) = None
interface_of (command.OspfLine line) = None
interface_of (command.BgpOpened asn) = None
interface_of (command.BgpLine line) = None
interface_of command.FamilyOpened = None
interface_of command.OtherFamilyOpened = None
interface_of command.FamilyClosed = None

-- a file has at most 256 interfaces
abbrev pub is_one_too_many : RouterText → Option (List ℕ) → Bool
is_one_too_many file None = false
is_one_too_many file (Some name) = nat_le 256 (length file.interfaces) && is_none (named file.interfaces name)

abbrev pub refused : {A : Type 0} → ℕ → FileCause → Result A FileRefusal
refused line cause = Err (record { line = line; cause = cause })

abbrev pub with_command : ℕ → Reading → Command → Result Reading FileRefusal
with_command number r m = if is_one_too_many r.file (interface_of m) then refused number TooManyInterfaces else Ok (record { file = after r.file m; block = open_after r.block m })

abbrev pub with_answer : ℕ → Reading → Result Command LineRefusal → Result Reading FileRefusal
with_answer number r (Err refusal) = refused number (Line refusal)
with_answer number r (Ok m) = with_command number r m

abbrev pub start : Reading
start = record { file = empty; block = block.Closed }

-- a file names its host
abbrev pub with_host : Result Reading FileRefusal → Result RouterText FileRefusal
with_host (Err refusal) = Err refusal
with_host (Ok reading) = if is_some reading.file.host then Ok reading.file else refused 0 NoHostName

-- by what a line says in a block, in a file that has said so much, by its number and its words
module _ (say : OpenBlock → RouterText → ℕ → List (List ℕ) → Result Command LineRefusal) where
  -- what the line says where it stands
  abbrev pub said : Reading → TextLine → Result Command LineRefusal
  said r l = say r.block r.file l.number (words_of l.text)

  abbrev pub with_said : Reading → TextLine → Result Reading FileRefusal
  with_said r l = with_answer l.number r (said r l)

  abbrev pub with_text : Reading → TextLine → Result Reading FileRefusal
  with_text r l = if is_passed (words_of l.text) then Ok r else with_said (at_line r l.text) l

  -- a line of a banner says nothing, and the first one closes the open block
  abbrev pub by_part : Reading → TextLine → Part → Result Reading FileRefusal
  by_part r l part.Plain = with_text r l
  by_part r l part.InBanner = Ok r
  by_part r l part.Banner = Ok (record r { block = block.Closed })
  by_part r l part.ShortBanner = refused l.number (Line BadValue)
  by_part r l part.OpenBanner = refused l.number OpenBanner

  -- one line more; its length is tested first, that of a line which is passed over too
  unfoldable pub step : Reading → TextLine → Result Reading FileRefusal
  step r l = if is_too_long l.text then refused l.number LineTooLong else by_part r l l.part

  -- a line, unless an earlier one was refused
  abbrev pub with_line : Result Reading FileRefusal → TextLine → Result Reading FileRefusal
  with_line (Err refusal) line = Err refusal
  with_line (Ok reading) line = step reading line

  abbrev pub with_lines : Result Reading FileRefusal → List TextLine → Result Reading FileRefusal
  with_lines so_far [] = so_far
  with_lines so_far (line ∷ lines) = with_lines (with_line so_far line) lines

  -- the model of a file, or its first refusal: of the least line, then of the host name
  unfoldable pub read_by : List ℕ → Result RouterText FileRefusal
  read_by bytes = with_host (with_lines (Ok start) (lines_of bytes))

-- the model of a file, or its first refusal
abbrev pub file_of : List ℕ → Result RouterText FileRefusal
file_of bytes = read_by says bytes

-- and as it was before netcheck read address families and peer groups
abbrev pub file_before : List ℕ → Result RouterText FileRefusal
file_before bytes = read_by says_before bytes

-- A refusal is that of the least line that is refused, and every line before it is taken; or all lines are taken, and none gives
-- the host name.
pub data IsRefusal (bytes : List ℕ) (refusal : FileRefusal) : Type 0 where
  at_line_of : (before : List TextLine) (line : TextLine) (later : List TextLine) (reading : Reading) → lines_of bytes ≡ before ++ line ∷ later → with_lines says (Ok start) before ≡ Ok reading
      → step says reading line ≡ Err refusal → refusal.line ≡ length before + 1 → IsRefusal bytes refusal
  without_host : (reading : Reading) → with_lines says (Ok start) (lines_of bytes) ≡ Ok reading → reading.file.host ≡ None → refusal ≡ record { line = 0; cause = NoHostName } → IsRefusal bytes refusal

-- a file is refused exactly with the refusal of its least line that is refused, or of its host name where all lines are taken
abbrev pub RefusesTheFirst : Type 0
RefusesTheFirst = (bytes : List ℕ) (refusal : FileRefusal) → (file_of bytes ≡ Err refusal) ↔ IsRefusal bytes refusal

-- what every line leaves of a model: at most 256 interfaces, each lawful, and lawful routes, lists and processes
pub record IsFit (file : RouterText) : Type 0 where
  pub few : length file.interfaces ≤ 256
  pub interfaces : HasLawfulInterfaces file
  pub routes : HasLawfulRoutes file
  pub lists : HasLawfulLists file
  pub ospf : HasLawfulOspf file
  pub bgp : HasLawfulBgp file

-- why a file has no model, where its line of this number gave nothing
abbrev pub failed_at : ℕ → LineError → ReadError
failed_at number (line_error.Refused refusal) = error.Refused (record { line = number; cause = Line refusal })
failed_at number line_error.Memory = error.Memory

-- memory ran out, or the file is refused so
abbrev pub Fails : {B : Type 0} → ReadError → Result B FileRefusal → Type 0
Fails error.Memory read = Unit {0}
Fails (error.Refused refusal) read = read ≡ Err refusal

-- what a call gave is this, unless memory ran out
abbrev pub Gives : {B : Type 0} → Result B ReadError → Result B FileRefusal → Type 0
Gives (Ok x) read = read ≡ Ok x
Gives (Err e) read = Fails e read

-- what a call left is this, unless memory ran out
abbrev pub Leaves : {T : Type 0} → Result T ReadError → Reading → Result Reading FileRefusal → Type 0
Leaves (Ok x) left read = read ≡ Ok left
Leaves (Err e) left read = Fails e read
