-- Worked cases of which lines count, each by computation.
use Rattle.std.specs.List.{filter_map}
use Rattle.std.specs.Prelude.{◌≡◌, ℕ, ◌==◌, true, false, if◌then◌else◌, List, [], ◌∷◌, Option, Some, None, codes, refl}
use Rattle.rc_commands.specs.InterfaceLines.{area_said, shutdown_said}
use Rattle.rc_commands.specs.LastLine.{entry_lines, interface_line_said, interface_of, names_said, ospf_lines}
use Rattle.rc_commands.specs.Said.{first_said, from_first, last_said}
use Rattle.rc_config.specs.declared.access_list.Action.TheVariants.{Permit, Deny}
use Rattle.rc_config.specs.declared.command.Command.{Command}
use Rattle.rc_config.specs.declared.command.Command.TheVariants.{Interface, InterfaceLine, MapOpened, MapLine, OspfOpened, OspfLine}
use Rattle.rc_config.specs.declared.interface.InterfaceLine.{InterfaceLine as Line}
use Rattle.rc_config.specs.declared.interface.InterfaceLine.TheVariants as interface_line
use Rattle.rc_config.specs.declared.map_line.MapLine.TheVariants.{Set}
use Rattle.rc_config.specs.declared.map_line.SetLine.TheVariants.{Metric}
use Rattle.rc_config.specs.declared.ospf.OspfLine.TheVariants.{RouterId}
use Rattle.rc_config.specs.declared.ospf.OspfSetting.TheVariants.{Area, Cost}

-- a line that says its number, but for 3
abbrev number : ℕ → Option ℕ
number n = if n == 3 then None else Some n

abbrev lines : List ℕ
lines = 3 ∷ 1 ∷ 3 ∷ 2 ∷ 3 ∷ []

pub last_and_first : (last_said number lines ≡ Some 2) × (first_said number lines ≡ Some 1) × (last_said number (3 ∷ []) ≡ None) × (first_said number (3 ∷ []) ≡ None)
last_and_first = (refl, refl, refl, refl)

pub from_the_first : (from_first number lines ≡ 1 ∷ 3 ∷ 2 ∷ 3 ∷ []) × (from_first number (3 ∷ 3 ∷ []) ≡ [])
from_the_first = (refl, refl)

abbrev port : List ℕ
port = codes "Serial0"

abbrev in_area : ℕ → ℕ → Line
in_area process area = interface_line.Ospf (Area (record { process = process; area = area }))

-- a line of another process says nothing of the own one's area, nor does one of another setting
pub area_of_each : (last_said (area_said 1) (in_area 1 0 ∷ in_area 2 5 ∷ interface_line.Ospf (Cost 5) ∷ []) ≡ Some (record { process = 1; area = 0 }))
    × (last_said (area_said 1) (in_area 2 5 ∷ []) ≡ None)
    × (last_said (area_said 1) (in_area 1 0 ∷ in_area 1 7 ∷ in_area 2 5 ∷ []) ≡ Some (record { process = 1; area = 7 }))
area_of_each = (refl, refl, refl)

abbrev map : List ℕ
map = codes "M"

abbrev metric : ℕ → ℕ → Command
metric entry n = MapLine map entry (Set (Metric n))

-- the lines of an entry are those about its number from its first opening on
pub lines_of_an_entry : entry_lines map 10 (metric 10 1 ∷ MapOpened map 20 Permit ∷ MapOpened map 10 Permit ∷ metric 10 2 ∷ metric 20 3 ∷ MapOpened (codes "N") 10 Deny ∷ MapOpened map 10 Deny ∷ metric 10 4 ∷ [])
    ≡ Set (Metric 2) ∷ Set (Metric 4) ∷ []
lines_of_an_entry = refl

pub names_once : names_said interface_of (Interface port 1 ∷ Interface map 2 ∷ InterfaceLine port (interface_line.Shutdown true) ∷ InterfaceLine (codes "X") (interface_line.Shutdown false) ∷ []) ≡ port ∷ map ∷ codes "X" ∷ []
names_once = refl

-- lines in the block of another interface say nothing of this one, and a line that opens a block again says nothing
pub lines_of_an_interface : filter_map (interface_line_said port) (Interface port 1 ∷ InterfaceLine port (interface_line.Shutdown true) ∷ InterfaceLine map (interface_line.Shutdown false) ∷ Interface port 5 ∷ InterfaceLine port (interface_line.Bandwidth 64) ∷ [])
    ≡ interface_line.Shutdown true ∷ interface_line.Bandwidth 64 ∷ []
lines_of_an_interface = refl

pub last_of_its_kind : last_said shutdown_said (interface_line.Shutdown true ∷ interface_line.Shutdown false ∷ interface_line.Bandwidth 64 ∷ []) ≡ Some false
last_of_its_kind = refl

-- a line of a process counts from its first opening on
pub lines_of_a_process : ospf_lines (OspfLine (RouterId 1) ∷ OspfOpened 7 ∷ OspfLine (RouterId 2) ∷ Interface port 3 ∷ OspfOpened 7 ∷ OspfLine (RouterId 3) ∷ []) ≡ RouterId 2 ∷ RouterId 3 ∷ []
lines_of_a_process = refl
