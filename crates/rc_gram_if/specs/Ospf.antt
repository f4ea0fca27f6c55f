-- The rows of `ip ospf` lines: what a line of each form sets, by its words behind the opening. A line that fits no row is BadValue.
use Rattle.std.specs.Prelude.{ℕ, List, [], ◌∷◌, Option, Some, None, Result, Ok, Err, codes}
use Rattle.std.specs.Option.{option_map}
use Rattle.rc_config.specs.declared.command.Command.{Command}
use Rattle.rc_config.specs.declared.command.Command.TheVariants.{InterfaceLine}
use Rattle.rc_config.specs.declared.interface.InterfaceLine.TheVariants as interface_line
use Rattle.rc_config.specs.declared.ospf.NetworkType.{NetworkType as NetworkKind}
use Rattle.rc_config.specs.declared.ospf.OspfSetting.{OspfSetting}
use Rattle.rc_config.specs.declared.ospf.OspfSetting.TheVariants.{Cost, HelloInterval, DeadInterval, NetworkType, Area}
use Rattle.rc_openings.specs.Values.{area_of, number_within}
use Rattle.rc_openings.specs.declared.reading.LineRefusal.{LineRefusal}
use Rattle.rc_openings.specs.declared.reading.LineRefusal.TheVariants.{BadValue}

-- what a line sets for its interface
abbrev pub sets : List ℕ → Option OspfSetting → Result Command LineRefusal
sets owner (Some setting) = Ok (InterfaceLine owner (interface_line.Ospf setting))
sets owner None = Err BadValue

-- one number from 1 to 65535
abbrev pub value_of : List (List ℕ) → Option ℕ
value_of (n ∷ []) = number_within 1 65535 n
value_of _ = None

-- `ip ospf cost N`
abbrev pub cost : List (List ℕ) → Option OspfSetting
cost behind = option_map Cost (value_of behind)

-- `ip ospf hello-interval N`
abbrev pub hello_interval : List (List ℕ) → Option OspfSetting
hello_interval behind = option_map HelloInterval (value_of behind)

-- `ip ospf dead-interval N`
abbrev pub dead_interval : List (List ℕ) → Option OspfSetting
dead_interval behind = option_map DeadInterval (value_of behind)

-- `ip ospf network broadcast` and `ip ospf network point-to-point`
abbrev pub network_type : NetworkKind → List (List ℕ) → Option OspfSetting
network_type type [] = Some (NetworkType type)
network_type type (w ∷ ws) = None

abbrev pub area_in : Option ℕ → Option ℕ → Option OspfSetting
area_in (Some process) (Some area) = Some (Area (record { process = process; area = area }))
area_in _ _ = None

-- `ip ospf P area N`, by all words of the line: P is from 1 to 65535, and N is a number or a dotted word
abbrev pub area : List (List ℕ) → Option OspfSetting
area (ip ∷ ospf ∷ process ∷ word ∷ n ∷ []) = area_in (number_within 1 65535 process) (area_of n)
area _ = None

-- a line of the opening `ip ospf network`, or `ip ospf dead-interval`, that fits no row and has one of these words isn't modelled
abbrev pub refused_types : List (List ℕ)
refused_types = codes "non-broadcast" ∷ codes "point-to-multipoint" ∷ []

abbrev pub refused_intervals : List (List ℕ)
refused_intervals = codes "minimal" ∷ []
