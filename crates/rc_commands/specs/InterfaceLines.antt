-- Which lines in the block of an interface say a value of it: that of the last line that says it counts, and no other line matters.
use Rattle.std.specs.Prelude.{◌≡◌, ℕ, ◌==◌, Bool, false, if◌then◌else◌, List, Option, Some, None, unwrap_or}
use Rattle.std.specs.List.{filter_map}
use Rattle.rc_config.specs.ByNumber.{with_number}
use Rattle.rc_config.specs.Interface.{group_of}
use Rattle.rc_config.specs.Ospf.{process_of}
use Rattle.rc_config.specs.declared.interface.Direction.{Direction}
use Rattle.rc_config.specs.declared.interface.Direction.TheVariants.{In, Out}
use Rattle.rc_config.specs.declared.interface.IfAddr.{IfAddr}
use Rattle.rc_config.specs.declared.interface.Interface.{Interface}
use Rattle.rc_config.specs.declared.ospf.NetworkType.{NetworkType}
use Rattle.rc_config.specs.declared.ospf.OspfArea.{OspfArea}
use Rattle.rc_config.specs.declared.ospf.OspfSetting.TheVariants as setting
use Rattle.rc_commands.specs.Said.{last_said}
use Rattle.rc_config.specs.declared.interface.InterfaceLine.{InterfaceLine}
use Rattle.rc_config.specs.declared.interface.InterfaceLine.TheVariants as interface_line

-- `ip address A M`
abbrev pub primary_said : InterfaceLine → Option IfAddr
primary_said (interface_line.Address a secondary) = if secondary then None else Some a
primary_said _ = None

-- `ip address A M secondary`
abbrev pub secondary_said : InterfaceLine → Option IfAddr
secondary_said (interface_line.Address a secondary) = if secondary then Some a else None
secondary_said _ = None

-- `shutdown` and `no shutdown`
abbrev pub shutdown_said : InterfaceLine → Option Bool
shutdown_said (interface_line.Shutdown down) = Some down
shutdown_said _ = None

abbrev pub bandwidth_said : InterfaceLine → Option ℕ
bandwidth_said (interface_line.Bandwidth kbits) = Some kbits
bandwidth_said _ = None

-- `ip access-group NAME in`, and `out`
abbrev pub group_said : Direction → InterfaceLine → Option (List ℕ)
group_said In (interface_line.AccessGroup list In) = Some list
group_said Out (interface_line.AccessGroup list Out) = Some list
group_said _ _ = None

abbrev pub cost_said : InterfaceLine → Option ℕ
cost_said (interface_line.Ospf (setting.Cost n)) = Some n
cost_said _ = None

abbrev pub hello_said : InterfaceLine → Option ℕ
hello_said (interface_line.Ospf (setting.HelloInterval n)) = Some n
hello_said _ = None

abbrev pub dead_said : InterfaceLine → Option ℕ
dead_said (interface_line.Ospf (setting.DeadInterval n)) = Some n
dead_said _ = None

abbrev pub network_type_said : InterfaceLine → Option NetworkType
network_type_said (interface_line.Ospf (setting.NetworkType type)) = Some type
network_type_said _ = None

-- `ip ospf P area N`, of this process
abbrev pub area_said : ℕ → InterfaceLine → Option OspfArea
area_said process (interface_line.Ospf (setting.Area area)) = if area.process == process then Some area else None
area_said _ _ = None

-- what the block of an interface says, by its lines
pub record IsInterfaceByLines (i : Interface) (lines : List InterfaceLine) : Type 0 where
  pub primary : i.primary ≡ last_said primary_said lines
  pub secondary : i.secondary ≡ filter_map secondary_said lines
  pub shutdown : i.shutdown ≡ unwrap_or (last_said shutdown_said lines) false
  pub bandwidth : i.bandwidth ≡ last_said bandwidth_said lines
  pub group : (direction : Direction) → group_of i direction ≡ last_said (group_said direction) lines
  pub cost : i.ospf.cost ≡ last_said cost_said lines
  pub hello : i.ospf.hello ≡ last_said hello_said lines
  pub dead : i.ospf.dead ≡ last_said dead_said lines
  pub network : i.ospf.network ≡ last_said network_type_said lines
  pub area : (process : ℕ) → with_number process_of process i.ospf.areas ≡ last_said (area_said process) lines
