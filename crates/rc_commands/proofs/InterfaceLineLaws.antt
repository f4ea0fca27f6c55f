-- What the lines in the block of an interface say of it: of each value the last line counts that says it, and no other line matters.
use Rattle.std.proofs.Common.{◌≡◌, refl, ℕ, true, List, [], ◌++◌}
use Rattle.std.specs.Prelude.{unwrap_or}
use Rattle.std.specs.List.{cons_option, fold}
use Rattle.std.specs.Option.{option_or}
use Rattle.rc_config.specs.ByNumber.{with_number}
use Rattle.rc_config.specs.Interface.{fresh, group_of, with_line}
use Rattle.rc_commands.specs.InterfaceLines as said
use Rattle.rc_commands.specs.InterfaceLines.{IsInterfaceByLines}
use Rattle.rc_config.specs.Ospf as ospf
use Rattle.rc_commands.specs.Said.{last_said}
use Rattle.rc_config.specs.declared.interface.Direction.{Direction}
use Rattle.rc_config.specs.declared.interface.Direction.TheVariants.{In, Out}
use Rattle.rc_config.specs.declared.interface.Interface.{Interface}
use Rattle.rc_config.specs.declared.interface.InterfaceLine.{InterfaceLine}
use Rattle.rc_config.specs.declared.interface.InterfaceLine.TheVariants as interface_line
use Rattle.rc_config.specs.declared.ospf.OspfSetting.TheVariants as setting
use Rattle.rc_commands.proofs.SaidLaws.{all-in-order, last-counts, last-or-default, nothing-more, number-said}

primary-step : (b : Interface) (l : InterfaceLine) → (with_line b l).primary ≡ option_or (said.primary_said l) b.primary
primary-step b (interface_line.Address a true) = refl
primary-step b (interface_line.AccessGroup list In) = refl
primary-step b l = refl

secondary-step : (b : Interface) (l : InterfaceLine) → (with_line b l).secondary ≡ b.secondary ++ cons_option (said.secondary_said l) []
secondary-step b (interface_line.Address a true) = refl
secondary-step b (interface_line.AccessGroup list In) = nothing-more b.secondary
secondary-step b l = nothing-more b.secondary

shutdown-step : (b : Interface) (l : InterfaceLine) → (with_line b l).shutdown ≡ unwrap_or (said.shutdown_said l) b.shutdown
shutdown-step b (interface_line.Shutdown down) = refl
shutdown-step b (interface_line.Address a true) = refl
shutdown-step b (interface_line.AccessGroup list In) = refl
shutdown-step b l = refl

bandwidth-step : (b : Interface) (l : InterfaceLine) → (with_line b l).bandwidth ≡ option_or (said.bandwidth_said l) b.bandwidth
bandwidth-step b (interface_line.Bandwidth kbits) = refl
bandwidth-step b (interface_line.Address a true) = refl
bandwidth-step b (interface_line.AccessGroup list In) = refl
bandwidth-step b l = refl

group-step : (direction : Direction) (b : Interface) (l : InterfaceLine) → group_of (with_line b l) direction ≡ option_or (said.group_said direction l) (group_of b direction)
group-step In b (interface_line.AccessGroup list In) = refl
group-step Out b (interface_line.AccessGroup list Out) = refl
group-step In b (interface_line.Address a true) = refl
group-step Out b (interface_line.Address a true) = refl
group-step _ b l = refl

cost-step : (b : Interface) (l : InterfaceLine) → (with_line b l).ospf.cost ≡ option_or (said.cost_said l) b.ospf.cost
cost-step b (interface_line.Ospf (setting.Cost k)) = refl
cost-step b (interface_line.Address a true) = refl
cost-step b (interface_line.AccessGroup list In) = refl
cost-step b l = refl

hello-step : (b : Interface) (l : InterfaceLine) → (with_line b l).ospf.hello ≡ option_or (said.hello_said l) b.ospf.hello
hello-step b (interface_line.Ospf (setting.HelloInterval k)) = refl
hello-step b (interface_line.Address a true) = refl
hello-step b (interface_line.AccessGroup list In) = refl
hello-step b l = refl

dead-step : (b : Interface) (l : InterfaceLine) → (with_line b l).ospf.dead ≡ option_or (said.dead_said l) b.ospf.dead
dead-step b (interface_line.Ospf (setting.DeadInterval k)) = refl
dead-step b (interface_line.Address a true) = refl
dead-step b (interface_line.AccessGroup list In) = refl
dead-step b l = refl

network-step : (b : Interface) (l : InterfaceLine) → (with_line b l).ospf.network ≡ option_or (said.network_type_said l) b.ospf.network
network-step b (interface_line.Ospf (setting.NetworkType type)) = refl
network-step b (interface_line.Address a true) = refl
network-step b (interface_line.AccessGroup list In) = refl
network-step b l = refl

area-step : (process : ℕ) (b : Interface) (l : InterfaceLine)
    → with_number ospf.process_of process (with_line b l).ospf.areas ≡ option_or (said.area_said process l) (with_number ospf.process_of process b.ospf.areas)
area-step process b (interface_line.Ospf (setting.Area area)) = number-said ospf.process_of process area b.ospf.areas
area-step process b (interface_line.Address a true) = refl
area-step process b (interface_line.AccessGroup list In) = refl
area-step process b l = refl

group-by-lines : (lines : List InterfaceLine) (direction : Direction) → group_of (fold with_line fresh lines) direction ≡ last_said (said.group_said direction) lines
group-by-lines lines In = last-counts with_line (λ b. group_of b In) (said.group_said In) (group-step In) lines fresh
group-by-lines lines Out = last-counts with_line (λ b. group_of b Out) (said.group_said Out) (group-step Out) lines fresh

pub interface-lines : (lines : List InterfaceLine) → IsInterfaceByLines (fold with_line fresh lines) lines
interface-lines lines = record {
  primary = last-counts with_line (λ b. b.primary) said.primary_said primary-step lines fresh;
  secondary = all-in-order with_line (λ b. b.secondary) said.secondary_said secondary-step lines fresh;
  shutdown = last-or-default with_line (λ b. b.shutdown) said.shutdown_said shutdown-step lines fresh;
  bandwidth = last-counts with_line (λ b. b.bandwidth) said.bandwidth_said bandwidth-step lines fresh;
  group = group-by-lines lines;
  cost = last-counts with_line (λ b. b.ospf.cost) said.cost_said cost-step lines fresh;
  hello = last-counts with_line (λ b. b.ospf.hello) said.hello_said hello-step lines fresh;
  dead = last-counts with_line (λ b. b.ospf.dead) said.dead_said dead-step lines fresh;
  network = last-counts with_line (λ b. b.ospf.network) said.network_type_said network-step lines fresh;
  area = λ process. last-counts with_line (λ b. with_number ospf.process_of process b.ospf.areas) (said.area_said process) (area-step process) lines fresh;
}
