-- Which lines in the block of the OSPF process say a value of it: that of the last line that says it counts, and no other line matters.
use Rattle.std.specs.Prelude.{◌≡◌, ℕ, ◌==◌, Bool, true, false, if◌then◌else◌, List, [], filter, Option, Some, None, unwrap_or}
use Rattle.std.specs.List.{cons_option, filter_map}
use Rattle.rc_base.specs.Name.{same_name}
use Rattle.rc_config.specs.ByNumber.{with_number}
use Rattle.rc_config.specs.Ospf.{area_of, is_passive, is_same_source}
use Rattle.rc_config.specs.declared.ospf.DefaultInformation.{DefaultInformation}
use Rattle.rc_config.specs.declared.ospf.OspfNetwork.{OspfNetwork}
use Rattle.rc_config.specs.declared.ospf.OspfProcess.{OspfProcess}
use Rattle.rc_config.specs.declared.ospf.RedistributedSource.{RedistributedSource}
use Rattle.rc_config.specs.declared.ospf.Redistribution.{Redistribution}
use Rattle.rc_config.specs.declared.ospf.StubArea.{StubArea}
use Rattle.rc_commands.specs.Said.{last_said}
use Rattle.rc_config.specs.declared.ospf.OspfLine.{OspfLine}
use Rattle.rc_config.specs.declared.ospf.OspfLine.TheVariants as ospf_line

abbrev pub router_id_said : OspfLine → Option ℕ
router_id_said (ospf_line.RouterId id) = Some id
router_id_said _ = None

abbrev pub network_said : OspfLine → Option OspfNetwork
network_said (ospf_line.Network network) = Some network
network_said _ = None

-- `passive-interface default`
abbrev pub passive_default_said : OspfLine → Option Bool
passive_default_said ospf_line.PassiveDefault = Some true
passive_default_said _ = None

-- `passive-interface IF` and `no passive-interface IF`, of this interface
abbrev pub passive_said : List ℕ → OspfLine → Option Bool
passive_said name (ospf_line.Passive interface passive) = if same_name name interface then Some passive else None
passive_said _ _ = None

abbrev pub reference_bandwidth_said : OspfLine → Option ℕ
reference_bandwidth_said (ospf_line.ReferenceBandwidth mbits) = Some mbits
reference_bandwidth_said _ = None

-- `area N stub`, of this area
abbrev pub stub_said : ℕ → OspfLine → Option StubArea
stub_said area (ospf_line.Stub stub) = if stub.area == area then Some stub else None
stub_said _ _ = None

-- `redistribute`, of this source
abbrev pub redistribution_said : RedistributedSource → OspfLine → Option Redistribution
redistribution_said source (ospf_line.Redistribute line) = if is_same_source line.source source then Some line else None
redistribution_said _ _ = None

abbrev pub default_information_said : OspfLine → Option DefaultInformation
default_information_said (ospf_line.DefaultInformation line) = Some line
default_information_said _ = None

-- what is redistributed from a source
abbrev pub redistributions_from : RedistributedSource → List Redistribution → List Redistribution
redistributions_from source known = filter (λ (r : Redistribution). is_same_source r.source source) known

-- what the block of the OSPF process says, by its lines
pub record IsProcessByLines (p : OspfProcess) (lines : List OspfLine) : Type 0 where
  pub router_id : p.router_id ≡ last_said router_id_said lines
  pub networks : p.networks ≡ filter_map network_said lines
  pub passive_default : p.passive_default ≡ unwrap_or (last_said passive_default_said lines) false
  pub passive : (name : List ℕ) → is_passive p name ≡ unwrap_or (last_said (passive_said name) lines) p.passive_default
  pub reference_bandwidth : p.reference_bandwidth ≡ unwrap_or (last_said reference_bandwidth_said lines) 100
  pub stub : (area : ℕ) → with_number area_of area p.stub_areas ≡ last_said (stub_said area) lines
  pub redistribution : (source : RedistributedSource) → redistributions_from source p.redistributions ≡ cons_option (last_said (redistribution_said source) lines) []
  pub default_information : p.default_information ≡ last_said default_information_said lines
