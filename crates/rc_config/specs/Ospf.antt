-- What a configuration says of OSPF (RFC 2328): the settings of interfaces and the process of a router, by their lines.
use Rattle.std.specs.Prelude.{ℕ, ◌≤◌, Bool, true, false, not, List, [], ◌∷◌, ◌++◌, All, filter, Some, None, unwrap_or, IfSome}
use Rattle.rc_config.specs.ByNumber.{placed}
use Rattle.rc_config.specs.Named.{named, with_value}
use Rattle.rc_config.specs.declared.ospf.OspfArea.{OspfArea}
use Rattle.rc_config.specs.declared.ospf.OspfLine.{OspfLine}
use Rattle.rc_config.specs.declared.ospf.OspfLine.TheVariants.{RouterId, Network, PassiveDefault, Passive, ReferenceBandwidth, Stub, Redistribute, DefaultInformation}
use Rattle.rc_config.specs.declared.ospf.OspfProcess.{OspfProcess}
use Rattle.rc_config.specs.declared.ospf.OspfSetting.{OspfSetting}
use Rattle.rc_config.specs.declared.ospf.OspfSetting.TheVariants.{Cost, HelloInterval, DeadInterval, NetworkType, Area}
use Rattle.rc_config.specs.declared.ospf.OspfSettings.{OspfSettings}
use Rattle.rc_config.specs.declared.ospf.RedistributedSource.{RedistributedSource}
use Rattle.rc_config.specs.declared.ospf.RedistributedSource.TheVariants.{Connected, Static, Bgp}
use Rattle.rc_config.specs.declared.ospf.Redistribution.{Redistribution}
use Rattle.rc_config.specs.declared.ospf.StubArea.{StubArea}

-- an interface of which no `ip ospf` line says anything
abbrev pub no_settings : OspfSettings
no_settings = record { cost = None; hello = None; dead = None; network = None; areas = [] }

-- the number of the process by which an area stands
abbrev pub process_of : OspfArea → ℕ
process_of a = a.process

-- what is set after one more line: it counts in place of an earlier one of its kind, and an area in place of one of the same process
abbrev pub with_setting : OspfSettings → OspfSetting → OspfSettings
with_setting s (Cost n) = record s { cost = Some n }
with_setting s (HelloInterval n) = record s { hello = Some n }
with_setting s (DeadInterval n) = record s { dead = Some n }
with_setting s (NetworkType type) = record s { network = Some type }
with_setting s (Area area) = record s { areas = placed process_of area s.areas }

-- an OSPF process with no line in its block: the bandwidth of cost 1 is 100 Mbit/s
abbrev pub no_lines : ℕ → OspfProcess
no_lines process = record {
  process = process;
  router_id = None;
  networks = [];
  passive_default = false;
  passive = [];
  reference_bandwidth = 100;
  stub_areas = [];
  redistributions = [];
  default_information = None;
}

-- the number by which a stub area stands
abbrev pub area_of : StubArea → ℕ
area_of s = s.area

-- one source, whatever the number of an AS
abbrev pub is_same_source : RedistributedSource → RedistributedSource → Bool
is_same_source Connected Connected = true
is_same_source Static Static = true
is_same_source (Bgp m) (Bgp n) = true
is_same_source _ _ = false

-- what is redistributed with one more line: it counts in place of an earlier one from the same source
abbrev pub with_redistribution : List Redistribution → Redistribution → List Redistribution
with_redistribution known line = filter (λ (other : Redistribution). not (is_same_source other.source line.source)) known ++ line ∷ []

-- The process with one more line. A `network` line goes behind the others, and any other counts in place of an earlier one of its kind,
-- with its own options alone; so does a `passive-interface` line in place of one about the same interface, an `area` line in place of
-- one about the same area, and a `redistribute` line in place of one about the same source.
abbrev pub with_line : OspfProcess → OspfLine → OspfProcess
with_line p (RouterId id) = record p { router_id = Some id }
with_line p (Network network) = record p { networks = p.networks ++ network ∷ [] }
with_line p PassiveDefault = record p { passive_default = true }
with_line p (Passive interface passive) = record p { passive = with_value p.passive interface passive }
with_line p (ReferenceBandwidth mbits) = record p { reference_bandwidth = mbits }
with_line p (Stub area) = record p { stub_areas = placed area_of area p.stub_areas }
with_line p (Redistribute line) = record p { redistributions = with_redistribution p.redistributions line }
with_line p (DefaultInformation line) = record p { default_information = Some line }

-- an interface is passive by the last line that names it, and else by default
abbrev pub is_passive : OspfProcess → List ℕ → Bool
is_passive p interface = unwrap_or (named p.passive interface) p.passive_default

-- costs, intervals and numbers of processes
abbrev pub IsOspfNumber : ℕ → Type 0
IsOspfNumber n = (1 ≤ n) × (n ≤ 65535)

-- from 1 to 4,294,967 Mbit/s
abbrev pub IsReferenceBandwidth : ℕ → Type 0
IsReferenceBandwidth mbits = (1 ≤ mbits) × (mbits ≤ 4294967)

-- an area that may be a stub: it isn't the backbone (RFC 2328 s.3.6)
abbrev pub IsStubArea : StubArea → Type 0
IsStubArea s = 1 ≤ s.area

-- a metric, where there is one, below LSInfinity (RFC 2328 appendix B), which is 16,777,215
abbrev pub IsRedistribution : Redistribution → Type 0
IsRedistribution line = IfSome line.metric (λ n. n ≤ 16777214)

-- values in range
pub record IsLawfulOspf (s : OspfSettings) : Type 0 where
  pub cost : IfSome s.cost IsOspfNumber
  pub hello : IfSome s.hello IsOspfNumber
  pub dead : IfSome s.dead IsOspfNumber
  pub areas : All (λ (a : OspfArea). IsOspfNumber a.process) s.areas

abbrev pub IsLawfulSetting : OspfSetting → Type 0
IsLawfulSetting (Cost n) = IsOspfNumber n
IsLawfulSetting (HelloInterval n) = IsOspfNumber n
IsLawfulSetting (DeadInterval n) = IsOspfNumber n
IsLawfulSetting (NetworkType type) = Unit {0}
IsLawfulSetting (Area area) = IsOspfNumber area.process

pub record IsLawfulProcess (p : OspfProcess) : Type 0 where
  pub process : IsOspfNumber p.process
  pub reference_bandwidth : IsReferenceBandwidth p.reference_bandwidth
  pub stub_areas : All IsStubArea p.stub_areas
  pub redistributions : All IsRedistribution p.redistributions

abbrev pub IsLawfulOspfLine : OspfLine → Type 0
IsLawfulOspfLine (RouterId id) = Unit {0}
IsLawfulOspfLine (Network network) = Unit {0}
IsLawfulOspfLine PassiveDefault = Unit {0}
IsLawfulOspfLine (Passive interface passive) = Unit {0}
IsLawfulOspfLine (ReferenceBandwidth mbits) = IsReferenceBandwidth mbits
IsLawfulOspfLine (Stub area) = IsStubArea area
IsLawfulOspfLine (Redistribute line) = IsRedistribution line
IsLawfulOspfLine (DefaultInformation line) = Unit {0}
