-- Worked cases of what a configuration says of OSPF, each by computation.
use Rattle.std.specs.Prelude.{◌≡◌, ℕ, true, false, List, [], ◌∷◌, Option, Some, None, fold, map, option_map, codes, refl}
use Rattle.rc_config.specs.declared.command.Command.{Command}
use Rattle.rc_config.specs.declared.command.Command.TheVariants.{Hostname, Interface, OspfOpened, InterfaceLine}
use Rattle.rc_config.specs.declared.command.Command.TheVariants as command
use Rattle.rc_config.specs.declared.interface.InterfaceLine.TheVariants as interface_line
use Rattle.rc_config.specs.declared.ospf.NetworkType.TheVariants.{Broadcast, PointToPoint}
use Rattle.rc_config.specs.declared.ospf.OspfArea.{OspfArea}
use Rattle.rc_config.specs.declared.ospf.OspfLine.{OspfLine}
use Rattle.rc_config.specs.declared.ospf.OspfLine.TheVariants.{RouterId, Network, PassiveDefault, Passive, ReferenceBandwidth, Stub, Redistribute, DefaultInformation}
use Rattle.rc_config.specs.declared.ospf.OspfNetwork.{OspfNetwork}
use Rattle.rc_config.specs.declared.ospf.OspfProcess.{OspfProcess}
use Rattle.rc_config.specs.declared.ospf.OspfSetting.TheVariants.{Cost, HelloInterval, DeadInterval, NetworkType, Area}
use Rattle.rc_config.specs.declared.ospf.RedistributedSource.{RedistributedSource}
use Rattle.rc_config.specs.declared.ospf.RedistributedSource.TheVariants.{Connected, Static, Bgp}
use Rattle.rc_config.specs.declared.ospf.Redistribution.{Redistribution}
use Rattle.rc_config.specs.declared.ospf.StubArea.{StubArea}
use Rattle.rc_config.specs.declared.sets.MetricType.TheVariants.{Type1, Type2}
use Rattle.rc_config.specs.declared.router_text.RouterText.{RouterText}
use Rattle.rc_config.specs.Interface.{fresh}
use Rattle.rc_config.specs.Ospf.{is_passive, no_lines, no_settings}
use Rattle.rc_config.specs.Update.{after, empty, interface_named}

-- the model of a file whose lines say these commands
abbrev file : List Command → RouterText
file commands = fold after empty commands

abbrev port : List ℕ
port = codes "Serial0/0"

-- the process 1 with these lines in its block
abbrev process : List OspfLine → Option OspfProcess
process lines = (fold (λ r line. after r (command.OspfLine line)) (after empty (OspfOpened 1)) lines).ospf

abbrev network : ℕ → ℕ → OspfNetwork
network address area = record { address = address; wildcard = 255; area = area }

-- a process without lines: cost 1 is that of 100 Mbit/s, and nothing is passive, redistributed or a stub
pub opened : process [] ≡ Some (record {
  process = 1;
  router_id = None;
  networks = [];
  passive_default = false;
  passive = [];
  reference_bandwidth = 100;
  stub_areas = [];
  redistributions = [];
  default_information = None;
})
opened = refl

-- `network` lines stand in file order, the same one twice too
pub networks_as_written : option_map (λ p. p.networks) (process (Network (network 512 3) ∷ Network (network 256 0) ∷ Network (network 512 3) ∷ [])) ≡ Some (network 512 3 ∷ network 256 0 ∷ network 512 3 ∷ [])
networks_as_written = refl

-- of the router ID and the reference bandwidth the last line counts
pub last_counts : process (RouterId 1 ∷ ReferenceBandwidth 1000 ∷ RouterId 2 ∷ ReferenceBandwidth 10 ∷ []) ≡ Some (record (no_lines 1) { router_id = Some 2; reference_bandwidth = 10 })
last_counts = refl

-- the last line about an interface counts, whether `passive-interface default` stands before or behind it
pub last_about_it : option_map (λ p. is_passive p port) (process (Passive port true ∷ Passive port false ∷ PassiveDefault ∷ [])) ≡ Some false
last_about_it = refl

pub about_it_again : option_map (λ p. is_passive p port) (process (PassiveDefault ∷ Passive port false ∷ Passive port true ∷ [])) ≡ Some true
about_it_again = refl

-- an interface of which no line speaks is as the default says
pub by_default : option_map (λ p. is_passive p port) (process (Passive (codes "Serial0/1") false ∷ PassiveDefault ∷ [])) ≡ Some true
by_default = refl

pub not_by_default : option_map (λ p. is_passive p port) (process (Passive (codes "Serial0/1") true ∷ [])) ≡ Some false
not_by_default = refl

-- `no passive-interface default` is about an interface of that name, and leaves the others passive
pub default_stays : option_map (λ p. is_passive p port) (process (PassiveDefault ∷ Passive (codes "default") false ∷ [])) ≡ Some true
default_stays = refl

-- a process that is opened again keeps its lines
pub opened_again : (file (OspfOpened 1 ∷ command.OspfLine (RouterId 7) ∷ Hostname port 3 ∷ OspfOpened 1 ∷ command.OspfLine PassiveDefault ∷ [])).ospf ≡ Some (record (no_lines 1) { router_id = Some 7; passive_default = true })
opened_again = refl

-- stub areas stand by number, and of two lines about one area the later counts with its own options alone
abbrev stub : ℕ → StubArea
stub area = record { area = area; no_summary = false }

abbrev totally_stub : ℕ → StubArea
totally_stub area = record { area = area; no_summary = true }

pub stubs_by_number : option_map (λ p. p.stub_areas) (process (Stub (stub 7) ∷ Stub (totally_stub 3) ∷ [])) ≡ Some (totally_stub 3 ∷ stub 7 ∷ [])
stubs_by_number = refl

pub flag_dropped : option_map (λ p. p.stub_areas) (process (Stub (totally_stub 3) ∷ Stub (stub 7) ∷ Stub (stub 3) ∷ [])) ≡ Some (stub 3 ∷ stub 7 ∷ [])
flag_dropped = refl

pub flag_added : option_map (λ p. p.stub_areas) (process (Stub (stub 3) ∷ Stub (totally_stub 3) ∷ [])) ≡ Some (totally_stub 3 ∷ [])
flag_added = refl

-- of two `redistribute` lines about one source the later counts with its own options alone, and others stay
abbrev plain : RedistributedSource → Redistribution
plain source = record { source = source; metric = None; metric_type = None; subnets = false; route_map = None }

abbrev costly : RedistributedSource → Redistribution
costly source = record (plain source) { metric = Some 5; metric_type = Some Type1; subnets = true }

pub each_source : option_map (λ p. p.redistributions) (process (Redistribute (costly Static) ∷ Redistribute (plain Connected) ∷ [])) ≡ Some (costly Static ∷ plain Connected ∷ [])
each_source = refl

pub options_dropped : option_map (λ p. p.redistributions) (process (Redistribute (costly Static) ∷ Redistribute (costly Connected) ∷ Redistribute (plain Static) ∷ [])) ≡ Some (costly Connected ∷ plain Static ∷ [])
options_dropped = refl

-- an AS of another number is no other source
pub one_bgp : option_map (λ p. p.redistributions) (process (Redistribute (costly (Bgp 1)) ∷ Redistribute (plain (Bgp 2)) ∷ [])) ≡ Some (plain (Bgp 2) ∷ [])
one_bgp = refl

-- of the default that is sent the last line counts
pub last_default : option_map (λ p. p.default_information)
    (process (DefaultInformation (record { always = true; metric = Some 5; metric_type = Some Type2 }) ∷ DefaultInformation (record { always = false; metric = None; metric_type = Some Type1 }) ∷ []))
    ≡ Some (Some (record { always = false; metric = None; metric_type = Some Type1 }))
last_default = refl

-- other lines leave the process as it is, and a `passive-interface` line declares no interface
pub process_left : file (OspfOpened 1 ∷ command.OspfLine (Passive port true) ∷ []) ≡ record empty { ospf = Some (record (no_lines 1) { passive = (port, true) ∷ [] }) }
process_left = refl

pub left_by_others : (file (OspfOpened 9 ∷ Interface port 2 ∷ InterfaceLine port (interface_line.Ospf (Cost 5)) ∷ InterfaceLine port (interface_line.Shutdown true) ∷ [])).ospf ≡ Some (no_lines 9)
left_by_others = refl

-- the `ip ospf` lines of an interface: of each kind the last one counts, and they need no process
pub settings : interface_named (file (Interface port 1 ∷ InterfaceLine port (interface_line.Ospf (Cost 5)) ∷ InterfaceLine port (interface_line.Ospf (HelloInterval 3)) ∷ InterfaceLine port (interface_line.Ospf (Cost 6)) ∷ InterfaceLine port (interface_line.Ospf (NetworkType Broadcast)) ∷ InterfaceLine port (interface_line.Ospf (NetworkType PointToPoint)) ∷ [])) port
    ≡ record fresh { ospf = record no_settings { cost = Some 6; hello = Some 3; network = Some PointToPoint } }
settings = refl

-- an area is that of one process: a line of another process neither sets nor erases it, whichever of them stands first
abbrev in_area : ℕ → ℕ → OspfArea
in_area process area = record { process = process; area = area }

abbrev areas : List OspfArea → List OspfArea
areas lines = (interface_named (file (Interface port 1 ∷ map (λ a. InterfaceLine port (interface_line.Ospf (Area a))) lines)) port).ospf.areas

pub other_process_later : areas (in_area 1 0 ∷ in_area 2 5 ∷ []) ≡ in_area 1 0 ∷ in_area 2 5 ∷ []
other_process_later = refl

pub other_process_before : areas (in_area 2 5 ∷ in_area 1 0 ∷ []) ≡ in_area 1 0 ∷ in_area 2 5 ∷ []
other_process_before = refl

-- of two lines of one process the later counts, also with one of another process between them
pub same_process_later : areas (in_area 1 0 ∷ in_area 1 3 ∷ []) ≡ in_area 1 3 ∷ []
same_process_later = refl

pub same_process_between : areas (in_area 1 0 ∷ in_area 2 5 ∷ in_area 1 3 ∷ []) ≡ in_area 1 3 ∷ in_area 2 5 ∷ []
same_process_between = refl

-- other lines leave an area, and an area leaves what they set
pub area_and_others : interface_named (file (Interface port 1 ∷ InterfaceLine port (interface_line.Ospf (Area (in_area 1 0))) ∷ InterfaceLine port (interface_line.Ospf (DeadInterval 20)) ∷ InterfaceLine port (interface_line.Ospf (Area (in_area 2 5))) ∷ [])) port
    ≡ record fresh { ospf = record no_settings { dead = Some 20; areas = in_area 1 0 ∷ in_area 2 5 ∷ [] } }
area_and_others = refl
