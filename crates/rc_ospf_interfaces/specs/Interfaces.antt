-- The interfaces on which OSPF runs (RFC 2328 s.9), from the files of a network.
use Rattle.std.specs.Prelude.{ℕ, ◌*◌, ◌/◌, ◌==◌, min, max, bit_or, Bool, if◌then◌else◌, List, [], length, Option, Some, None, unwrap_or, is_some, option_and_then, slice_get}
use Rattle.std.specs.List.{filter_map, flat_map, find, range_with_len}
use Rattle.std.specs.Option.{option_map, option_map_or, option_or}
use Rattle.rc_base.specs.declared.position.IfId.{IfId}
use Rattle.rc_config.specs.ByNumber.{with_number}
use Rattle.rc_config.specs.Down.{Entries, is_down, prefix_of}
use Rattle.rc_config.specs.IfType.{type_of, nominal_bandwidth}
use Rattle.rc_config.specs.Members.{router_at, router_ids}
use Rattle.rc_config.specs.Ospf.{is_passive, process_of}
use Rattle.rc_config.specs.declared.if_type.IfType.{IfType}
use Rattle.rc_config.specs.declared.if_type.IfType.TheVariants.{Serial}
use Rattle.rc_config.specs.declared.interface.IfAddr.{IfAddr}
use Rattle.rc_config.specs.declared.interface.Interface.{Interface}
use Rattle.rc_config.specs.declared.network.Network.{Network}
use Rattle.rc_config.specs.declared.ospf.NetworkType.{NetworkType}
use Rattle.rc_config.specs.declared.ospf.NetworkType.TheVariants.{Broadcast, PointToPoint}
use Rattle.rc_config.specs.declared.ospf.OspfArea.{OspfArea}
use Rattle.rc_config.specs.declared.ospf.OspfNetwork.{OspfNetwork}
use Rattle.rc_config.specs.declared.ospf.OspfProcess.{OspfProcess}
use Rattle.rc_config.specs.declared.ospf.OspfSettings.{OspfSettings}
use Rattle.rc_config.specs.declared.ospf.StubArea.{StubArea}
use Rattle.rc_config.specs.declared.router_text.RouterText.{RouterText}
use Rattle.rc_ospf_interfaces.specs.declared.interface.OspfInterface.{OspfInterface}

-- a `network` line matches an address: they agree in the bits whose wildcard bit is 0
abbrev pub is_matched : ℕ → OspfNetwork → Bool
is_matched a line = bit_or a line.wildcard == bit_or line.address line.wildcard

-- the area of the first line that matches
abbrev pub area_by_line : OspfProcess → ℕ → Option ℕ
area_by_line p a = option_map (λ (line : OspfNetwork). line.area) (find (is_matched a) p.networks)

-- that of `ip ospf P area N` for this process, whatever such lines say of other ones
abbrev pub area_by_setting : OspfProcess → OspfSettings → Option ℕ
area_by_setting p settings = option_map (λ (a : OspfArea). a.area) (with_number process_of p.process settings.areas)

-- which wins over the lines
abbrev pub area_of : OspfProcess → OspfSettings → ℕ → Option ℕ
area_of p settings a = option_or (area_by_setting p settings) (area_by_line p a)

-- in kbit/s: that of its block, else that of its type
abbrev pub bandwidth_of : Option IfType → Interface → ℕ
bandwidth_of kind i = unwrap_or i.bandwidth (option_map_or nominal_bandwidth kind 0)

-- the configured cost, else the reference bandwidth over the bandwidth, rounded down; at least 1 and at most 65,535
abbrev pub cost_of : OspfProcess → Option IfType → Interface → ℕ
cost_of p kind i = min 65535 (max 1 (unwrap_or i.ospf.cost (p.reference_bandwidth * 1000 / bandwidth_of kind i)))

-- point-to-point on a serial line, broadcast elsewhere
abbrev pub network_by_type : Option IfType → NetworkType
network_by_type (Some Serial) = PointToPoint
network_by_type _ = Broadcast

abbrev pub network_of : Option IfType → OspfSettings → NetworkType
network_of kind settings = unwrap_or settings.network (network_by_type kind)

-- in seconds; without a dead interval it is four times the hello interval
abbrev pub hello_of : OspfSettings → ℕ
hello_of settings = unwrap_or settings.hello 10

abbrev pub dead_of : OspfSettings → ℕ
dead_of settings = unwrap_or settings.dead (4 * hello_of settings)

-- what a process says of an area as a stub area (RFC 2328 s.3.6)
abbrev pub stub_of : OspfProcess → ℕ → Option StubArea
stub_of p area = with_number (λ (s : StubArea). s.area) area p.stub_areas

-- the OSPF interface of an interface with this primary address, in an area
abbrev pub ospf_interface : OspfProcess → IfId → List ℕ → Interface → IfAddr → ℕ → OspfInterface
ospf_interface p id name i primary area = record {
  id = id;
  area = area;
  cost = cost_of p (type_of name) i;
  addr = primary.addr;
  prefix = prefix_of primary;
  network = network_of (type_of name) i.ospf;
  hello = hello_of i.ospf;
  dead = dead_of i.ospf;
  is_stub = is_some (stub_of p area);
  is_passive = is_passive p name;
}

-- an interface is one where it is up, has a primary address, and has an area
abbrev pub interface_on : Entries → OspfProcess → IfId → List ℕ × Interface → Option OspfInterface
interface_on entries p id e =
    if is_down entries e.0 then None
    else option_and_then (λ (primary : IfAddr). option_map (ospf_interface p id e.0 e.1 primary) (area_of p e.1.ospf primary.addr)) e.1.primary

-- the OSPF interface at an index of a file, where OSPF runs on it
abbrev pub interface_at : ℕ → Entries → OspfProcess → ℕ → Option OspfInterface
interface_at r entries p index = option_and_then (interface_on entries p (record { router = r; index = index })) (slice_get entries index)

-- those of a file, where it has a process
abbrev pub interfaces_of : ℕ → RouterText → List OspfInterface
interfaces_of r file = option_map_or (λ (p : OspfProcess). filter_map (interface_at r file.interfaces p) (range_with_len 0 (length file.interfaces))) file.ospf []

-- those of a router, none where there is no such router
abbrev pub interfaces_at : Network → ℕ → List OspfInterface
interfaces_at net r = option_map_or (interfaces_of r) (router_at net r) []

-- the interfaces on which OSPF runs, by router and as declared: those that are up, have a primary address and are in an area, of routers
-- with a process (RFC 2328 s.9)
unfoldable pub ospf_interfaces : Network → List OspfInterface
ospf_interfaces net = flat_map (interfaces_at net) (router_ids net)
