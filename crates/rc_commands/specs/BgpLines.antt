-- Which lines in the block of the BGP process say a value of it: that of the last line that says it counts, and no other line matters. The lines of
-- a neighbour are told first, by its address, and those of a peer group by its name.
use Rattle.std.specs.Prelude.{◌≡◌, ℕ, ◌==◌, Bool, true, false, if◌then◌else◌, List, Option, Some, None, unwrap_or}
use Rattle.std.specs.List.{filter_map}
use Rattle.std.specs.Map.{keys_of}
use Rattle.std.specs.Option.{option_map}
use Rattle.rc_base.specs.Lists.{first_seen}
use Rattle.rc_base.specs.Name.{same_name}
use Rattle.rc_base.specs.Prefix.{Cidr}
use Rattle.rc_config.specs.Bgp.{address_of, neighbor_at, process_of as ospf_number}
use Rattle.rc_config.specs.ByNumber.{with_number}
use Rattle.rc_config.specs.Peering.{group_named, member_address, own_activity}
use Rattle.rc_config.specs.declared.bgp.BgpProcess.{BgpProcess}
use Rattle.rc_config.specs.declared.bgp.BgpRedistribution.{BgpRedistribution}
use Rattle.rc_config.specs.declared.bgp.NeighborSetting.TheVariants as peer
use Rattle.rc_config.specs.declared.bgp.OspfRedistribution.{OspfRedistribution}
use Rattle.rc_config.specs.declared.interface.Direction.TheVariants.{In, Out}
use Rattle.rc_config.specs.declared.route_map.Mention.{Mention}
use Rattle.rc_commands.specs.Said.{last_said}
use Rattle.rc_config.specs.declared.bgp.BgpLine.{BgpLine}
use Rattle.rc_config.specs.declared.bgp.BgpLine.TheVariants as bgp_line
use Rattle.rc_config.specs.declared.bgp.NeighborSetting.{NeighborSetting}
use Rattle.rc_config.specs.declared.peering.Member.{Member}
use Rattle.rc_config.specs.declared.peering.Peer.TheVariants as whom
use Rattle.rc_config.specs.declared.settings.Settings.{Settings}

abbrev pub bgp_router_id_said : BgpLine → Option ℕ
bgp_router_id_said (bgp_line.RouterId id) = Some id
bgp_router_id_said _ = None

-- `maximum-paths N`
abbrev pub external_paths_said : BgpLine → Option ℕ
external_paths_said (bgp_line.MaximumExternalPaths number) = Some number
external_paths_said _ = None

-- `maximum-paths ibgp N`
abbrev pub internal_paths_said : BgpLine → Option ℕ
internal_paths_said (bgp_line.MaximumInternalPaths number) = Some number
internal_paths_said _ = None

abbrev pub bgp_network_said : BgpLine → Option Cidr
bgp_network_said (bgp_line.Network prefix) = Some prefix
bgp_network_said _ = None

abbrev pub redistributed_connected_said : BgpLine → Option BgpRedistribution
redistributed_connected_said (bgp_line.RedistributeConnected line) = Some line
redistributed_connected_said _ = None

abbrev pub redistributed_static_said : BgpLine → Option BgpRedistribution
redistributed_static_said (bgp_line.RedistributeStatic line) = Some line
redistributed_static_said _ = None

-- `redistribute ospf N`, of this process
abbrev pub redistributed_ospf_said : ℕ → BgpLine → Option OspfRedistribution
redistributed_ospf_said process (bgp_line.RedistributeOspf line) = if line.process == process then Some line else None
redistributed_ospf_said _ _ = None

-- ---- neighbours and peer groups

-- a line that makes the neighbour of an address one of the process: one that sets something of it, or makes it a member of a group
abbrev pub neighbor_said : ℕ → BgpLine → Option ℕ
neighbor_said address (bgp_line.Setting (whom.Address a) setting) = if a == address then Some a else None
neighbor_said address (bgp_line.MemberOf a name) = if a == address then Some a else None
neighbor_said _ _ = None

-- what a `neighbor` line about this address sets
abbrev pub setting_said : ℕ → BgpLine → Option NeighborSetting
setting_said address (bgp_line.Setting (whom.Address a) setting) = if a == address then Some setting else None
setting_said _ _ = None

-- the group that a line declares or is about
abbrev pub group_said : BgpLine → Option (List ℕ)
group_said (bgp_line.GroupDeclared name) = Some name
group_said (bgp_line.Setting (whom.Group name) setting) = Some name
group_said (bgp_line.Active (whom.Group name) is_active) = Some name
group_said _ = None

-- what a `neighbor` line about the group of this name sets
abbrev pub shared_said : List ℕ → BgpLine → Option NeighborSetting
shared_said name (bgp_line.Setting (whom.Group g) setting) = if same_name name g then Some setting else None
shared_said _ _ = None

-- the group of which a line makes the neighbour of this address a member
abbrev pub membership_said : ℕ → BgpLine → Option (List ℕ)
membership_said address (bgp_line.MemberOf a name) = if a == address then Some name else None
membership_said _ _ = None

-- whether an `activate` line makes the neighbour of this address active, or takes that back
abbrev pub activity_said : ℕ → BgpLine → Option Bool
activity_said address (bgp_line.Active (whom.Address a) is_active) = if a == address then Some is_active else None
activity_said _ _ = None

-- and the same of the group of this name
abbrev pub shared_activity_said : List ℕ → BgpLine → Option Bool
shared_activity_said name (bgp_line.Active (whom.Group g) is_active) = if same_name name g then Some is_active else None
shared_activity_said _ _ = None

-- `no bgp default ipv4-unicast`
abbrev pub default_activity_said : BgpLine → Option Bool
default_activity_said bgp_line.InactiveByDefault = Some false
default_activity_said _ = None

-- ---- what a line sets

abbrev pub remote_as_said : NeighborSetting → Option ℕ
remote_as_said (peer.RemoteAs asn) = Some asn
remote_as_said _ = None

abbrev pub update_source_said : NeighborSetting → Option (List ℕ)
update_source_said (peer.UpdateSource interface) = Some interface
update_source_said _ = None

abbrev pub multihop_said : NeighborSetting → Option Bool
multihop_said peer.EbgpMultihop = Some true
multihop_said _ = None

abbrev pub neighbor_shutdown_said : NeighborSetting → Option Bool
neighbor_shutdown_said peer.Shutdown = Some true
neighbor_shutdown_said _ = None

abbrev pub next_hop_self_said : NeighborSetting → Option Bool
next_hop_self_said peer.NextHopSelf = Some true
next_hop_self_said _ = None

abbrev pub default_originate_said : NeighborSetting → Option Bool
default_originate_said peer.DefaultOriginate = Some true
default_originate_said _ = None

abbrev pub send_community_said : NeighborSetting → Option Bool
send_community_said peer.SendCommunity = Some true
send_community_said _ = None

abbrev pub neighbor_weight_said : NeighborSetting → Option ℕ
neighbor_weight_said (peer.Weight weight) = Some weight
neighbor_weight_said _ = None

abbrev pub map_in_said : NeighborSetting → Option Mention
map_in_said (peer.RouteMap map In) = Some map
map_in_said _ = None

abbrev pub map_out_said : NeighborSetting → Option Mention
map_out_said (peer.RouteMap map Out) = Some map
map_out_said _ = None

abbrev pub list_in_said : NeighborSetting → Option Mention
list_in_said (peer.PrefixList list In) = Some list
list_in_said _ = None

abbrev pub list_out_said : NeighborSetting → Option Mention
list_out_said (peer.PrefixList list Out) = Some list
list_out_said _ = None

-- what is set of a neighbour or of a group, by what the lines about it say
pub record IsSettingsByLines (s : Settings) (lines : List NeighborSetting) : Type 0 where
  pub remote_as : s.remote_as ≡ last_said remote_as_said lines
  pub update_source : s.update_source ≡ last_said update_source_said lines
  pub is_multihop : s.is_multihop ≡ unwrap_or (last_said multihop_said lines) false
  pub is_shutdown : s.is_shutdown ≡ unwrap_or (last_said neighbor_shutdown_said lines) false
  pub next_hop_self : s.next_hop_self ≡ unwrap_or (last_said next_hop_self_said lines) false
  pub default_originate : s.default_originate ≡ unwrap_or (last_said default_originate_said lines) false
  pub send_community : s.send_community ≡ unwrap_or (last_said send_community_said lines) false
  pub weight : s.weight ≡ last_said neighbor_weight_said lines
  pub map_in : s.map_in ≡ last_said map_in_said lines
  pub map_out : s.map_out ≡ last_said map_out_said lines
  pub list_in : s.list_in ≡ last_said list_in_said lines
  pub list_out : s.list_out ≡ last_said list_out_said lines

-- what the block of the BGP process says, by its lines
pub record IsBgpByLines (p : BgpProcess) (lines : List BgpLine) : Type 0 where
  pub router_id : p.router_id ≡ last_said bgp_router_id_said lines
  pub external_paths : p.maximum_paths.external ≡ unwrap_or (last_said external_paths_said lines) 1
  pub internal_paths : p.maximum_paths.internal ≡ unwrap_or (last_said internal_paths_said lines) 1
  pub networks : p.networks ≡ filter_map bgp_network_said lines
  pub neighbors : (address : ℕ) → option_map address_of (with_number address_of address p.neighbors) ≡ last_said (neighbor_said address) lines
  pub neighbor : (address : ℕ) → IsSettingsByLines (neighbor_at p.neighbors address).settings (filter_map (setting_said address) lines)
  pub groups : keys_of p.peering.groups ≡ first_seen same_name (filter_map group_said lines)
  pub group : (name : List ℕ) → IsSettingsByLines (group_named p.peering name).settings (filter_map (shared_said name) lines)
  pub member : (address : ℕ) → option_map (λ (m : Member). m.group) (with_number member_address address p.peering.members) ≡ last_said (membership_said address) lines
  pub activity : (address : ℕ) → own_activity p.peering address ≡ last_said (activity_said address) lines
  pub group_activity : (name : List ℕ) → (group_named p.peering name).is_active ≡ last_said (shared_activity_said name) lines
  pub is_active_by_default : p.peering.is_active_by_default ≡ unwrap_or (last_said default_activity_said lines) true
  pub connected : p.redistributions.connected ≡ last_said redistributed_connected_said lines
  pub static_routes : p.redistributions.static_routes ≡ last_said redistributed_static_said lines
  pub ospf : (process : ℕ) → with_number ospf_number process p.redistributions.ospf ≡ last_said (redistributed_ospf_said process) lines
