-- What a configuration says of BGP (RFC 4271): the process of a router, its neighbours and what it redistributes, by their lines.
use Rattle.std.specs.Prelude.{ℕ, ◌≤◌, true, false, List, [], ◌∷◌, ◌++◌, map, Some, None, unwrap_or}
use Rattle.rc_config.specs.ByNumber.{placed, with_number, IsByNumber}
use Rattle.rc_config.specs.Peering.{no_peering, settled_in, with_activity, with_declared, with_member, with_shared}
use Rattle.rc_config.specs.Settings.{no_settings, with_setting}
use Rattle.rc_config.specs.declared.bgp.BgpLine.{BgpLine}
use Rattle.rc_config.specs.declared.bgp.BgpLine.TheVariants as line
use Rattle.rc_config.specs.declared.bgp.BgpProcess.{BgpProcess}
use Rattle.rc_config.specs.declared.bgp.BgpRedistributions.{BgpRedistributions}
use Rattle.rc_config.specs.declared.bgp.MaximumPaths.{MaximumPaths}
use Rattle.rc_config.specs.declared.bgp.Neighbor.{Neighbor}
use Rattle.rc_config.specs.declared.bgp.NeighborSetting.{NeighborSetting}
use Rattle.rc_config.specs.declared.bgp.OspfRedistribution.{OspfRedistribution}
use Rattle.rc_config.specs.declared.peering.Peer.{Peer}
use Rattle.rc_config.specs.declared.peering.Peer.TheVariants as peer

-- the address by which a neighbour stands among others
abbrev pub address_of : Neighbor → ℕ
address_of n = n.address

-- a neighbour of which no line says anything
abbrev pub fresh : ℕ → Neighbor
fresh address = record { address = address; settings = no_settings; is_active = true }

-- what the lines say of the neighbour of an address
abbrev pub neighbor_at : List Neighbor → ℕ → Neighbor
neighbor_at neighbors address = unwrap_or (with_number address_of address neighbors) (fresh address)

-- the neighbour with one more line that sets something of it
abbrev pub with_own : Neighbor → NeighborSetting → Neighbor
with_own n setting = record n { settings = with_setting n.settings setting }

-- the neighbours with one more such line about that of an address
abbrev pub with_neighbor : List Neighbor → ℕ → NeighborSetting → List Neighbor
with_neighbor neighbors address setting = placed address_of (with_own (neighbor_at neighbors address) setting) neighbors

-- the neighbours with that of an address, which stays as it is where it is there
abbrev pub with_address : List Neighbor → ℕ → List Neighbor
with_address neighbors address = placed address_of (neighbor_at neighbors address) neighbors

-- the number of the process by which a redistribution from OSPF stands among others
abbrev pub process_of : OspfRedistribution → ℕ
process_of o = o.process

abbrev pub no_redistributions : BgpRedistributions
no_redistributions = record { connected = None; static_routes = None; ospf = [] }

-- one path of a prefix, external or internal
abbrev pub one_path : MaximumPaths
one_path = record { external = 1; internal = 1 }

-- a process with no line in its block
abbrev pub no_lines : ℕ → BgpProcess
no_lines asn = record { asn = asn; router_id = None; maximum_paths = one_path; networks = []; neighbors = []; redistributions = no_redistributions; peering = no_peering }

-- a `neighbor` line that sets something of a neighbour or of a group
abbrev pub with_setting_of : BgpProcess → Peer → NeighborSetting → BgpProcess
with_setting_of p (peer.Address a) setting = record p { neighbors = with_neighbor p.neighbors a setting }
with_setting_of p (peer.Group name) setting = record p { peering = with_shared p.peering name setting }

-- a member of a group is a neighbour, also where no other line is about it
abbrev pub with_member_of : BgpProcess → ℕ → List ℕ → BgpProcess
with_member_of p a name = record p { neighbors = with_address p.neighbors a; peering = with_member p.peering a name }

-- The process with one more line. A `network` line goes behind the others, and any other counts in place of an earlier one; so do a
-- `neighbor` line in place of one about the same neighbour or group, and a `redistribute` line in place of one of the same source.
abbrev pub with_line : BgpProcess → BgpLine → BgpProcess
with_line p (line.RouterId id) = record p { router_id = Some id }
with_line p (line.MaximumExternalPaths number) = record p { maximum_paths = record p.maximum_paths { external = number } }
with_line p (line.MaximumInternalPaths number) = record p { maximum_paths = record p.maximum_paths { internal = number } }
with_line p (line.Network prefix) = record p { networks = p.networks ++ prefix ∷ [] }
with_line p (line.Setting whom setting) = with_setting_of p whom setting
with_line p (line.Active whom is_active) = record p { peering = with_activity p.peering whom is_active }
with_line p (line.GroupDeclared name) = record p { peering = with_declared p.peering name }
with_line p (line.MemberOf a name) = with_member_of p a name
with_line p line.InactiveByDefault = record p { peering = record p.peering { is_active_by_default = false } }
with_line p (line.RedistributeConnected r) = record p { redistributions = record p.redistributions { connected = Some r } }
with_line p (line.RedistributeStatic r) = record p { redistributions = record p.redistributions { static_routes = Some r } }
with_line p (line.RedistributeOspf r) = record p { redistributions = record p.redistributions { ospf = placed process_of r p.redistributions.ospf } }

-- the process with what holds of each neighbour in the end, and without groups
abbrev pub settled : BgpProcess → BgpProcess
settled p = record p { neighbors = map (settled_in p.peering) p.neighbors; peering = no_peering }

-- the number of an AS, below 2 ^ 32 as each number here
abbrev pub IsAsn : ℕ → Type 0
IsAsn asn = 1 ≤ asn

-- how many paths of a prefix a line may allow
abbrev pub IsPathNumber : ℕ → Type 0
IsPathNumber number = (1 ≤ number) × (number ≤ 32)

-- a line whose values are in range
abbrev pub IsLawfulBgpLine : BgpLine → Type 0
IsLawfulBgpLine (line.MaximumExternalPaths number) = IsPathNumber number
IsLawfulBgpLine (line.MaximumInternalPaths number) = IsPathNumber number
IsLawfulBgpLine _ = Unit {0}

-- the number of the AS and those of paths are in range, and neighbours stand by address, each once
pub record IsLawfulBgp (p : BgpProcess) : Type 0 where
  pub asn : IsAsn p.asn
  pub external_paths : IsPathNumber p.maximum_paths.external
  pub internal_paths : IsPathNumber p.maximum_paths.internal
  pub in_order : IsByNumber address_of p.neighbors
