-- Worked cases of what a configuration says of BGP, each by computation.
use Rattle.std.specs.Prelude.{◌≡◌, ℕ, ◌+◌, true, false, List, [], ◌∷◌, Option, Some, None, fold, option_map, codes, refl}
use Rattle.rc_base.specs.Prefix.{Cidr, prefix_at}
use Rattle.rc_config.specs.Bgp.{fresh, no_lines}
use Rattle.rc_config.specs.Classes.{natural_length}
use Rattle.rc_config.specs.Settings.{no_settings}
use Rattle.rc_config.specs.Update.{after, empty}
use Rattle.rc_config.specs.declared.bgp.BgpLine.{BgpLine}
use Rattle.rc_config.specs.declared.bgp.BgpLine.TheVariants as line
use Rattle.rc_config.specs.declared.bgp.BgpProcess.{BgpProcess}
use Rattle.rc_config.specs.declared.bgp.BgpRedistribution.{BgpRedistribution}
use Rattle.rc_config.specs.declared.bgp.Neighbor.{Neighbor}
use Rattle.rc_config.specs.declared.bgp.NeighborSetting.{NeighborSetting}
use Rattle.rc_config.specs.declared.bgp.NeighborSetting.TheVariants.{RemoteAs, UpdateSource, EbgpMultihop, Shutdown, NextHopSelf, DefaultOriginate, SendCommunity, Weight, RouteMap, PrefixList}
use Rattle.rc_config.specs.declared.bgp.OspfRedistribution.{OspfRedistribution}
use Rattle.rc_config.specs.declared.command.Command.{Command}
use Rattle.rc_config.specs.declared.command.Command.TheVariants.{Hostname, Interface, InterfaceLine, OspfOpened, BgpOpened}
use Rattle.rc_config.specs.declared.command.Command.TheVariants as command
use Rattle.rc_config.specs.declared.interface.InterfaceLine.TheVariants as interface_line
use Rattle.rc_config.specs.declared.interface.Direction.TheVariants.{In, Out}
use Rattle.rc_config.specs.declared.peering.Peer.TheVariants as peer
use Rattle.rc_config.specs.declared.route_map.Mention.{Mention}
use Rattle.rc_config.specs.declared.router_text.RouterText.{RouterText}
use Rattle.rc_config.specs.declared.settings.Settings.{Settings}

-- the model of a file whose lines say these commands
abbrev file : List Command → RouterText
file commands = fold after empty commands

-- the process of AS 65001 with these lines in its block
abbrev process : List BgpLine → Option BgpProcess
process lines = (fold (λ r l. after r (command.BgpLine l)) (after empty (BgpOpened 65001)) lines).bgp

-- the neighbours after these lines
abbrev neighbors : List BgpLine → Option (List Neighbor)
neighbors lines = option_map (λ p. p.neighbors) (process lines)

abbrev about : ℕ → NeighborSetting → BgpLine
about address setting = line.Setting (peer.Address address) setting

-- the neighbour of an address with these settings
abbrev has : ℕ → Settings → Neighbor
has address settings = record (fresh address) { settings = settings }

-- a process without lines has no router id, one path a prefix, no network and no neighbour, and redistributes nothing
pub opened : process [] ≡ Some (record {
  asn = 65001;
  router_id = None;
  maximum_paths = record { external = 1; internal = 1 };
  networks = [];
  neighbors = [];
  redistributions = record { connected = None; static_routes = None; ospf = [] };
  peering = record { groups = []; members = []; activities = []; is_active_by_default = true };
})
opened = refl

-- of the router id the last line counts
pub last_id : process (line.RouterId 1 ∷ line.RouterId 2 ∷ []) ≡ Some (record (no_lines 65001) { router_id = Some 2 })
last_id = refl

-- of each number of paths the last line counts, and a line of the other kind leaves it as it is
pub paths_of_each_kind : (option_map (λ p. p.maximum_paths) (process (line.MaximumExternalPaths 4 ∷ line.MaximumInternalPaths 32 ∷ line.MaximumExternalPaths 2 ∷ [])) ≡ Some (record { external = 2; internal = 32 }))
    × (option_map (λ p. p.maximum_paths) (process (line.MaximumInternalPaths 3 ∷ [])) ≡ Some (record { external = 1; internal = 3 }))
    × (option_map (λ p. p.maximum_paths) (process (line.MaximumExternalPaths 3 ∷ line.MaximumExternalPaths 1 ∷ [])) ≡ Some (record { external = 1; internal = 1 }))
paths_of_each_kind = (refl, refl, refl)

abbrev ten : ℕ → Cidr
ten n = prefix_at (0x0a000000 + n) 24

-- `network` lines stand in file order, the same one twice too
pub networks_as_written : option_map (λ p. p.networks) (process (line.Network (ten 512) ∷ line.Network (ten 256) ∷ line.Network (ten 512) ∷ [])) ≡ Some (ten 512 ∷ ten 256 ∷ ten 512 ∷ [])
networks_as_written = refl

-- a neighbour is there from its first line on, whatever it says
pub one_setting : neighbors (about 7 (Weight 5) ∷ []) ≡ Some (has 7 (record no_settings { weight = Some 5 }) ∷ [])
one_setting = refl

-- neighbours stand by address, whatever the order of their lines
pub by_address : neighbors (about 9 Shutdown ∷ about 7 (RemoteAs 1) ∷ about 8 (RemoteAs 2) ∷ [])
    ≡ Some (has 7 (record no_settings { remote_as = Some 1 }) ∷ has 8 (record no_settings { remote_as = Some 2 }) ∷ has 9 (record no_settings { is_shutdown = true }) ∷ [])
by_address = refl

-- of each kind the last line about a neighbour counts, and lines about others leave it as it is
pub last_counts : neighbors (about 7 (RemoteAs 1) ∷ about 8 (RemoteAs 4) ∷ about 7 (UpdateSource (codes "Lo0")) ∷ about 7 (RemoteAs 2) ∷ about 7 (UpdateSource (codes "Lo1")) ∷ about 7 (Weight 3) ∷ about 7 (Weight 0) ∷ [])
    ≡ Some (has 7 (record no_settings { remote_as = Some 2; update_source = Some (codes "Lo1"); weight = Some 0 }) ∷ has 8 (record no_settings { remote_as = Some 4 }) ∷ [])
last_counts = refl

pub flags : neighbors (about 7 EbgpMultihop ∷ about 7 Shutdown ∷ about 7 NextHopSelf ∷ about 7 DefaultOriginate ∷ about 7 SendCommunity ∷ about 7 EbgpMultihop ∷ [])
    ≡ Some (has 7 (record no_settings { is_multihop = true; is_shutdown = true; next_hop_self = true; default_originate = true; send_community = true }) ∷ [])
flags = refl

abbrev named : List ℕ → ℕ → Mention
named name number = record { name = name; line = number }

-- route maps and prefix lists are those of the last line of each direction
pub maps : neighbors (about 7 (RouteMap (named (codes "A") 3) In) ∷ about 7 (RouteMap (named (codes "B") 4) Out) ∷ about 7 (RouteMap (named (codes "C") 5) In) ∷ [])
    ≡ Some (has 7 (record no_settings { map_in = Some (named (codes "C") 5); map_out = Some (named (codes "B") 4) }) ∷ [])
maps = refl

pub lists : neighbors (about 7 (PrefixList (named (codes "A") 3) Out) ∷ about 7 (PrefixList (named (codes "B") 4) In) ∷ about 7 (PrefixList (named (codes "C") 5) Out) ∷ [])
    ≡ Some (has 7 (record no_settings { list_in = Some (named (codes "B") 4); list_out = Some (named (codes "C") 5) }) ∷ [])
lists = refl

abbrev with_metric : ℕ → BgpRedistribution
with_metric n = record { metric = Some n; route_map = None }

abbrev with_map : BgpRedistribution
with_map = record { metric = None; route_map = Some (named (codes "M") 6) }

abbrev of_process : ℕ → BgpRedistribution → OspfRedistribution
of_process n r = record { process = n; kinds = record { internal = true; external_1 = false; external_2 = true }; redistribution = r }

-- a later line of one source counts, with its own options alone; OSPF processes of two numbers are two sources
pub redistributed : option_map (λ p. p.redistributions) (process (
    line.RedistributeConnected (with_metric 3)
    ∷ line.RedistributeStatic (with_metric 4)
    ∷ line.RedistributeOspf (of_process 9 (with_metric 5))
    ∷ line.RedistributeConnected with_map
    ∷ line.RedistributeOspf (of_process 1 (with_metric 6))
    ∷ line.RedistributeOspf (of_process 9 with_map)
    ∷ []))
    ≡ Some (record { connected = Some with_map; static_routes = Some (with_metric 4); ospf = of_process 1 (with_metric 6) ∷ of_process 9 with_map ∷ [] })
redistributed = refl

-- a process that is opened again keeps its lines
pub opened_again : (file (BgpOpened 1 ∷ command.BgpLine (line.RouterId 7) ∷ Hostname (codes "R1") 3 ∷ BgpOpened 1 ∷ command.BgpLine (about 8 (RemoteAs 2)) ∷ [])).bgp
    ≡ Some (record (no_lines 1) { router_id = Some 7; neighbors = has 8 (record no_settings { remote_as = Some 2 }) ∷ [] })
opened_again = refl

-- other lines leave the process as it is, and its lines leave all else as it is
pub left_by_others : (file (BgpOpened 9 ∷ Interface (codes "Lo0") 2 ∷ InterfaceLine (codes "Lo0") (interface_line.Shutdown true) ∷ OspfOpened 1 ∷ [])).bgp ≡ Some (no_lines 9)
left_by_others = refl

pub leaves_others : file (BgpOpened 9 ∷ command.BgpLine (about 7 (UpdateSource (codes "Lo0"))) ∷ []) ≡ record empty { bgp = Some (record (no_lines 9) { neighbors = has 7 (record no_settings { update_source = Some (codes "Lo0") }) ∷ [] }) }
leaves_others = refl

-- a line without a process says nothing
pub no_process : file (command.BgpLine (line.RouterId 7) ∷ []) ≡ empty
no_process = refl

-- the natural lengths, at the edges of the classes
pub classes :
    (natural_length 0 ≡ Some 8)
    × (natural_length 0x7fffffff ≡ Some 8)
    × (natural_length 0x80000000 ≡ Some 16)
    × (natural_length 0xbfffffff ≡ Some 16)
    × (natural_length 0xc0000000 ≡ Some 24)
    × (natural_length 0xdfffffff ≡ Some 24)
    × (natural_length 0xe0000000 ≡ None)
    × (natural_length 0xffffffff ≡ None)
classes = (refl, refl, refl, refl, refl, refl, refl, refl)
