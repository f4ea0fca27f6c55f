-- Worked cases of what is named and not defined, each by computation.
use Rattle.std.specs.Prelude.{◌≡◌, ℕ, true, false, List, [], ◌∷◌, ◌++◌, fold, map, Some, None, codes, refl}
use Rattle.rc_config.specs.AccessList.{host_address, standard_line}
use Rattle.rc_config.specs.Bgp.{no_lines}
use Rattle.rc_config.specs.Settings.{no_settings}
use Rattle.rc_config.specs.Update.{after, empty}
use Rattle.rc_config.specs.declared.bgp.BgpLine.TheVariants as bgp
use Rattle.rc_config.specs.declared.bgp.BgpRedistribution.{BgpRedistribution}
use Rattle.rc_config.specs.declared.bgp.NeighborSetting.{NeighborSetting}
use Rattle.rc_config.specs.declared.bgp.NeighborSetting.TheVariants as setting
use Rattle.rc_config.specs.declared.command.Command.{Command}
use Rattle.rc_config.specs.declared.command.Command.TheVariants as command
use Rattle.rc_config.specs.declared.lists.ListLine.TheVariants as list_line
use Rattle.rc_config.specs.declared.access_list.Action.TheVariants.{Permit}
use Rattle.rc_config.specs.declared.access_list.AccessListKind.TheVariants.{Standard, Extended}
use Rattle.rc_config.specs.declared.interface.Direction.TheVariants.{In, Out}
use Rattle.rc_config.specs.declared.map_line.MapLine.TheVariants.{Match, Set}
use Rattle.rc_config.specs.declared.map_line.MatchKind.{MatchKind}
use Rattle.rc_config.specs.declared.map_line.MatchKind.TheVariants.{AccessList, PrefixList, CommunityList}
use Rattle.rc_config.specs.declared.map_line.SetLine.TheVariants.{Weight}
use Rattle.rc_config.specs.declared.ospf.OspfLine.TheVariants.{Redistribute}
use Rattle.rc_config.specs.declared.ospf.RedistributedSource.{RedistributedSource}
use Rattle.rc_config.specs.declared.ospf.RedistributedSource.TheVariants as source
use Rattle.rc_config.specs.declared.peering.Peer.TheVariants as peer
use Rattle.rc_config.specs.declared.route_map.Mention.{Mention}
use Rattle.rc_config.specs.declared.router_text.RouterText.{RouterText}
use Rattle.rc_base.specs.Prefix.{prefix_at}
use Rattle.rc_network.specs.Build.{Model, first_refusal, under_host}
use Rattle.rc_network.specs.Step.{gathered_of}
use Rattle.rc_network.specs.Undefined.{lower, undefined_line}
use Rattle.rc_network.specs.declared.refusal.NetCause.TheVariants.{TwiceNamed, Undefined}
use Rattle.rc_network.specs.declared.refusal.NetRefusal.TheVariants.{InFile}

-- the model of a file whose lines say these commands
abbrev file : List Command → RouterText
file commands = fold after empty commands

abbrev one : List ℕ
one = codes "ONE"

abbrev two : List ℕ
two = codes "TWO"

-- a `match` line of this number, in the block of the entry of this number of a route map
abbrev matching : ℕ → MatchKind → List (List ℕ) → ℕ → List Command
matching entry kind names line = command.MapOpened (codes "M") entry Permit ∷ command.MapLine (codes "M") entry (Match kind names line) ∷ []

-- a line of a list of each kind
abbrev access_line : List ℕ → Command
access_line name = command.ListLine name (list_line.AccessListLine Standard (standard_line 10 Permit (host_address 7)))

abbrev prefix_line : List ℕ → Command
prefix_line name = command.ListLine name (list_line.PrefixLine (record { sequence = 5; action = Permit; prefix = prefix_at 0 0; ge = None; le = None }))

abbrev community_line : List ℕ → Command
community_line name = command.ListLine name (list_line.CommunityLine (record { action = Permit; communities = 7 ∷ [] }))

-- a list that no line defines, of each kind
pub no_access_list : undefined_line (file (matching 10 AccessList (one ∷ []) 5)) ≡ Some 5
no_access_list = refl

pub no_prefix_list : undefined_line (file (matching 10 PrefixList (one ∷ []) 5)) ≡ Some 5
no_prefix_list = refl

pub no_community_list : undefined_line (file (matching 10 CommunityList (one ∷ []) 5)) ≡ Some 5
no_community_list = refl

-- a line of a list defines it, also behind the line that names it
pub access_list_defined : undefined_line (file (access_line one ∷ matching 10 AccessList (one ∷ []) 5)) ≡ None
access_list_defined = refl

pub prefix_list_defined : undefined_line (file (matching 10 PrefixList (one ∷ []) 5 ++ prefix_line one ∷ [])) ≡ None
prefix_list_defined = refl

pub community_list_defined : undefined_line (file (matching 10 CommunityList (one ∷ []) 5 ++ community_line one ∷ [])) ≡ None
community_list_defined = refl

-- so does a line that opens it, if no line of it comes
pub opened_alone : undefined_line (file (command.ListLine one (list_line.AccessListOpened Standard) ∷ matching 10 AccessList (one ∷ []) 5)) ≡ None
opened_alone = refl

-- an extended access list is none that a route map matches by
pub extended : undefined_line (file (command.ListLine one (list_line.AccessListOpened Extended) ∷ matching 10 AccessList (one ∷ []) 5)) ≡ Some 5
extended = refl

-- a remark defines nothing, nor does a list of another kind under the name
pub remark_alone : undefined_line (file (command.Remark ∷ matching 10 AccessList (one ∷ []) 5)) ≡ Some 5
remark_alone = refl

pub other_kinds : undefined_line (file (access_line one ∷ community_line one ∷ matching 10 PrefixList (one ∷ []) 5)) ≡ Some 5
other_kinds = refl

-- each name of a line counts
pub second_name : undefined_line (file (prefix_line one ∷ matching 10 PrefixList (one ∷ two ∷ []) 5)) ≡ Some 5
second_name = refl

-- The least line counts: also where its entry, its route map or its kind of list stands behind that of a later line. Entries stand by
-- number.
pub least_of_entries : undefined_line (file (matching 20 PrefixList (one ∷ []) 5 ++ matching 10 PrefixList (one ∷ []) 7)) ≡ Some 5
least_of_entries = refl

pub least_of_kinds : undefined_line (file (matching 10 CommunityList (one ∷ []) 5 ++ matching 10 AccessList (one ∷ []) 6)) ≡ Some 5
least_of_kinds = refl

pub least_of_maps : undefined_line (file (command.MapOpened (codes "N") 10 Permit ∷ matching 10 PrefixList (one ∷ []) 6 ++ command.MapLine (codes "N") 10 (Match PrefixList (one ∷ []) 8) ∷ [])) ≡ Some 6
least_of_maps = refl

-- the first undefined name and not the first list
pub first_is_defined : undefined_line (file (prefix_line one ∷ matching 10 PrefixList (one ∷ []) 5 ++ matching 20 PrefixList (two ∷ []) 7)) ≡ Some 7
first_is_defined = refl

-- the lower of two lines, and the one where there is no other
pub lower_first : lower (Some 5) (Some 6) ≡ Some 5
lower_first = refl

pub lower_second : lower (Some 6) (Some 5) ≡ Some 5
lower_second = refl

pub lower_alone : lower (Some 5) None ≡ Some 5
lower_alone = refl

pub lower_other : lower None (Some 5) ≡ Some 5
lower_other = refl

pub lower_none : lower None None ≡ None
lower_none = refl

-- a route map without `match` lines names nothing
pub no_match_line : undefined_line (file (command.MapOpened (codes "M") 10 Permit ∷ command.MapLine (codes "M") 10 (Set (Weight 7)) ∷ [])) ≡ None
no_match_line = refl

-- a `redistribute` line of this number, in the block of a process, and one that names no route map
abbrev redistributing : RedistributedSource → List ℕ → ℕ → Command
redistributing source name line = command.OspfLine (Redistribute (record { source = source; metric = None; metric_type = None; subnets = false; route_map = Some (record { name = name; line = line }) }))

abbrev redistributing_all : RedistributedSource → Command
redistributing_all source = command.OspfLine (Redistribute (record { source = source; metric = None; metric_type = None; subnets = false; route_map = None }))

-- a `redistribute` line names a route map, which one of its lines opens, in front of it or behind it
pub no_route_map : undefined_line (file (command.OspfOpened 1 ∷ redistributing source.Static one 5 ∷ [])) ≡ Some 5
no_route_map = refl

pub route_map_defined : undefined_line (file (command.MapOpened one 10 Permit ∷ command.OspfOpened 1 ∷ redistributing source.Static one 5 ∷ [])) ≡ None
route_map_defined = refl

pub route_map_behind : undefined_line (file (command.OspfOpened 1 ∷ redistributing source.Connected one 5 ∷ command.MapOpened one 10 Permit ∷ [])) ≡ None
route_map_behind = refl

-- lists of the name define no route map
pub lists_alone : undefined_line (file (access_line one ∷ prefix_line one ∷ community_line one ∷ command.OspfOpened 1 ∷ redistributing source.Static one 5 ∷ [])) ≡ Some 5
lists_alone = refl

-- a line that a later one about its source replaces names nothing, and one about another source does
pub replaced : undefined_line (file (command.OspfOpened 1 ∷ redistributing source.Static one 5 ∷ redistributing_all source.Static ∷ [])) ≡ None
replaced = refl

pub replaced_by_another : undefined_line (file (command.OspfOpened 1 ∷ redistributing source.Static one 5 ∷ redistributing source.Static two 7 ∷ [])) ≡ Some 7
replaced_by_another = refl

pub other_source : undefined_line (file (command.OspfOpened 1 ∷ redistributing source.Static one 5 ∷ redistributing_all source.Connected ∷ [])) ≡ Some 5
other_source = refl

-- the least line counts, whether a `match` or a `redistribute` line
pub match_first : undefined_line (file (matching 10 PrefixList (one ∷ []) 4 ++ command.OspfOpened 1 ∷ redistributing source.Static two 6 ∷ [])) ≡ Some 4
match_first = refl

pub redistribute_first : undefined_line (file (command.OspfOpened 1 ∷ redistributing source.Static two 3 ∷ matching 10 PrefixList (one ∷ []) 6)) ≡ Some 3
redistribute_first = refl

pub least_of_sources : undefined_line (file (command.OspfOpened 1 ∷ redistributing source.Static one 6 ∷ redistributing source.Connected two 4 ∷ [])) ≡ Some 4
least_of_sources = refl

-- a line about a neighbour, in the block of a process
abbrev about : ℕ → NeighborSetting → Command
about address setting = command.BgpLine (bgp.Setting (peer.Address address) setting)

abbrev at : List ℕ → ℕ → Mention
at name line = record { name = name; line = line }

-- a neighbour's route map and prefix list have to be there, of each direction
pub neighbor_map : undefined_line (file (command.BgpOpened 1 ∷ about 7 (setting.RouteMap (at one 5) In) ∷ [])) ≡ Some 5
neighbor_map = refl

pub neighbor_map_defined : undefined_line (file (command.BgpOpened 1 ∷ about 7 (setting.RouteMap (at one 5) Out) ∷ command.MapOpened one 10 Permit ∷ [])) ≡ None
neighbor_map_defined = refl

pub neighbor_list : undefined_line (file (command.BgpOpened 1 ∷ about 7 (setting.PrefixList (at one 5) Out) ∷ [])) ≡ Some 5
neighbor_list = refl

pub neighbor_list_defined : undefined_line (file (prefix_line one ∷ command.BgpOpened 1 ∷ about 7 (setting.PrefixList (at one 5) In) ∷ [])) ≡ None
neighbor_list_defined = refl

-- a prefix list is no route map, and a route map no prefix list
pub list_for_map : undefined_line (file (prefix_line one ∷ command.BgpOpened 1 ∷ about 7 (setting.RouteMap (at one 5) In) ∷ [])) ≡ Some 5
list_for_map = refl

pub map_for_list : undefined_line (file (command.MapOpened one 10 Permit ∷ command.BgpOpened 1 ∷ about 7 (setting.PrefixList (at one 5) In) ∷ [])) ≡ Some 5
map_for_list = refl

-- of each direction the last line about a neighbour names, and lines about others name too
pub neighbor_replaced : undefined_line (file (command.MapOpened two 10 Permit ∷ command.BgpOpened 1 ∷ about 7 (setting.RouteMap (at one 5) In) ∷ about 7 (setting.RouteMap (at two 6) In) ∷ [])) ≡ None
neighbor_replaced = refl

pub other_direction : undefined_line (file (command.MapOpened two 10 Permit ∷ command.BgpOpened 1 ∷ about 7 (setting.RouteMap (at one 5) In) ∷ about 7 (setting.RouteMap (at two 6) Out) ∷ [])) ≡ Some 5
other_direction = refl

pub other_neighbor : undefined_line (file (command.MapOpened two 10 Permit ∷ command.BgpOpened 1 ∷ about 9 (setting.RouteMap (at one 5) In) ∷ about 7 (setting.RouteMap (at two 6) In) ∷ [])) ≡ Some 5
other_neighbor = refl

-- a line about a peer group
abbrev shared : NeighborSetting → Command
shared setting = command.BgpLine (bgp.Setting (peer.Group (codes "UP")) setting)

-- what a peer group names has to be there, also where it has no member, or where its member has a line of its own
pub group_names :
    (undefined_line (file (command.BgpOpened 1 ∷ command.BgpLine (bgp.GroupDeclared (codes "UP")) ∷ shared (setting.RouteMap (at one 5) In) ∷ [])) ≡ Some 5)
    × (undefined_line (file (command.BgpOpened 1 ∷ command.BgpLine (bgp.GroupDeclared (codes "UP")) ∷ shared (setting.PrefixList (at one 5) Out) ∷ [])) ≡ Some 5)
    × (undefined_line (file (command.MapOpened two 10 Permit ∷ command.BgpOpened 1 ∷ command.BgpLine (bgp.GroupDeclared (codes "UP")) ∷ command.BgpLine (bgp.MemberOf 7 (codes "UP")) ∷ about 7 (setting.RouteMap (at two 4) In) ∷ shared (setting.RouteMap (at one 5) In) ∷ [])) ≡ Some 5)
    × (undefined_line (file (command.MapOpened one 10 Permit ∷ command.BgpOpened 1 ∷ command.BgpLine (bgp.GroupDeclared (codes "UP")) ∷ shared (setting.RouteMap (at one 5) In) ∷ [])) ≡ None)
group_names = (refl, refl, refl, refl)

-- what redistributes into BGP by a route map
abbrev by_map : List ℕ → ℕ → BgpRedistribution
by_map name line = record { metric = None; route_map = Some (at name line) }

abbrev plain : BgpRedistribution
plain = record { metric = Some 5; route_map = None }

abbrev from_ospf : ℕ → BgpRedistribution → Command
from_ospf process r = command.BgpLine (bgp.RedistributeOspf (record { process = process; kinds = record { internal = true; external_1 = false; external_2 = false }; redistribution = r }))

pub sources_into_bgp :
    (undefined_line (file (command.BgpOpened 1 ∷ command.BgpLine (bgp.RedistributeConnected (by_map one 5)) ∷ [])) ≡ Some 5)
    × (undefined_line (file (command.BgpOpened 1 ∷ command.BgpLine (bgp.RedistributeStatic (by_map one 5)) ∷ [])) ≡ Some 5)
    × (undefined_line (file (command.BgpOpened 1 ∷ from_ospf 3 (by_map one 5) ∷ [])) ≡ Some 5)
    × (undefined_line (file (command.MapOpened one 10 Permit ∷ command.BgpOpened 1 ∷ from_ospf 3 (by_map one 5) ∷ command.BgpLine (bgp.RedistributeStatic (by_map one 6)) ∷ [])) ≡ None)
sources_into_bgp = (refl, refl, refl, refl)

-- a later line of the same source replaces, and one of another process doesn't
pub sources_replaced :
    (undefined_line (file (command.BgpOpened 1 ∷ command.BgpLine (bgp.RedistributeStatic (by_map one 5)) ∷ command.BgpLine (bgp.RedistributeStatic plain) ∷ [])) ≡ None)
    × (undefined_line (file (command.BgpOpened 1 ∷ from_ospf 3 (by_map one 5) ∷ from_ospf 3 plain ∷ [])) ≡ None)
    × (undefined_line (file (command.BgpOpened 1 ∷ from_ospf 3 (by_map one 5) ∷ from_ospf 4 plain ∷ [])) ≡ Some 5)
sources_replaced = (refl, refl, refl)

-- the least line counts, of whatever kind
pub least_of_all : undefined_line (file (matching 10 PrefixList (one ∷ []) 9 ++ command.OspfOpened 1 ∷ redistributing source.Static one 8 ∷ command.BgpOpened 1 ∷ about 7 (setting.RouteMap (at one 7) In)
    ∷ about 7 (setting.PrefixList (at one 6) Out) ∷ from_ospf 3 (by_map one 5) ∷ [])) ≡ Some 5
least_of_all = refl

-- the file of a router, whose first line gives the host name
abbrev router : List ℕ → List ℕ → List Command → Model
router name host commands = (name, file (command.Hostname host 1 ∷ commands))

abbrev first : List ℕ
first = codes "a.cfg"

abbrev second : List ℕ
second = codes "b.cfg"

abbrev naming : ℕ → List Command
naming line = matching 10 PrefixList (one ∷ []) line

-- of two files the first counts, whatever their lines and host names
pub first_file : first_refusal (router first (codes "r2") (naming 7) ∷ router second (codes "r1") (naming 5) ∷ []) ≡ Some (InFile first 7 Undefined)
first_file = refl

-- what is gathered of them stands as they come
abbrev both : List Model
both = router first (codes "r2") (naming 7) ∷ router second (codes "r1") (naming 5) ∷ []

pub gathered_as_they_come : map (λ e. e.0) (gathered_of both).routers ≡ codes "r2" ∷ codes "r1" ∷ []
gathered_as_they_come = refl

pub gathered_first : (gathered_of both).undefined ≡ Some (InFile first 7 Undefined)
gathered_first = refl

-- a list of another file doesn't count
pub defined_elsewhere : first_refusal (router first (codes "r1") (prefix_line one ∷ []) ∷ router second (codes "r2") (naming 5) ∷ []) ≡ Some (InFile second 5 Undefined)
defined_elsewhere = refl

-- a host name that is there already comes first, also behind a file that names what it does not define
pub host_name_first : first_refusal (router first (codes "r1") (naming 5) ∷ router second (codes "r1") [] ∷ []) ≡ Some (InFile second 1 TwiceNamed)
host_name_first = refl

pub none_refused : first_refusal (router first (codes "r1") (prefix_line one ∷ naming 5) ∷ router second (codes "r2") [] ∷ []) ≡ None
none_refused = refl

-- a router has what holds of its neighbours in the end, by whatever order of lines, and no groups
pub settled_neighbors : (under_host (router first (codes "r1") (command.BgpOpened 1 ∷ command.BgpLine (bgp.GroupDeclared (codes "UP")) ∷ command.BgpLine (bgp.MemberOf 7 (codes "UP")) ∷ about 7 (setting.Weight 0) ∷ shared (setting.RemoteAs 2) ∷ shared (setting.Weight 5)
    ∷ command.BgpLine (bgp.Active (peer.Group (codes "UP")) false) ∷ []))).1.bgp
    ≡ Some (record (no_lines 1) { neighbors = record { address = 7; settings = record no_settings { remote_as = Some 2; weight = Some 0 }; is_active = false } ∷ [] })
settled_neighbors = refl
