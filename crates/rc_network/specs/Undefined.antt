-- What the lines of a file name (IOS `match`, `redistribute` and `neighbor`), and what of it the file doesn't define.
use Rattle.std.specs.Prelude.{ℕ, min, Bool, true, false, not, List, [], ◌∷◌, ◌++◌, map, filter, Option, Some, None, is_some}
use Rattle.std.specs.List.{flat_map, reduce}
use Rattle.std.specs.Option.{option_map_or}
use Rattle.rc_config.specs.Named.{named}
use Rattle.rc_config.specs.declared.access_list.AccessListKind.{AccessListKind}
use Rattle.rc_config.specs.declared.access_list.AccessListKind.TheVariants.{Standard, Extended}
use Rattle.rc_config.specs.declared.bgp.BgpProcess.{BgpProcess}
use Rattle.rc_config.specs.declared.bgp.BgpRedistribution.{BgpRedistribution}
use Rattle.rc_config.specs.declared.bgp.BgpRedistributions.{BgpRedistributions}
use Rattle.rc_config.specs.declared.bgp.Neighbor.{Neighbor}
use Rattle.rc_config.specs.declared.bgp.OspfRedistribution.{OspfRedistribution}
use Rattle.rc_config.specs.declared.ospf.OspfProcess.{OspfProcess}
use Rattle.rc_config.specs.declared.ospf.Redistribution.{Redistribution}
use Rattle.rc_config.specs.declared.peering.Group.{Group}
use Rattle.rc_config.specs.declared.route_map.MapEntry.{MapEntry}
use Rattle.rc_config.specs.declared.route_map.Mention.{Mention}
use Rattle.rc_config.specs.declared.route_map.RouteMap.{RouteMap}
use Rattle.rc_config.specs.declared.router_text.RouterText.{RouterText}
use Rattle.rc_config.specs.declared.settings.Settings.{Settings}
use Rattle.rc_network.specs.declared.undefined.NamedKind.{NamedKind}
use Rattle.rc_network.specs.declared.undefined.NamedKind.TheVariants as kind

-- what a line names: of which kind it is, its name, and the number of the line
abbrev pub NamedThing : Type 0
NamedThing = NamedKind × Mention

abbrev pub of_kind : NamedKind → List Mention → List NamedThing
of_kind kind mentions = map (λ m. (kind, m)) mentions

-- the lists that the `match` lines of an entry name
abbrev pub named_by_entry : MapEntry → List NamedThing
named_by_entry e = of_kind kind.AccessList e.access_lists ++ of_kind kind.PrefixList e.prefix_lists ++ of_kind kind.CommunityList e.community_lists

-- those of a route map, and of all route maps of a file
abbrev pub named_by_map : RouteMap → List NamedThing
named_by_map m = flat_map named_by_entry m.entries

abbrev pub named_by_maps : List (List ℕ × RouteMap) → List NamedThing
named_by_maps maps = flat_map (λ e. named_by_map e.1) maps

-- the route map that a `redistribute` line names. A line that a later one replaces isn't there any more, and names nothing.
abbrev pub named_by_redistribution : Redistribution → List NamedThing
named_by_redistribution line = option_map_or (λ m. (kind.RouteMap, m) ∷ []) line.route_map []

abbrev pub named_by_process : OspfProcess → List NamedThing
named_by_process p = flat_map named_by_redistribution p.redistributions

-- what may be named once, where it is
abbrev pub named_once : NamedKind → Option Mention → List NamedThing
named_once kind mention = option_map_or (λ m. (kind, m) ∷ []) mention []

-- the route maps and prefix lists of a neighbour or of a peer group, by the last line of each direction
abbrev pub named_by_settings : Settings → List NamedThing
named_by_settings s = named_once kind.RouteMap s.map_in ++ named_once kind.RouteMap s.map_out ++ named_once kind.PrefixList s.list_in ++ named_once kind.PrefixList s.list_out

abbrev pub named_by_neighbor : Neighbor → List NamedThing
named_by_neighbor n = named_by_settings n.settings

abbrev pub named_by_neighbors : List Neighbor → List NamedThing
named_by_neighbors neighbors = flat_map named_by_neighbor neighbors

-- those of peer groups, also of one without members
abbrev pub named_by_group : Group → List NamedThing
named_by_group g = named_by_settings g.settings

abbrev pub named_by_groups : List (List ℕ × Group) → List NamedThing
named_by_groups groups = flat_map (λ e. named_by_group e.1) groups

-- the route maps through which routes are redistributed into BGP
abbrev pub named_by_source : Option BgpRedistribution → List NamedThing
named_by_source r = option_map_or (λ (line : BgpRedistribution). named_once kind.RouteMap line.route_map) r []

abbrev pub named_by_ospf : List OspfRedistribution → List NamedThing
named_by_ospf lines = flat_map (λ (line : OspfRedistribution). named_once kind.RouteMap line.redistribution.route_map) lines

abbrev pub named_by_sources : BgpRedistributions → List NamedThing
named_by_sources r = named_by_source r.connected ++ named_by_source r.static_routes ++ named_by_ospf r.ospf

abbrev pub named_by_bgp : BgpProcess → List NamedThing
named_by_bgp p = named_by_neighbors p.neighbors ++ named_by_groups p.peering.groups ++ named_by_sources p.redistributions

-- what the processes of a file name
abbrev pub named_by_processes : RouterText → List NamedThing
named_by_processes r = option_map_or named_by_process r.ospf [] ++ option_map_or named_by_bgp r.bgp []

-- what the lines of a file name
abbrev pub named_by : RouterText → List NamedThing
named_by r = named_by_maps r.route_maps ++ named_by_processes r

abbrev pub is_standard : AccessListKind → Bool
is_standard Standard = true
is_standard Extended = false

-- The file defines what is named: one of its lines opens it or is one of its lines. A route map matches by standard access lists
-- alone, so an extended one under the name is not the list that is meant.
abbrev pub defines : RouterText → NamedKind → List ℕ → Bool
defines r kind.AccessList name = option_map_or (λ f. is_standard f.kind) (named r.lists.access_lists name) false
defines r kind.PrefixList name = is_some (named r.lists.prefix_lists name)
defines r kind.CommunityList name = is_some (named r.lists.community_lists name)
defines r kind.RouteMap name = is_some (named r.route_maps name)

-- the numbers of the lines that name one of these things where the file doesn't define it
abbrev pub undefined_lines : RouterText → List NamedThing → List ℕ
undefined_lines r things = map (λ n. n.1.line) (filter (λ n. not (defines r n.0 n.1.name)) things)

-- the least of numbers, where there are any
abbrev pub least : List ℕ → Option ℕ
least numbers = reduce min numbers

-- the lower of two lines, where there are two
abbrev pub lower : Option ℕ → Option ℕ → Option ℕ
lower line None = line
lower None (Some other) = Some other
lower (Some line) (Some other) = Some (min line other)

-- the least line that names one of these things where the file doesn't define it
abbrev pub least_line : RouterText → List NamedThing → Option ℕ
least_line r things = least (undefined_lines r things)

-- the least line of a file that names what the file doesn't define
abbrev pub undefined_line : RouterText → Option ℕ
undefined_line r = least_line r (named_by r)
