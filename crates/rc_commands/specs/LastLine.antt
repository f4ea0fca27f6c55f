-- Which lines of a file say a value of its model: the value is that of the last line that says it, and no other line matters.
--
-- What a line says of a value is a function of the line alone, one for each value. The lines of a block are told first, by the name or the number
-- that they are about, and what they say of it is told beside the block's own kind.
use Rattle.std.specs.Prelude.{◌≡◌, ℕ, ◌==◌, ◌&&◌, if◌then◌else◌, List, fold, Option, Some, None, IfSome}
use Rattle.std.specs.List.{filter_map}
use Rattle.std.specs.Option.{option_and_then, option_map}
use Rattle.std.specs.Map.{keys_of}
use Rattle.rc_base.specs.Lists.{first_seen}
use Rattle.rc_base.specs.Name.{same_name}
use Rattle.rc_config.specs.AccessList.{sequence_of as access_number}
use Rattle.rc_config.specs.ByNumber.{with_number}
use Rattle.rc_config.specs.Lists.{community_list_named}
use Rattle.rc_config.specs.Named.{named}
use Rattle.rc_config.specs.PrefixList.{sequence_of as prefix_number}
use Rattle.rc_config.specs.RouteMap.{number_of}
use Rattle.rc_config.specs.Update.{after, empty, interface_named, route_map_named}
use Rattle.rc_config.specs.declared.access_list.AccessListKind.{AccessListKind}
use Rattle.rc_config.specs.declared.access_list.AccessListLine.{AccessListLine}
use Rattle.rc_config.specs.declared.access_list.Action.{Action}
use Rattle.rc_config.specs.declared.command.Command.{Command}
use Rattle.rc_config.specs.declared.command.Command.TheVariants as command
use Rattle.rc_config.specs.declared.community_list.CommunityLine.{CommunityLine}
use Rattle.rc_config.specs.declared.prefix_list.PrefixLine.{PrefixLine}
use Rattle.rc_config.specs.declared.router_text.HostLine.{HostLine}
use Rattle.rc_config.specs.declared.router_text.RouterText.{RouterText}
use Rattle.rc_config.specs.declared.static_route.StaticRoute.{StaticRoute}
use Rattle.rc_commands.specs.Said.{last_said, first_said, from_first}
use Rattle.rc_commands.specs.InterfaceLines.{IsInterfaceByLines}
use Rattle.rc_commands.specs.EntryLines.{IsEntryByLines}
use Rattle.rc_commands.specs.OspfLines.{IsProcessByLines}
use Rattle.rc_commands.specs.BgpLines.{IsBgpByLines}
use Rattle.rc_config.specs.declared.bgp.BgpLine.{BgpLine}
use Rattle.rc_config.specs.declared.interface.InterfaceLine.{InterfaceLine}
use Rattle.rc_config.specs.declared.lists.ListLine.TheVariants as list_line
use Rattle.rc_config.specs.declared.map_line.MapLine.{MapLine}
use Rattle.rc_config.specs.declared.ospf.OspfLine.{OspfLine}

-- the model of a file whose lines say these commands
abbrev pub model_of : List Command → RouterText
model_of commands = fold after empty commands

-- ---- a file
abbrev pub host_said : Command → Option HostLine
host_said (command.Hostname name line) = Some (record { name = name; line = line })
host_said _ = None

abbrev pub static_route_said : Command → Option StaticRoute
static_route_said (command.StaticRoute route) = Some route
static_route_said _ = None

-- ---- interfaces

-- the interface that a line opens, or in whose block it stands
abbrev pub interface_of : Command → Option (List ℕ)
interface_of (command.Interface name line) = Some name
interface_of (command.InterfaceLine name line) = Some name
interface_of _ = None

-- a line in the block of the interface of a name
abbrev pub interface_line_said : List ℕ → Command → Option InterfaceLine
interface_line_said name (command.InterfaceLine interface line) = if same_name name interface then Some line else None
interface_line_said _ _ = None

-- ---- lists

-- the list, and the route map, that a line makes where it isn't there
abbrev pub access_list_of : Command → Option (List ℕ)
access_list_of (command.ListLine list (list_line.AccessListOpened kind)) = Some list
access_list_of (command.ListLine list (list_line.AccessListLine kind line)) = Some list
access_list_of _ = None

abbrev pub prefix_list_of : Command → Option (List ℕ)
prefix_list_of (command.ListLine list (list_line.PrefixLine line)) = Some list
prefix_list_of _ = None

abbrev pub community_list_of : Command → Option (List ℕ)
community_list_of (command.ListLine list (list_line.CommunityLine line)) = Some list
community_list_of _ = None

abbrev pub route_map_of : Command → Option (List ℕ)
route_map_of (command.MapOpened map number action) = Some map
route_map_of (command.MapLine map number line) = Some map
route_map_of _ = None

-- the names in the order of first mention
abbrev pub names_said : (Command → Option (List ℕ)) → List Command → List (List ℕ)
names_said says lines = first_seen same_name (filter_map says lines)

-- the kind that a line says of the access list of a name: that of the first one counts, since a list of the other kind is refused
abbrev pub kind_said : List ℕ → Command → Option AccessListKind
kind_said name (command.ListLine list (list_line.AccessListOpened kind)) = if same_name name list then Some kind else None
kind_said name (command.ListLine list (list_line.AccessListLine kind line)) = if same_name name list then Some kind else None
kind_said _ _ = None

-- the line of a number of the access list of a name
abbrev pub access_line_said : List ℕ → ℕ → Command → Option AccessListLine
access_line_said name n (command.ListLine list (list_line.AccessListLine kind line)) = if same_name name list && (line.sequence == n) then Some line else None
access_line_said _ _ _ = None

-- the line of a number of the prefix list of a name
abbrev pub prefix_line_said : List ℕ → ℕ → Command → Option PrefixLine
prefix_line_said name n (command.ListLine list (list_line.PrefixLine line)) = if same_name name list && (line.sequence == n) then Some line else None
prefix_line_said _ _ _ = None

-- a line of the community list of a name
abbrev pub community_line_said : List ℕ → Command → Option CommunityLine
community_line_said name (command.ListLine list (list_line.CommunityLine line)) = if same_name name list then Some line else None
community_line_said _ _ = None

-- ---- entries of route maps

-- the action with which a line opens the entry of a number
abbrev pub action_said : List ℕ → ℕ → Command → Option Action
action_said name n (command.MapOpened map number action) = if same_name name map && (number == n) then Some action else None
action_said _ _ _ = None

-- a line in the block of the entry
abbrev pub entry_line_said : List ℕ → ℕ → Command → Option MapLine
entry_line_said name n (command.MapLine map number line) = if same_name name map && (number == n) then Some line else None
entry_line_said _ _ _ = None

-- the lines of the entry from its first opening on
abbrev pub entry_lines : List ℕ → ℕ → List Command → List MapLine
entry_lines name n commands = filter_map (entry_line_said name n) (from_first (action_said name n) commands)

-- ---- processes

-- `router ospf N`
abbrev pub process_said : Command → Option ℕ
process_said (command.OspfOpened process) = Some process
process_said _ = None

abbrev pub ospf_line_said : Command → Option OspfLine
ospf_line_said (command.OspfLine line) = Some line
ospf_line_said _ = None

-- the lines of the OSPF process from its first opening on
abbrev pub ospf_lines : List Command → List OspfLine
ospf_lines commands = filter_map ospf_line_said (from_first process_said commands)

-- `router bgp N`
abbrev pub asn_said : Command → Option ℕ
asn_said (command.BgpOpened asn) = Some asn
asn_said _ = None

abbrev pub bgp_line_said : Command → Option BgpLine
bgp_line_said (command.BgpLine line) = Some line
bgp_line_said _ = None

-- the lines of the BGP process from its first opening on
abbrev pub bgp_lines : List Command → List BgpLine
bgp_lines commands = filter_map bgp_line_said (from_first asn_said commands)

-- ---- all of a file

-- The model of a file by its lines. A process or an entry of a route map is there from the first line on that opens it, and has the lines from
-- there on.
pub record IsModelByLines (r : RouterText) (lines : List Command) : Type 0 where
  pub host : r.host ≡ last_said host_said lines
  pub static_routes : r.static_routes ≡ filter_map static_route_said lines
  pub interface_names : keys_of r.interfaces ≡ names_said interface_of lines
  pub interface : (name : List ℕ) → IsInterfaceByLines (interface_named r name) (filter_map (interface_line_said name) lines)
  pub access_list_names : keys_of r.lists.access_lists ≡ names_said access_list_of lines
  pub access_list_kind : (name : List ℕ) → option_map (λ l. l.kind) (named r.lists.access_lists name) ≡ first_said (kind_said name) lines
  pub access_list_line : (name : List ℕ) (n : ℕ) → option_and_then (λ l. with_number access_number n l.lines) (named r.lists.access_lists name) ≡ last_said (access_line_said name n) lines
  pub prefix_list_names : keys_of r.lists.prefix_lists ≡ names_said prefix_list_of lines
  pub prefix_list_line : (name : List ℕ) (n : ℕ) → option_and_then (λ l. with_number prefix_number n l.lines) (named r.lists.prefix_lists name) ≡ last_said (prefix_line_said name n) lines
  pub community_list_names : keys_of r.lists.community_lists ≡ names_said community_list_of lines
  pub community_list : (name : List ℕ) → (community_list_named r.lists name).lines ≡ filter_map (community_line_said name) lines
  pub route_map_names : keys_of r.route_maps ≡ names_said route_map_of lines
  pub entry_action : (name : List ℕ) (n : ℕ) → option_map (λ e. e.action) (with_number number_of n (route_map_named r name).entries) ≡ last_said (action_said name n) lines
  pub entry : (name : List ℕ) (n : ℕ) → IfSome (with_number number_of n (route_map_named r name).entries) (λ e. IsEntryByLines e (entry_lines name n lines))
  pub ospf_process : option_map (λ p. p.process) r.ospf ≡ first_said process_said lines
  pub ospf : IfSome r.ospf (λ p. IsProcessByLines p (ospf_lines lines))
  pub bgp_asn : option_map (λ p. p.asn) r.bgp ≡ first_said asn_said lines
  pub bgp : IfSome r.bgp (λ p. IsBgpByLines p (bgp_lines lines))

-- the model of every file is so
abbrev pub LastLineCounts : Type 0
LastLineCounts = (lines : List Command) → IsModelByLines (model_of lines) lines
