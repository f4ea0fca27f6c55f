-- What a command changes in the model of a file.
use Rattle.std.specs.Prelude.{ℕ, List, [], ◌∷◌, ◌++◌, Option, Some, None, unwrap_or}
use Rattle.std.specs.Option.{option_map}
use Rattle.rc_config.specs.declared.bgp.BgpProcess.{BgpProcess}
use Rattle.rc_config.specs.declared.command.Command.{Command}
use Rattle.rc_config.specs.declared.command.Command.TheVariants.{Passed, Remark, Hostname, Interface, InterfaceLine, StaticRoute, ListLine, MapOpened, MapLine, OspfOpened, OspfLine, BgpOpened, BgpLine, FamilyOpened, OtherFamilyOpened, FamilyClosed}
use Rattle.rc_config.specs.declared.interface.Interface.{Interface as Block}
use Rattle.rc_config.specs.declared.interface.InterfaceLine.{InterfaceLine as InterfaceRow}
use Rattle.rc_config.specs.declared.ospf.OspfProcess.{OspfProcess}
use Rattle.rc_config.specs.declared.route_map.RouteMap.{RouteMap}
use Rattle.rc_config.specs.declared.router_text.RouterText.{RouterText}
use Rattle.rc_config.specs.declared.static_route.StaticRoute.{StaticRoute as Route}
use Rattle.rc_config.specs.Bgp.{no_lines as no_bgp_lines, settled, with_line as with_bgp_line}
use Rattle.rc_config.specs.Interface.{fresh, with_line as with_block_line}
use Rattle.rc_config.specs.Lists.{no_lists, with_line as with_list_line}
use Rattle.rc_config.specs.Named.{named, with_value}
use Rattle.rc_config.specs.Ospf.{no_lines as no_ospf_lines, with_line as with_ospf_line}
use Rattle.rc_config.specs.RouteMap.{no_entries, opened, with_line}

-- the model of a file with no line
abbrev pub empty : RouterText
empty = record { host = None; interfaces = []; static_routes = []; lists = no_lists; route_maps = []; ospf = None; bgp = None }

-- the interface of a name, a fresh one where there is none
abbrev pub block_of : List (List ℕ × Block) → List ℕ → Block
block_of es name = unwrap_or (named es name) fresh

abbrev pub interface_named : RouterText → List ℕ → Block
interface_named r name = block_of r.interfaces name

-- the interfaces with that of a name opened: one that is opened again keeps what its block says, and its index; a new one goes last
abbrev pub with_interface_opened : List (List ℕ × Block) → List ℕ → List (List ℕ × Block)
with_interface_opened es name = with_value es name (block_of es name)

-- the interfaces with one more line in the block of that of a name
abbrev pub with_interface_line : List (List ℕ × Block) → List ℕ → InterfaceRow → List (List ℕ × Block)
with_interface_line es name line = with_value es name (with_block_line (block_of es name) line)

-- the model with this static route behind the others; several to one prefix and target all stay
abbrev pub with_static_route : RouterText → Route → RouterText
with_static_route r route = record r { static_routes = r.static_routes ++ route ∷ [] }

-- the route map of a name, one without entries where there is none
abbrev pub route_map_named : RouterText → List ℕ → RouteMap
route_map_named r name = unwrap_or (named r.route_maps name) no_entries

-- the model with this route map under a name, which keeps its index or goes last
abbrev pub with_route_map : RouterText → List ℕ → RouteMap → RouterText
with_route_map r name m = record r { route_maps = with_value r.route_maps name m }

-- the process that is there, or a new one
abbrev pub ospf_opened : Option OspfProcess → ℕ → OspfProcess
ospf_opened ospf process = unwrap_or ospf (no_ospf_lines process)

abbrev pub bgp_opened : Option BgpProcess → ℕ → BgpProcess
bgp_opened bgp asn = unwrap_or bgp (no_bgp_lines asn)

-- the model after one more command. A process or an entry of a route map that is opened again keeps its lines.
abbrev pub after : RouterText → Command → RouterText
after r Passed = r
after r Remark = r
after r (Hostname name line) = record r { host = Some (record { name = name; line = line }) }
after r (Interface name line) = record r { interfaces = with_interface_opened r.interfaces name }
after r (InterfaceLine name line) = record r { interfaces = with_interface_line r.interfaces name line }
after r (StaticRoute route) = with_static_route r route
after r (ListLine name line) = record r { lists = with_list_line r.lists name line }
after r (MapOpened name n action) = with_route_map r name (opened (route_map_named r name) n action)
after r (MapLine name n line) = with_route_map r name (with_line (route_map_named r name) n line)
after r (OspfOpened process) = record r { ospf = Some (ospf_opened r.ospf process) }
after r (OspfLine line) = record r { ospf = option_map (λ p. with_ospf_line p line) r.ospf }
after r (BgpOpened asn) = record r { bgp = Some (bgp_opened r.bgp asn) }
after r (BgpLine line) = record r { bgp = option_map (λ p. with_bgp_line p line) r.bgp }
after r FamilyOpened = r
after r OtherFamilyOpened = r
after r FamilyClosed = r

-- The router of a file's model: each BGP neighbour has what holds of it in the end, and peer groups are gone.
abbrev pub settled_router : RouterText → RouterText
settled_router r = record r { bgp = option_map settled r.bgp }
