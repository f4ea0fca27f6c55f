-- Routes that are redistributed into BGP.
use Rattle.std.specs.Prelude.{◌≡◌, ℕ, ◌==◌, Bool, true, false, not, ◌&&◌, if◌then◌else◌, List, [], Option, None, map, option_and_then, unwrap_or}
use Rattle.std.specs.List.{filter_map, flat_map, list_any}
use Rattle.std.specs.Option.{option_map_or}
use Rattle.rc_base.specs.Prefix.{Cidr, same_prefix, default_prefix}
use Rattle.rc_base.specs.declared.origin.Origin.TheVariants.{Incomplete}
use Rattle.rc_config.specs.Bgp.{process_of}
use Rattle.rc_config.specs.ByNumber.{with_number}
use Rattle.rc_config.specs.Down.{prefix_of}
use Rattle.rc_config.specs.Interface.{declared_addresses}
use Rattle.rc_config.specs.Members.{interface_at}
use Rattle.rc_config.specs.declared.bgp.BgpProcess.{BgpProcess}
use Rattle.rc_config.specs.declared.bgp.BgpRedistribution.{BgpRedistribution}
use Rattle.rc_config.specs.declared.bgp.OspfKinds.{OspfKinds}
use Rattle.rc_config.specs.declared.bgp.OspfRedistribution.{OspfRedistribution}
use Rattle.rc_config.specs.declared.network.Network.{Network}
use Rattle.rc_config.specs.declared.ospf.OspfProcess.{OspfProcess}
use Rattle.rc_config.specs.declared.router_text.RouterText.{RouterText}
use Rattle.rc_ospf_interfaces.specs.Interfaces.{ospf_interfaces}
use Rattle.rc_ospf_interfaces.specs.declared.interface.OspfInterface.{OspfInterface}
use Rattle.rc_route.specs.declared.path.BgpPath.{BgpPath}
use Rattle.rc_route.specs.declared.path.PathSource.{PathSource}
use Rattle.rc_route.specs.declared.path.PathSource.TheVariants as path
use Rattle.rc_route.specs.declared.route.Route.{Route}
use Rattle.rc_route.specs.declared.route.Source.{Source}
use Rattle.rc_route.specs.declared.route.Source.TheVariants.{Connected, Static, Ospf, OspfIa, OspfE1, OspfE2}
use Rattle.rc_bgp.specs.Originating.{originated}
use Rattle.rc_bgp_session.specs.Passing.{mapped_path}

abbrev pub is_connected : Source → Bool
is_connected Connected = true
is_connected _ = false

abbrev pub is_static : Source → Bool
is_static Static = true
is_static _ = false

-- `redistribute ospf` takes the routes of the kinds that it names; the internal kind has those inside and between areas, and the
-- connected prefixes of the OSPF interfaces
abbrev pub is_of_kinds : OspfKinds → Bool → Source → Bool
is_of_kinds k is_on_ospf Connected = k.internal && is_on_ospf
is_of_kinds k is_on_ospf Ospf = k.internal
is_of_kinds k is_on_ospf OspfIa = k.internal
is_of_kinds k is_on_ospf OspfE1 = k.external_1
is_of_kinds k is_on_ospf OspfE2 = k.external_2
is_of_kinds k is_on_ospf _ = false

-- which routes a line of a source takes, where these are the prefixes of OSPF interfaces
abbrev pub redistributes : PathSource → OspfKinds → List Cidr → Route → Bool
redistributes path.Connected k prefixes x = is_connected x.source
redistributes path.Static k prefixes x = is_static x.source
redistributes path.Ospf k prefixes x = is_of_kinds k (list_any (same_prefix x.prefix) prefixes) x.source
redistributes _ k prefixes x = false

abbrev pub med_of : BgpRedistribution → Route → ℕ
med_of line x = unwrap_or line.metric x.metric

-- the path of a route: of unknown origin, with the MED that the line gives, else the route's metric, and through the line's route map
abbrev pub path_of_route : ℕ → RouterText → PathSource → BgpRedistribution → Route → Option BgpPath
path_of_route r file source line x = mapped_path file line.route_map (originated r source Incomplete (med_of line x) x.prefix)

-- 0.0.0.0/0 never passes
abbrev pub redistributed : ℕ → RouterText → PathSource → OspfKinds → List Cidr → BgpRedistribution → Route → Option BgpPath
redistributed r file source k prefixes line x =
    if not (redistributes source k prefixes x) then None
    else if same_prefix x.prefix default_prefix then None
    else path_of_route r file source line x

-- the paths of a line, in the order of the table
abbrev pub redistributed_paths : ℕ → RouterText → PathSource → OspfKinds → List Cidr → List Route → BgpRedistribution → List BgpPath
redistributed_paths r file source k prefixes table line = filter_map (redistributed r file source k prefixes line) table

-- those of a source, where a line redistributes it
abbrev pub of_source : ℕ → RouterText → PathSource → OspfKinds → List Cidr → List Route → Option BgpRedistribution → List BgpPath
of_source r file source k prefixes table line = option_map_or (redistributed_paths r file source k prefixes table) line []

-- no kind of OSPF routes
abbrev pub no_kinds : OspfKinds
no_kinds = record { internal = false; external_1 = false; external_2 = false }

-- the line for the router's own OSPF process
abbrev pub own_ospf_line : RouterText → BgpProcess → Option OspfRedistribution
own_ospf_line file process = option_and_then (λ (o : OspfProcess). with_number process_of o.process process.redistributions.ospf) file.ospf

-- the prefixes of an OSPF interface, where it is the router's
abbrev pub prefixes_on : Network → ℕ → OspfInterface → List Cidr
prefixes_on net r i = if i.id.router == r then option_map_or (λ e. map prefix_of (declared_addresses e.1)) (interface_at net i.id) [] else []

abbrev pub prefixes_among : Network → ℕ → List OspfInterface → List Cidr
prefixes_among net r interfaces = flat_map (prefixes_on net r) interfaces

-- those of all OSPF interfaces of a router, passive ones and loopbacks too
abbrev pub ospf_prefixes : Network → ℕ → List Cidr
ospf_prefixes net r = prefixes_among net r (ospf_interfaces net)

-- the paths of the routes of OSPF
abbrev pub of_ospf : Network → ℕ → RouterText → List Route → Option OspfRedistribution → List BgpPath
of_ospf net r file table line = option_map_or (λ (o : OspfRedistribution). redistributed_paths r file path.Ospf o.kinds (ospf_prefixes net r) table o.redistribution) line []

-- a process has no line that redistributes routes of the router
pub record RedistributesNothing (file : RouterText) (process : BgpProcess) : Type 0 where
  pub connected : process.redistributions.connected ≡ None
  pub static_routes : process.redistributions.static_routes ≡ None
  pub ospf : own_ospf_line file process ≡ None
