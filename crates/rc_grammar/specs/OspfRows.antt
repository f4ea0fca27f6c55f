-- Lines of OSPF where they stand, by computation.
use Rattle.std.specs.Prelude.{◌≡◌, refl, ℕ, true, false, List, Some, None, Ok, Err, codes}
use Rattle.rc_openings.specs.AccessListOpenings.{access_list, access_list_forms, access_list_refused, access_list_ignored}
use Rattle.rc_openings.specs.BgpOpenings.{bgp, bgp_forms, bgp_refused, bgp_ignored}
use Rattle.rc_openings.specs.GlobalOpenings.{global, global_forms, global_refused, global_ignored}
use Rattle.rc_openings.specs.InterfaceOpenings.{interface, interface_forms, interface_refused, interface_ignored}
use Rattle.rc_openings.specs.Opening.{decisive_row}
use Rattle.rc_openings.specs.OspfOpenings.{ospf, ospf_forms, ospf_refused, ospf_ignored}
use Rattle.rc_openings.specs.Reading.{decided}
use Rattle.rc_openings.specs.RouteMapOpenings.{route_map, route_map_forms, route_map_refused, route_map_ignored}
use Rattle.rc_openings.specs.Words.{words_of}
use Rattle.rc_openings.specs.declared.reading.LineRefusal.TheVariants.{Unknown, OutOfPlace}
use Rattle.rc_config.specs.declared.command.Command.TheVariants.{Passed, OspfOpened, InterfaceLine}
use Rattle.rc_config.specs.declared.command.Command.TheVariants as command
use Rattle.rc_config.specs.declared.interface.InterfaceLine.TheVariants as interface_line
use Rattle.rc_config.specs.declared.context.OpenBlock.TheVariants as place
use Rattle.rc_config.specs.declared.ospf.OspfLine.TheVariants.{Network, PassiveDefault, Passive, Stub, Redistribute, DefaultInformation}
use Rattle.rc_config.specs.declared.ospf.OspfSetting.TheVariants.{Cost, Area}
use Rattle.rc_config.specs.declared.ospf.RedistributedSource.TheVariants.{Static, Bgp}
use Rattle.rc_grammar.specs.File.{open_after}
use Rattle.rc_grammar.specs.PolicyRows.{Says}

abbrev serial : List ℕ
serial = codes "Serial0"

-- a process and the lines in its block
pub processes :
    Says place.Global (codes "router ospf 1") (Ok (OspfOpened 1))
    × Says place.Ospf (codes " network 10.0.0.0 0.0.0.255 area 0") (Ok (command.OspfLine (Network (record { address = 0x0a000000; wildcard = 255; area = 0 }))))
    × Says place.Ospf (codes " passive-interface Serial0") (Ok (command.OspfLine (Passive serial true)))
    × Says place.Ospf (codes " passive-interface default") (Ok (command.OspfLine PassiveDefault))
    × Says place.Ospf (codes " log-adjacency-changes") (Ok Passed)
    × Says place.Ospf (codes " redistribute bgp 65001") (Ok (command.OspfLine (Redistribute (record { source = Bgp 65001; metric = None; metric_type = None; subnets = false; route_map = None }))))
    × Says place.Ospf (codes " area 0.0.0.2 stub no-summary") (Ok (command.OspfLine (Stub (record { area = 2; no_summary = true }))))
    × Says place.Ospf (codes " redistribute static route-map M subnets") (Ok (command.OspfLine (Redistribute (record { source = Static; metric = None; metric_type = None; subnets = true; route_map = Some (record { name = codes "M"; line = 7 }) }))))
    × Says place.Ospf (codes " default-information originate always") (Ok (command.OspfLine (DefaultInformation (record { always = true; metric = None; metric_type = None }))))
    × Says place.Ospf (codes " neighbour 10.0.0.1") (Err Unknown)
unfolding access_list access_list_forms access_list_refused access_list_ignored bgp bgp_forms bgp_refused bgp_ignored global global_forms global_refused global_ignored interface interface_forms interface_refused interface_ignored ospf ospf_forms ospf_refused ospf_ignored route_map route_map_forms route_map_refused route_map_ignored decisive_row decided words_of
processes = (refl, refl, refl, refl, refl, refl, refl, refl, refl, refl)

-- the lines of interfaces, and lines out of place
pub interfaces :
    Says (place.Interface serial) (codes " ip ospf cost 7") (Ok (InterfaceLine serial (interface_line.Ospf (Cost 7))))
    × Says (place.Interface serial) (codes " ip ospf 1 area 0.0.0.2") (Ok (InterfaceLine serial (interface_line.Ospf (Area (record { process = 1; area = 2 })))))
    × Says (place.Interface serial) (codes " passive-interface default") (Err OutOfPlace)
    × Says (place.Interface serial) (codes " area 1 stub") (Err OutOfPlace)
    × Says place.Closed (codes " redistribute static subnets") (Err OutOfPlace)
    × Says place.Global (codes "default-information originate") (Err OutOfPlace)
    × Says place.Ospf (codes " ip ospf cost 7") (Err OutOfPlace)
    × Says place.Ospf (codes " ip address 10.0.0.1 255.0.0.0") (Err OutOfPlace)
    × Says place.Closed (codes " router-id 1.1.1.1") (Err OutOfPlace)
unfolding access_list access_list_forms access_list_refused access_list_ignored bgp bgp_forms bgp_refused bgp_ignored global global_forms global_refused global_ignored interface interface_forms interface_refused interface_ignored ospf ospf_forms ospf_refused ospf_ignored route_map route_map_forms route_map_refused route_map_ignored decisive_row decided words_of
interfaces = (refl, refl, refl, refl, refl, refl, refl, refl, refl)

-- `router ospf` opens the block, and its lines leave it open
pub blocks :
    (open_after place.Global (OspfOpened 1) ≡ place.Ospf)
    × (open_after place.Ospf (command.OspfLine PassiveDefault) ≡ place.Ospf)
    × (open_after (place.Interface serial) (InterfaceLine serial (interface_line.Ospf (Cost 7))) ≡ place.Interface serial)
blocks = (refl, refl, refl)
