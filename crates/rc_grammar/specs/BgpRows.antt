-- Lines of BGP where they stand, by computation.
use Rattle.std.specs.Prelude.{◌≡◌, refl, true, Some, None, Ok, Err, codes}
use Rattle.rc_openings.specs.AccessListOpenings.{access_list, access_list_forms, access_list_refused, access_list_ignored}
use Rattle.rc_openings.specs.BgpOpenings.{bgp, bgp_forms, bgp_refused, bgp_ignored}
use Rattle.rc_openings.specs.GlobalOpenings.{global, global_forms, global_refused, global_ignored}
use Rattle.rc_openings.specs.InterfaceOpenings.{interface, interface_forms, interface_refused, interface_ignored}
use Rattle.rc_openings.specs.Opening.{decisive_row}
use Rattle.rc_openings.specs.OspfOpenings.{ospf, ospf_forms, ospf_refused, ospf_ignored}
use Rattle.rc_openings.specs.Reading.{decided}
use Rattle.rc_openings.specs.RouteMapOpenings.{route_map, route_map_forms, route_map_refused, route_map_ignored}
use Rattle.rc_openings.specs.Words.{words_of}
use Rattle.rc_openings.specs.declared.reading.LineRefusal.TheVariants.{Unknown, Unsupported, BadValue, OutOfPlace}
use Rattle.rc_config.specs.declared.bgp.BgpLine.TheVariants.{RouterId, MaximumExternalPaths, MaximumInternalPaths, Network, Active, Setting, RedistributeStatic}
use Rattle.rc_config.specs.declared.bgp.NeighborSetting.TheVariants.{RemoteAs, RouteMap}
use Rattle.rc_config.specs.declared.command.Command.TheVariants.{Passed, Remark, BgpOpened, FamilyOpened, OtherFamilyOpened, FamilyClosed}
use Rattle.rc_config.specs.declared.command.Command.TheVariants as command
use Rattle.rc_config.specs.declared.context.OpenBlock.TheVariants as place
use Rattle.rc_config.specs.declared.interface.Direction.TheVariants.{In}
use Rattle.rc_config.specs.declared.peering.Peer.TheVariants as peer
use Rattle.rc_grammar.specs.File.{open_after}
use Rattle.rc_grammar.specs.PolicyRows.{Says}

-- a process and the lines in its block
pub processes :
    Says place.Global (codes "router bgp 65001") (Ok (BgpOpened 65001))
    × Says place.Bgp (codes " bgp router-id 1.1.1.1") (Ok (command.BgpLine (RouterId 0x01010101)))
    × Says place.Bgp (codes " maximum-paths 4") (Ok (command.BgpLine (MaximumExternalPaths 4)))
    × Says place.Bgp (codes " maximum-paths ibgp 2") (Ok (command.BgpLine (MaximumInternalPaths 2)))
    × Says place.Bgp (codes " maximum-paths 33") (Err BadValue)
    × Says place.Bgp (codes " maximum-paths eibgp 2") (Err Unsupported)
    × Says place.Bgp (codes " network 10.9.0.0") (Ok (command.BgpLine (Network (record { network = 0x0a000000; len = 8 }))))
    × Says place.Bgp (codes " network 10.9.0.0 backdoor") (Err Unsupported)
    × Says place.Bgp (codes " neighbor 10.0.0.2 remote-as 65002") (Ok (command.BgpLine (Setting (peer.Address 0x0a000002) (RemoteAs 65002))))
    × Says place.Bgp (codes " neighbor 10.0.0.2 activate") (Ok (command.BgpLine (Active (peer.Address 0x0a000002) true)))
    × Says place.Bgp (codes " neighbor R2 remote-as 65002") (Err BadValue)
    × Says place.Bgp (codes " neighbor 2001:db8::2 remote-as 65002") (Ok Passed)
    × Says place.Bgp (codes " neighbor 10.0.0.2 route-map M in") (Ok (command.BgpLine (Setting (peer.Address 0x0a000002) (RouteMap (record { name = codes "M"; line = 7 }) In))))
    × Says place.Bgp (codes " redistribute static metric 5") (Ok (command.BgpLine (RedistributeStatic (record { metric = Some 5; route_map = None }))))
    × Says place.Bgp (codes " redistribute ospf 1 tag 5") (Err Unsupported)
    × Says place.Bgp (codes " bgp log-neighbor-changes") (Ok Passed)
    × Says place.Bgp (codes " exit-address-family") (Err OutOfPlace)
    × Says place.Bgp (codes " neighbour 10.0.0.2") (Err Unknown)
unfolding access_list access_list_forms access_list_refused access_list_ignored bgp bgp_forms bgp_refused bgp_ignored global global_forms global_refused global_ignored interface interface_forms interface_refused interface_ignored ospf ospf_forms ospf_refused ospf_ignored route_map route_map_forms route_map_refused route_map_ignored decisive_row decided words_of
processes = (refl, refl, refl, refl, refl, refl, refl, refl, refl, refl, refl, refl, refl, refl, refl, refl, refl, refl)

-- lines out of place
pub elsewhere :
    Says place.Global (codes "neighbor 10.0.0.2 remote-as 65002") (Err OutOfPlace)
    × Says place.Global (codes "neighbor 2001:db8::2 remote-as 65002") (Err OutOfPlace)
    × Says place.Global (codes "neighbor 10.0.0.2") (Err Unknown)
    × Says place.Closed (codes " bgp router-id 1.1.1.1") (Err OutOfPlace)
    × Says (place.Interface (codes "Serial0")) (codes " neighbor 10.0.0.2 shutdown") (Err OutOfPlace)
    × Says place.Ospf (codes " neighbor 10.0.0.2 remote-as 65002") (Err Unsupported)
    × Says place.Ospf (codes " maximum-paths 4") (Err Unsupported)
    × Says place.Global (codes "maximum-paths 4") (Err OutOfPlace)
    × Says place.Global (codes "maximum-paths eibgp 4") (Err OutOfPlace)
    × Says place.Bgp (codes " router bgp 65001") (Err OutOfPlace)
    × Says place.Bgp (codes " passive-interface default") (Err OutOfPlace)
    × Says place.Bgp (codes " ip address 10.0.0.1 255.0.0.0") (Err OutOfPlace)
unfolding access_list access_list_forms access_list_refused access_list_ignored bgp bgp_forms bgp_refused bgp_ignored global global_forms global_refused global_ignored interface interface_forms interface_refused interface_ignored ospf ospf_forms ospf_refused ospf_ignored route_map route_map_forms route_map_refused route_map_ignored decisive_row decided words_of
elsewhere = (refl, refl, refl, refl, refl, refl, refl, refl, refl, refl, refl, refl)

-- `router bgp` opens the block, and its lines leave it open; a family opens in it alone, and its end leads back
pub blocks :
    (open_after place.Global (BgpOpened 65001) ≡ place.Bgp)
    × (open_after place.Bgp (command.BgpLine (RouterId 7)) ≡ place.Bgp)
    × (open_after place.Bgp Passed ≡ place.Bgp)
    × (open_after place.Bgp Remark ≡ place.Bgp)
    × (open_after place.Bgp FamilyOpened ≡ place.InFamily)
    × (open_after place.Bgp OtherFamilyOpened ≡ place.InOtherFamily)
    × (open_after place.InFamily (command.BgpLine (RouterId 7)) ≡ place.InFamily)
    × (open_after place.InFamily Passed ≡ place.InFamily)
    × (open_after place.InOtherFamily Passed ≡ place.InOtherFamily)
    × (open_after place.InFamily FamilyClosed ≡ place.Bgp)
    × (open_after place.InOtherFamily FamilyClosed ≡ place.Bgp)
    × (open_after place.Ospf FamilyOpened ≡ place.Ospf)
blocks = (refl, refl, refl, refl, refl, refl, refl, refl, refl, refl, refl, refl)
