-- Lines of address families and of peer groups with what they are, and what they were before these were read, by computation.
use Rattle.std.specs.Prelude.{◌≡◌, refl, [], ◌∷◌, codes}
use Rattle.rc_openings.specs.declared.block.Block.TheVariants as block
use Rattle.rc_openings.specs.declared.form.Form.TheVariants as form
use Rattle.rc_openings.specs.declared.form.BgpForm.TheVariants as bgp
use Rattle.rc_openings.specs.declared.form.AccessListForm.TheVariants as access
use Rattle.rc_openings.specs.declared.reading.LineRefusal.TheVariants.{Unknown, Unsupported, OutOfPlace}
use Rattle.rc_openings.specs.Opening.{decisive_row}
use Rattle.rc_openings.specs.Reading as Decided
use Rattle.rc_openings.specs.Reading.{decided, decided_before, later, OfForm, Passed}
use Rattle.rc_openings.specs.Words.{words_of}
use Rattle.rc_openings.specs.GlobalOpenings.{global, global_forms, global_refused, global_ignored}
use Rattle.rc_openings.specs.InterfaceOpenings.{interface, interface_forms, interface_refused, interface_ignored}
use Rattle.rc_openings.specs.AccessListOpenings.{access_list, access_list_forms, access_list_refused, access_list_ignored}
use Rattle.rc_openings.specs.RouteMapOpenings.{route_map, route_map_forms, route_map_refused, route_map_ignored}
use Rattle.rc_openings.specs.OspfOpenings.{ospf, ospf_forms, ospf_refused, ospf_ignored}
use Rattle.rc_openings.specs.BgpOpenings.{bgp, bgp_forms, bgp_refused, bgp_ignored}
use Rattle.rc_openings.specs.FamilyOpenings.{ipv4_family, other_family}

-- a family opens by its own words, and by no others
pub families :
    (decided block.Bgp (words_of (codes " address-family ipv4")) ≡ OfForm (form.Bgp bgp.AddressFamilyIpv4) [])
    × (decided block.Bgp (words_of (codes " address-family ipv4 unicast")) ≡ OfForm (form.Bgp bgp.AddressFamilyIpv4) [])
    × (decided block.Bgp (words_of (codes " address-family ipv4 tunnel")) ≡ OfForm (form.Bgp bgp.AddressFamilyIpv4) (codes "tunnel" ∷ []))
    × (decided block.Bgp (words_of (codes " address-family ipv4 unicast x")) ≡ OfForm (form.Bgp bgp.AddressFamilyIpv4) (codes "x" ∷ []))
    × (decided block.Bgp (words_of (codes " address-family ipv4 vrf X")) ≡ Decided.Refused Unsupported)
    × (decided block.Bgp (words_of (codes " address-family ipv4 multicast")) ≡ Decided.Refused Unsupported)
    × (decided block.Bgp (words_of (codes " address-family ipv4 mdt")) ≡ Decided.Refused Unsupported)
    × (decided block.Bgp (words_of (codes " address-family ipv6 vrf X")) ≡ OfForm (form.Bgp bgp.AddressFamilyIpv6) (codes "vrf" ∷ codes "X" ∷ []))
    × (decided block.Bgp (words_of (codes " address-family vpnv4")) ≡ Decided.Refused Unsupported)
    × (decided block.Bgp (words_of (codes " address-family")) ≡ Decided.Refused Unsupported)
    × (decided block.Bgp (words_of (codes " exit-address-family")) ≡ Decided.Refused OutOfPlace)
    × (decided block.Ospf (words_of (codes " address-family ipv4")) ≡ Decided.Refused OutOfPlace)
    × (decided block.Ospf (words_of (codes " address-family")) ≡ Decided.Refused Unknown)
    × (decided block.Global (words_of (codes "exit-address-family")) ≡ Decided.Refused OutOfPlace)
unfolding decided decisive_row ipv4_family other_family global global_forms global_refused global_ignored interface interface_forms interface_refused interface_ignored access_list access_list_forms access_list_refused access_list_ignored route_map route_map_forms route_map_refused route_map_ignored ospf ospf_forms ospf_refused ospf_ignored bgp bgp_forms bgp_refused bgp_ignored words_of
families = (refl, refl, refl, refl, refl, refl, refl, refl, refl, refl, refl, refl, refl, refl)

-- under `address-family ipv4` lines read as under `router bgp`, but for those of the process, of its sessions and of families
pub lines_of_a_family :
    (decided block.Ipv4Family (words_of (codes " exit-address-family")) ≡ OfForm (form.Bgp bgp.ExitAddressFamily) [])
    × (decided block.Ipv4Family (words_of (codes " exit-address-family x")) ≡ OfForm (form.Bgp bgp.ExitAddressFamily) (codes "x" ∷ []))
    × (decided block.Ipv4Family (words_of (codes " exit")) ≡ Passed)
    × (decided block.Ipv4Family (words_of (codes " no bgp default ipv4-unicast")) ≡ OfForm (form.Bgp bgp.NoDefaultIpv4Unicast) [])
    × (decided block.Ipv4Family (words_of (codes " network 10.0.0.0")) ≡ OfForm (form.Bgp bgp.Network) (codes "10.0.0.0" ∷ []))
    × (decided block.Ipv4Family (words_of (codes " maximum-paths 2")) ≡ OfForm (form.Bgp bgp.MaximumPaths) (codes "2" ∷ []))
    × (decided block.Ipv4Family (words_of (codes " maximum-paths ibgp 2")) ≡ OfForm (form.Bgp bgp.MaximumPathsIbgp) (codes "2" ∷ []))
    × (decided block.Ipv4Family (words_of (codes " redistribute ospf 1")) ≡ OfForm (form.Bgp bgp.RedistributeOspf) (codes "1" ∷ []))
    × (decided block.Ipv4Family (words_of (codes " neighbor 10.0.0.1 activate")) ≡ OfForm (form.Bgp bgp.NeighborActivate) [])
    × (decided block.Ipv4Family (words_of (codes " no neighbor 10.0.0.1 activate")) ≡ OfForm (form.Bgp bgp.NoNeighborActivate) [])
    × (decided block.Ipv4Family (words_of (codes " neighbor UP peer-group")) ≡ OfForm (form.Bgp bgp.NeighborPeerGroup) [])
    × (decided block.Ipv4Family (words_of (codes " neighbor UP weight 5")) ≡ OfForm (form.Bgp bgp.NeighborWeight) (codes "5" ∷ []))
    × (decided block.Ipv4Family (words_of (codes " neighbor UP password x")) ≡ Passed)
    × (decided block.Ipv4Family (words_of (codes " neighbor 2001:db8::1 remote-as 1")) ≡ Passed)
    × (decided block.Ipv4Family (words_of (codes " no neighbor 2001:db8::1 activate")) ≡ Passed)
    × (decided block.Ipv4Family (words_of (codes " no auto-summary")) ≡ Passed)
    × (decided block.Ipv4Family (words_of (codes " hostname R1")) ≡ Decided.Refused OutOfPlace)
    × (decided block.Ipv4Family (words_of (codes " synchronization")) ≡ Decided.Refused Unknown)
unfolding decided decisive_row ipv4_family other_family global global_forms global_refused global_ignored interface interface_forms interface_refused interface_ignored access_list access_list_forms access_list_refused access_list_ignored route_map route_map_forms route_map_refused route_map_ignored ospf ospf_forms ospf_refused ospf_ignored bgp bgp_forms bgp_refused bgp_ignored words_of
lines_of_a_family = (refl, refl, refl, refl, refl, refl, refl, refl, refl, refl, refl, refl, refl, refl, refl, refl, refl, refl)

-- these are not
pub lines_outside_of_a_family :
    (decided block.Ipv4Family (words_of (codes " bgp router-id 10.0.0.1")) ≡ Decided.Refused Unsupported)
    × (decided block.Ipv4Family (words_of (codes " neighbor 10.0.0.1 remote-as 1")) ≡ Decided.Refused Unsupported)
    × (decided block.Ipv4Family (words_of (codes " neighbor 10.0.0.1 update-source Lo0")) ≡ Decided.Refused Unsupported)
    × (decided block.Ipv4Family (words_of (codes " neighbor 10.0.0.1 ebgp-multihop 2")) ≡ Decided.Refused Unsupported)
    × (decided block.Ipv4Family (words_of (codes " neighbor 10.0.0.1 shutdown")) ≡ Decided.Refused Unsupported)
    × (decided block.Ipv4Family (words_of (codes " address-family ipv4")) ≡ Decided.Refused Unsupported)
    × (decided block.Ipv4Family (words_of (codes " address-family ipv6")) ≡ Decided.Refused Unsupported)
    × (decided block.Ipv4Family (words_of (codes " address-family ipv4 vrf X")) ≡ Decided.Refused Unsupported)
    × (decided block.Ipv4Family (words_of (codes " no neighbor 10.0.0.1")) ≡ Decided.Refused Unsupported)
unfolding decided decisive_row ipv4_family other_family global global_forms global_refused global_ignored interface interface_forms interface_refused interface_ignored access_list access_list_forms access_list_refused access_list_ignored route_map route_map_forms route_map_refused route_map_ignored ospf ospf_forms ospf_refused ospf_ignored bgp bgp_forms bgp_refused bgp_ignored words_of
lines_outside_of_a_family = (refl, refl, refl, refl, refl, refl, refl, refl, refl)

-- of another family every line is passed over but its end
pub lines_of_another_family :
    (decided block.OtherFamily (words_of (codes " neighbor 10.0.0.1 remote-as x")) ≡ Passed)
    × (decided block.OtherFamily (words_of (codes " address-family ipv4")) ≡ Passed)
    × (decided block.OtherFamily (words_of (codes " anything at all")) ≡ Passed)
    × (decided block.OtherFamily (words_of (codes " exit")) ≡ Passed)
    × (decided block.OtherFamily (words_of (codes " exit-address-family")) ≡ OfForm (form.Bgp bgp.ExitAddressFamily) [])
    × (decided block.OtherFamily (words_of (codes " exit-address-family x")) ≡ OfForm (form.Bgp bgp.ExitAddressFamily) (codes "x" ∷ []))
unfolding decided decisive_row ipv4_family other_family global global_forms global_refused global_ignored interface interface_forms interface_refused interface_ignored access_list access_list_forms access_list_refused access_list_ignored route_map route_map_forms route_map_refused route_map_ignored ospf ospf_forms ospf_refused ospf_ignored bgp bgp_forms bgp_refused bgp_ignored words_of
lines_of_another_family = (refl, refl, refl, refl, refl, refl)

-- before, the first words of these were refused, and in other blocks unknown; all other lines were what they are
pub before :
    (decided_before block.Bgp (words_of (codes " address-family ipv4")) ≡ Decided.Refused Unsupported)
    × (decided_before block.Bgp (words_of (codes " address-family ipv4 vrf X")) ≡ Decided.Refused Unsupported)
    × (decided_before block.Bgp (words_of (codes " exit-address-family")) ≡ Decided.Refused Unsupported)
    × (decided_before block.Bgp (words_of (codes " no bgp default ipv4-unicast")) ≡ Decided.Refused Unsupported)
    × (decided_before block.Bgp (words_of (codes " no neighbor 10.0.0.1 activate")) ≡ Decided.Refused Unsupported)
    × (decided_before block.Bgp (words_of (codes " no neighbor 2001:db8::1 activate")) ≡ Decided.Refused Unsupported)
    × (decided_before block.Bgp (words_of (codes " neighbor UP peer-group")) ≡ Decided.Refused Unsupported)
    × (decided_before block.Bgp (words_of (codes " neighbor 2001:db8::1 peer-group UP")) ≡ Passed)
    × (decided_before block.Bgp (words_of (codes " neighbor 10.0.0.1 activate")) ≡ OfForm (form.Bgp bgp.NeighborActivate) [])
    × (decided_before block.Bgp (words_of (codes " maximum-paths 2")) ≡ OfForm (form.Bgp bgp.MaximumPaths) (codes "2" ∷ []))
    × (decided_before block.Bgp (words_of (codes " no synchronization")) ≡ Passed)
    × (decided_before block.Ospf (words_of (codes " address-family ipv4")) ≡ Decided.Refused Unknown)
    × (decided_before block.Ospf (words_of (codes " exit-address-family")) ≡ Decided.Refused Unknown)
    × (decided_before block.AccessList (words_of (codes " 10 no neighbor 10.0.0.1 activate")) ≡ Decided.Refused Unknown)
    × (decided_before block.AccessList (words_of (codes " 10 permit any")) ≡ OfForm (form.AccessList access.Permit) (codes "any" ∷ []))
    × (decided_before block.Global (words_of (codes "neighbor UP peer-group")) ≡ Decided.Refused Unknown)
    × (decided_before block.Global (words_of (codes "neighbor UP weight 5")) ≡ Decided.Refused OutOfPlace)
unfolding decided decisive_row later global global_forms global_refused global_ignored interface interface_forms interface_refused interface_ignored access_list access_list_forms access_list_refused access_list_ignored route_map route_map_forms route_map_refused route_map_ignored ospf ospf_forms ospf_refused ospf_ignored bgp bgp_forms bgp_refused bgp_ignored words_of
before = (refl, refl, refl, refl, refl, refl, refl, refl, refl, refl, refl, refl, refl, refl, refl, refl, refl)
