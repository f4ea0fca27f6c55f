-- Lines of peer groups, of activity and of address families with what they say, by computation.
use Rattle.std.specs.Prelude.{◌≡◌, refl, ℕ, true, false, List, Ok, Err, codes}
use Rattle.rc_openings.specs.GlobalOpenings.{global, global_forms, global_refused, global_ignored}
use Rattle.rc_openings.specs.InterfaceOpenings.{interface, interface_forms, interface_refused, interface_ignored}
use Rattle.rc_openings.specs.AccessListOpenings.{access_list, access_list_forms, access_list_refused, access_list_ignored}
use Rattle.rc_openings.specs.RouteMapOpenings.{route_map, route_map_forms, route_map_refused, route_map_ignored}
use Rattle.rc_openings.specs.OspfOpenings.{ospf, ospf_forms, ospf_refused, ospf_ignored}
use Rattle.rc_openings.specs.BgpOpenings.{bgp, bgp_forms, bgp_refused, bgp_ignored}
use Rattle.rc_openings.specs.FamilyOpenings.{ipv4_family, other_family}
use Rattle.rc_openings.specs.Opening.{decisive_row}
use Rattle.rc_openings.specs.Reading.{decided}
use Rattle.rc_openings.specs.Words.{words_of}
use Rattle.rc_openings.specs.declared.reading.LineRefusal.TheVariants.{Unknown, Unsupported, BadValue, OutOfPlace}
use Rattle.rc_config.specs.Update.{after, empty}
use Rattle.rc_config.specs.declared.bgp.BgpLine.{BgpLine}
use Rattle.rc_config.specs.declared.bgp.BgpLine.TheVariants.{Active, GroupDeclared, InactiveByDefault, MaximumExternalPaths, MemberOf, Setting}
use Rattle.rc_config.specs.declared.bgp.NeighborSetting.TheVariants.{NextHopSelf, RemoteAs, RouteMap, Weight}
use Rattle.rc_config.specs.declared.command.Command.TheVariants as command
use Rattle.rc_config.specs.declared.context.OpenBlock.{OpenBlock}
use Rattle.rc_config.specs.declared.context.OpenBlock.TheVariants as place
use Rattle.rc_config.specs.declared.interface.Direction.TheVariants.{In}
use Rattle.rc_config.specs.declared.peering.Peer.{Peer}
use Rattle.rc_config.specs.declared.peering.Peer.TheVariants as peer
use Rattle.rc_config.specs.declared.router_text.RouterText.{RouterText}
use Rattle.rc_gram_bgp.specs.Reading.{says}
use Rattle.rc_gram_bgp.specs.Rows.{Answer}

-- the file of a process in AS 7 in which the group UP is declared
abbrev with_group : RouterText
with_group = after (after empty (command.BgpOpened 7)) (command.BgpLine (GroupDeclared (codes "UP")))

-- in this block of it the seventh line says this
abbrev SaysIn : OpenBlock → List ℕ → Answer → Type 0
SaysIn block text answer = says block with_group 7 (words_of text) ≡ answer

abbrev Says : List ℕ → Answer → Type 0
Says text answer = SaysIn place.Bgp text answer

abbrev Is : List ℕ → BgpLine → Type 0
Is text line = Says text (Ok (command.BgpLine line))

abbrev IsInFamily : List ℕ → BgpLine → Type 0
IsInFamily text line = SaysIn place.InFamily text (Ok (command.BgpLine line))

-- 10.0.0.2, and the group
abbrev second : Peer
second = peer.Address 0x0a000002

abbrev up : Peer
up = peer.Group (codes "UP")

-- a group is declared by a name that begins with a letter, and again by the same
pub groups :
    Is (codes " neighbor UP peer-group") (GroupDeclared (codes "UP"))
    × Is (codes " neighbor DOWN peer-group") (GroupDeclared (codes "DOWN"))
    × Is (codes " neighbor L10.0.0.2 peer-group") (GroupDeclared (codes "L10.0.0.2"))
    × Says (codes " neighbor 10.0.0.2 peer-group") (Err BadValue)
    × Says (codes " neighbor 10 peer-group") (Err BadValue)
    × Says (codes " neighbor -UP peer-group") (Err BadValue)
    × Says (codes " neighbor UP peer-group UP UP") (Err BadValue)
    × Says (codes " neighbor x:y peer-group") (Ok command.Passed)
unfolding decided decisive_row bgp bgp_forms bgp_refused bgp_ignored words_of
groups = (refl, refl, refl, refl, refl, refl, refl, refl)

-- a neighbour is a member of a group that was declared before
pub members :
    Is (codes " neighbor 10.0.0.2 peer-group UP") (MemberOf 0x0a000002 (codes "UP"))
    × IsInFamily (codes " neighbor 10.0.0.2 peer-group UP") (MemberOf 0x0a000002 (codes "UP"))
    × Says (codes " neighbor 10.0.0.2 peer-group DOWN") (Err BadValue)
    × Says (codes " neighbor 10.0.0.2 peer-group up") (Err BadValue)
    × Says (codes " neighbor 10.0.0.2 peer-group 10.0.0.2") (Err BadValue)
    × Says (codes " neighbor UP peer-group UP") (Err BadValue)
    × Says (codes " neighbor 10.0.0.2 peer-group UP now") (Err BadValue)
unfolding decided decisive_row ipv4_family bgp bgp_forms bgp_refused bgp_ignored words_of
members = (refl, refl, refl, refl, refl, refl, refl)

-- a line about a group sets what one about a neighbour does, where the group was declared
pub about_groups :
    Is (codes " neighbor UP remote-as 65001") (Setting up (RemoteAs 65001))
    × Is (codes " neighbor UP weight 5") (Setting up (Weight 5))
    × Is (codes " neighbor UP next-hop-self") (Setting up NextHopSelf)
    × IsInFamily (codes " neighbor UP route-map M in") (Setting up (RouteMap (record { name = codes "M"; line = 7 }) In))
    × IsInFamily (codes " neighbor 10.0.0.2 weight 5") (Setting second (Weight 5))
    × Says (codes " neighbor UP send-community extended") (Ok command.Remark)
    × Says (codes " neighbor DOWN remote-as 65001") (Err BadValue)
    × Says (codes " neighbor DOWN send-community extended") (Err BadValue)
    × Says (codes " neighbor UP: remote-as 65001") (Ok command.Passed)
    × Says (codes " neighbor DOWN description x") (Ok command.Passed)
unfolding decided decisive_row ipv4_family bgp bgp_forms bgp_refused bgp_ignored words_of
about_groups = (refl, refl, refl, refl, refl, refl, refl, refl, refl, refl)

-- a line makes a neighbour or a group active, or takes that back, in the block of the process and in that of a family
pub activities :
    Is (codes " neighbor 10.0.0.2 activate") (Active second true)
    × Is (codes " no neighbor 10.0.0.2 activate") (Active second false)
    × Is (codes " neighbor UP activate") (Active up true)
    × Is (codes " no neighbor UP activate") (Active up false)
    × IsInFamily (codes " neighbor 10.0.0.2 activate") (Active second true)
    × IsInFamily (codes " no neighbor UP activate") (Active up false)
    × Says (codes " no neighbor DOWN activate") (Err BadValue)
    × Says (codes " neighbor DOWN activate") (Err BadValue)
    × Says (codes " no neighbor 10.0.0.2 activate now") (Err BadValue)
    × Says (codes " neighbor 10.0.0.2 activate now") (Err BadValue)
    × Says (codes " no neighbor x:y activate") (Ok command.Passed)
    × Is (codes " no bgp default ipv4-unicast") (InactiveByDefault)
    × IsInFamily (codes " no bgp default ipv4-unicast") (InactiveByDefault)
    × Says (codes " no bgp default ipv4-unicast x") (Err BadValue)
unfolding decided decisive_row ipv4_family bgp bgp_forms bgp_refused bgp_ignored words_of
activities = (refl, refl, refl, refl, refl, refl, refl, refl, refl, refl, refl, refl, refl, refl)

-- families open in the block of the process alone, and end where they are open
pub families :
    Says (codes " address-family ipv4") (Ok command.FamilyOpened)
    × Says (codes " address-family ipv4 unicast") (Ok command.FamilyOpened)
    × Says (codes " address-family ipv4 unicast x") (Err BadValue)
    × Says (codes " address-family ipv4 tunnel") (Err BadValue)
    × Says (codes " address-family ipv4 vrf X") (Err Unsupported)
    × Says (codes " address-family vpnv4") (Err Unsupported)
    × Says (codes " address-family ipv6") (Ok command.OtherFamilyOpened)
    × Says (codes " address-family ipv6 vrf X") (Ok command.OtherFamilyOpened)
    × Says (codes " exit-address-family") (Err OutOfPlace)
    × SaysIn place.InFamily (codes " exit-address-family") (Ok command.FamilyClosed)
    × SaysIn place.InFamily (codes " exit-address-family x") (Err BadValue)
    × SaysIn place.InFamily (codes " exit") (Ok command.Passed)
    × SaysIn place.InFamily (codes " address-family ipv6") (Err Unsupported)
    × SaysIn place.InOtherFamily (codes " exit-address-family") (Ok command.FamilyClosed)
    × SaysIn place.InOtherFamily (codes " exit-address-family x") (Ok command.Passed)
    × SaysIn place.InOtherFamily (codes " address-family ipv4") (Ok command.Passed)
    × SaysIn place.InOtherFamily (codes " neighbor 10.0.0.2 remote-as x") (Ok command.Passed)
unfolding decided decisive_row ipv4_family other_family global global_forms global_refused global_ignored interface interface_forms interface_refused interface_ignored access_list access_list_forms access_list_refused access_list_ignored route_map route_map_forms route_map_refused route_map_ignored ospf ospf_forms ospf_refused ospf_ignored bgp bgp_forms bgp_refused bgp_ignored words_of
families = (refl, refl, refl, refl, refl, refl, refl, refl, refl, refl, refl, refl, refl, refl, refl, refl, refl)

-- in a family nothing is said of the process and of its sessions
pub outside_of_families :
    SaysIn place.InFamily (codes " bgp router-id 1.1.1.1") (Err Unsupported)
    × SaysIn place.InFamily (codes " neighbor 10.0.0.2 remote-as 65001") (Err Unsupported)
    × SaysIn place.InFamily (codes " neighbor UP update-source Loopback0") (Err Unsupported)
    × SaysIn place.InFamily (codes " neighbor UP ebgp-multihop") (Err Unsupported)
    × SaysIn place.InFamily (codes " neighbor UP shutdown") (Err Unsupported)
    × SaysIn place.InFamily (codes " no neighbor UP shutdown") (Err Unsupported)
    × SaysIn place.InFamily (codes " neighbor 2001:db8::2 remote-as 65001") (Ok command.Passed)
    × SaysIn place.InFamily (codes " no neighbor 2001:db8::2 activate") (Ok command.Passed)
    × SaysIn place.InFamily (codes " maximum-paths 2") (Ok (command.BgpLine (MaximumExternalPaths 2)))
    × SaysIn place.InFamily (codes " no auto-summary") (Ok command.Passed)
    × SaysIn place.InFamily (codes " synchronization") (Err Unknown)
unfolding decided decisive_row ipv4_family global global_forms global_refused global_ignored interface interface_forms interface_refused interface_ignored access_list access_list_forms access_list_refused access_list_ignored route_map route_map_forms route_map_refused route_map_ignored ospf ospf_forms ospf_refused ospf_ignored bgp bgp_forms bgp_refused bgp_ignored words_of
outside_of_families = (refl, refl, refl, refl, refl, refl, refl, refl, refl, refl, refl)
