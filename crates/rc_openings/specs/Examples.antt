-- Lines and words with what they are, by computation.
use Rattle.std.specs.Prelude.{◌≡◌, refl, ℕ, List, [], ◌∷◌, Option, Some, None, codes, option_map}
use Rattle.rc_base.specs.Addr.{mask_len}
use Rattle.rc_openings.specs.declared.block.Block.{Block}
use Rattle.rc_openings.specs.declared.block.Block.TheVariants as block
use Rattle.rc_openings.specs.declared.form.Form.TheVariants as form
use Rattle.rc_openings.specs.declared.form.AccessListForm.TheVariants as access
use Rattle.rc_openings.specs.declared.form.BgpForm.TheVariants as bgp
use Rattle.rc_openings.specs.declared.form.GeneralForm.TheVariants as general
use Rattle.rc_openings.specs.declared.form.InterfaceForm.TheVariants as interface
use Rattle.rc_openings.specs.declared.form.MapEntryForm.TheVariants as entry
use Rattle.rc_openings.specs.declared.form.OspfForm.TheVariants as ospf
use Rattle.rc_openings.specs.declared.form.PolicyForm.TheVariants as policy
use Rattle.rc_openings.specs.declared.opening.Verdict.{Verdict}
use Rattle.rc_openings.specs.declared.opening.Verdict.TheVariants.{Form, Refused, Ignored}
use Rattle.rc_openings.specs.declared.reading.LineRefusal.TheVariants.{Unknown, Unsupported, OutOfPlace}
use Rattle.rc_openings.specs.Block.{rows_of}
use Rattle.rc_openings.specs.Opening.{decisive_row}
use Rattle.rc_openings.specs.Reading as Decided
use Rattle.rc_openings.specs.Reading.{unopened, decided, OfForm, Passed}
use Rattle.rc_openings.specs.Values.{area_of, interface_of, number_of, number_within, address_of, mask_length_of, prefix_of}
use Rattle.rc_openings.specs.Words.{words_of}
use Rattle.rc_openings.specs.GlobalOpenings.{global, global_forms, global_refused, global_ignored}
use Rattle.rc_openings.specs.InterfaceOpenings.{interface, interface_forms, interface_refused, interface_ignored}
use Rattle.rc_openings.specs.AccessListOpenings.{access_list, access_list_forms, access_list_refused, access_list_ignored}
use Rattle.rc_openings.specs.RouteMapOpenings.{route_map, route_map_forms, route_map_refused, route_map_ignored}
use Rattle.rc_openings.specs.OspfOpenings.{ospf, ospf_forms, ospf_refused, ospf_ignored}
use Rattle.rc_openings.specs.BgpOpenings.{bgp, bgp_forms, bgp_refused, bgp_ignored}

-- the line is decided by an opening with this verdict, or by none
abbrev pub IsDecided : Block → List ℕ → Option Verdict → Type 0
IsDecided kind line verdict = option_map (λ r. r.verdict) (decisive_row (rows_of kind) (words_of line)) ≡ verdict

pub global_lines :
    IsDecided block.Global (codes "hostname R1") (Some (Form (form.General general.Hostname)))
    × IsDecided block.Global (codes "interface GigabitEthernet0/0") (Some (Form (form.General general.Interface)))
    × IsDecided block.Global (codes "ip route 10.0.0.0 255.0.0.0 Null0") (Some (Form (form.General general.StaticRoute)))
    × IsDecided block.Global (codes "ip route vrf RED 10.0.0.0 255.0.0.0 Null0") (Some Refused)
    × IsDecided block.Global (codes "no ip routing") (Some Refused)
    × IsDecided block.Global (codes "no ip http server") (Some Ignored)
    × IsDecided block.Global (codes "router rip") (Some Refused)
    × IsDecided block.Global (codes "router ospf 1") (Some (Form (form.Ospf ospf.RouterOspf)))
    × IsDecided block.Global (codes "router bgp 65001") (Some (Form (form.Bgp bgp.RouterBgp)))
    × IsDecided block.Global (codes "ip prefix-list X permit 10.0.0.0/8") (Some (Form (form.Policy policy.PrefixList)))
    × IsDecided block.Global (codes "ip prefix-list X description y") (Some Ignored)
    × IsDecided block.Global (codes "ip community-list expanded X permit .*") (Some Refused)
    × IsDecided block.Global (codes "ip") None
    × IsDecided block.Global (codes "shutdown") None
unfolding decisive_row global global_forms global_refused global_ignored words_of
global_lines = (refl, refl, refl, refl, refl, refl, refl, refl, refl, refl, refl, refl, refl, refl)

pub interface_lines :
    IsDecided block.Interface (codes " ip address 10.0.0.1 255.0.0.0") (Some (Form (form.Interface interface.IpAddress)))
    × IsDecided block.Interface (codes " ip address dhcp") (Some Refused)
    × IsDecided block.Interface (codes " shutdown") (Some (Form (form.Interface interface.Shutdown)))
    × IsDecided block.Interface (codes " no shutdown") (Some (Form (form.Interface interface.NoShutdown)))
    × IsDecided block.Interface (codes " no keepalive") (Some Ignored)
    × IsDecided block.Interface (codes " ip ospf cost 10") (Some (Form (form.Interface interface.OspfCost)))
    × IsDecided block.Interface (codes " ip ospf priority 3") (Some Ignored)
    × IsDecided block.Interface (codes " ip ospf authentication") (Some Refused)
    × IsDecided block.Interface (codes " ip ospf 1 area 0") (Some (Form (form.Interface interface.OspfArea)))
    × IsDecided block.Interface (codes " ip ospf network broadcast") (Some (Form (form.Interface interface.OspfNetworkBroadcast)))
    × IsDecided block.Interface (codes " ip ospf network non-broadcast") (Some (Form (form.Interface interface.OspfNetworkType)))
    × IsDecided block.Interface (codes " ip ospf cost area 0") (Some (Form (form.Interface interface.OspfArea)))
    × IsDecided block.Interface (codes " crypto map") (Some Refused)
    × IsDecided block.Interface (codes " crypto") None
unfolding decisive_row interface interface_forms interface_refused interface_ignored words_of
interface_lines = (refl, refl, refl, refl, refl, refl, refl, refl, refl, refl, refl, refl, refl, refl)

pub other_lines :
    IsDecided block.AccessList (codes " remark") (Some (Form (form.AccessList access.Remark)))
    × IsDecided block.AccessList (codes " dynamic X permit ip any any") (Some Refused)
    × IsDecided block.RouteMap (codes " match ip address prefix-list X") (Some (Form (form.MapEntry entry.MatchPrefixList)))
    × IsDecided block.RouteMap (codes " set metric-type internal") (Some Refused)
    × IsDecided block.RouteMap (codes " set tag 3") (Some Ignored)
    × IsDecided block.Ospf (codes " passive-interface default") (Some (Form (form.Ospf ospf.PassiveInterfaceDefault)))
    × IsDecided block.Ospf (codes " redistribute rip") (Some Refused)
    × IsDecided block.Ospf (codes " redistribute static subnets") (Some (Form (form.Ospf ospf.RedistributeStatic)))
    × IsDecided block.Ospf (codes " redistribute bgp 65001") (Some (Form (form.Ospf ospf.RedistributeBgp)))
    × IsDecided block.Ospf (codes " area 0.0.0.1 stub no-summary") (Some (Form (form.Ospf ospf.StubArea)))
    × IsDecided block.Ospf (codes " area stub") (Some Refused)
    × IsDecided block.Ospf (codes " default-information originate always") (Some (Form (form.Ospf ospf.DefaultInformationOriginate)))
    × IsDecided block.Ospf (codes " default-information") (Some Refused)
    × IsDecided block.Ospf (codes " area 1 range 10.0.0.0 255.0.0.0") (Some Refused)
    × IsDecided block.Ospf (codes " no passive-interface default") (Some (Form (form.Ospf ospf.NoPassiveInterface)))
    × IsDecided block.Ospf (codes " no auto-cost") (Some Ignored)
    × IsDecided block.Ospf (codes " auto-cost") None
    × IsDecided block.Bgp (codes " neighbor 10.0.0.1 activate") (Some (Form (form.Bgp bgp.NeighborActivate)))
    × IsDecided block.Bgp (codes " neighbor 10.0.0.1 weight 5") (Some (Form (form.Bgp bgp.NeighborWeight)))
    × IsDecided block.Bgp (codes " neighbor 10.0.0.1 version 4") (Some Ignored)
    × IsDecided block.Bgp (codes " neighbor 10.0.0.1") (Some Refused)
    × IsDecided block.Bgp (codes " maximum-paths 4") (Some (Form (form.Bgp bgp.MaximumPaths)))
    × IsDecided block.Bgp (codes " maximum-paths") (Some (Form (form.Bgp bgp.MaximumPaths)))
    × IsDecided block.Bgp (codes " maximum-paths ibgp 4") (Some (Form (form.Bgp bgp.MaximumPathsIbgp)))
    × IsDecided block.Bgp (codes " maximum-paths eibgp 4") (Some Refused)
    × IsDecided block.Ospf (codes " maximum-paths 4") (Some Refused)
    × IsDecided block.Bgp (codes " no bgp default ipv4-unicast") (Some (Form (form.Bgp bgp.NoDefaultIpv4Unicast)))
    × IsDecided block.Bgp (codes " no synchronization") (Some Ignored)
    × IsDecided block.Bgp (codes " exit-address-family") None
    × IsDecided block.Bgp (codes " exit") (Some Ignored)
    × IsDecided block.Ignored (codes " anything at all") (Some Ignored)
    × IsDecided block.Closed (codes " ip address 10.0.0.1 255.0.0.0") None
unfolding decisive_row access_list access_list_forms access_list_refused access_list_ignored route_map route_map_forms route_map_refused route_map_ignored ospf ospf_forms ospf_refused ospf_ignored bgp bgp_forms bgp_refused bgp_ignored words_of
other_lines = (refl, refl, refl, refl, refl, refl, refl, refl, refl, refl, refl, refl, refl, refl, refl, refl, refl, refl, refl, refl, refl, refl, refl, refl, refl, refl, refl, refl, refl, refl, refl, refl)

-- forms of every block count; openings that only ever refuse do not
pub unopened_lines :
    (unopened (words_of (codes "permit any")) ≡ OutOfPlace)
    × (unopened (words_of (codes "hostname")) ≡ OutOfPlace)
    × (unopened (words_of (codes "area 1 stub")) ≡ OutOfPlace)
    × (unopened (words_of (codes "set origin")) ≡ OutOfPlace)
    × (unopened (words_of (codes "neighbor 10.0.0.1 weight")) ≡ OutOfPlace)
    × (unopened (words_of (codes "maximum-paths 2")) ≡ OutOfPlace)
    × (unopened (words_of (codes "maximum-paths eibgp 2")) ≡ OutOfPlace)
    × (unopened (words_of (codes "address-family ipv4")) ≡ OutOfPlace)
    × (unopened (words_of (codes "address-family vpnv4")) ≡ Unknown)
    × (unopened (words_of (codes "exit-address-family")) ≡ OutOfPlace)
    × (unopened (words_of (codes "no neighbor 10.0.0.1 activate")) ≡ OutOfPlace)
    × (unopened (words_of (codes "no neighbor 10.0.0.1")) ≡ Unknown)
    × (unopened (words_of (codes "neighbor 10.0.0.1")) ≡ Unknown)
    × (unopened (words_of (codes "version 15.7")) ≡ Unknown)
unfolding global global_forms global_refused global_ignored interface interface_forms interface_refused interface_ignored access_list access_list_forms access_list_refused access_list_ignored route_map route_map_forms route_map_refused route_map_ignored ospf ospf_forms ospf_refused ospf_ignored bgp bgp_forms bgp_refused bgp_ignored words_of
unopened_lines = (refl, refl, refl, refl, refl, refl, refl, refl, refl, refl, refl, refl, refl, refl)

pub numbers :
    (number_of (codes "007") ≡ Some 7)
    × (number_of (codes "4294967295") ≡ Some 4294967295)
    × (number_of (codes "4294967296") ≡ None)
    × (number_of (codes "0000000001") ≡ Some 1)
    × (number_of (codes "00000000001") ≡ None)
    × (number_of (codes "-1") ≡ None)
    × (number_of (codes "") ≡ None)
    × (number_within 1 65535 (codes "0") ≡ None)
    × (number_within 1 65535 (codes "65535") ≡ Some 65535)
    × (number_within 1 65535 (codes "65536") ≡ None)
numbers = (refl, refl, refl, refl, refl, refl, refl, refl, refl, refl)

pub addresses :
    (address_of (codes "10.0.0.1") ≡ Some 0x0a000001)
    × (address_of (codes "010.000.0.001") ≡ Some 0x0a000001)
    × (address_of (codes "10.0.0.256") ≡ None)
    × (address_of (codes "10.0.0") ≡ None)
    × (address_of (codes "10.0.0.1.") ≡ None)
    × (mask_length_of (codes "255.255.254.0") ≡ Some 23)
    × (mask_length_of (codes "0.0.0.0") ≡ Some 0)
    × (mask_length_of (codes "255.0.255.0") ≡ None)
    × (prefix_of (codes "10.1.2.3/08") ≡ Some (record { network = 0x0a000000; len = 8 }))
    × (prefix_of (codes "10.1.2.3/32") ≡ Some (record { network = 0x0a010203; len = 32 }))
    × (prefix_of (codes "10.1.2.3/33") ≡ None)
    × (prefix_of (codes "10.1.2.3/8/8") ≡ None)
    × (prefix_of (codes "10.1.2.3") ≡ None)
unfolding mask_len
addresses = (refl, refl, refl, refl, refl, refl, refl, refl, refl, refl, refl, refl, refl)

-- the number of an area is written as a number, or as a dotted word of that value
pub areas :
    (area_of (codes "0") ≡ Some 0)
    × (area_of (codes "0.0.0.0") ≡ Some 0)
    × (area_of (codes "0.0.1.0") ≡ Some 256)
    × (area_of (codes "4294967295") ≡ Some 4294967295)
    × (area_of (codes "255.255.255.255") ≡ Some 4294967295)
    × (area_of (codes "4294967296") ≡ None)
    × (area_of (codes "0.0.0.256") ≡ None)
    × (area_of (codes "backbone") ≡ None)
areas = (refl, refl, refl, refl, refl, refl, refl, refl)

-- the name of an interface begins with a letter
pub interfaces :
    (interface_of (codes "Gi0/0") ≡ Some (codes "Gi0/0"))
    × (interface_of (codes "0/0") ≡ None)
    × (interface_of (codes "") ≡ None)
interfaces = (refl, refl, refl)

-- what a line is by its opening: in the block of an access list a sequence number in front is set aside, and elsewhere it is a word
pub decisions :
    (decided block.AccessList (words_of (codes " 10 permit any")) ≡ OfForm (form.AccessList access.Permit) (codes "any" ∷ []))
    × (decided block.AccessList (words_of (codes " remark")) ≡ OfForm (form.AccessList access.Remark) [])
    × (decided block.AccessList (words_of (codes " 2147483648 permit any")) ≡ Decided.Refused Unknown)
    × (decided block.AccessList (words_of (codes " 10 exit")) ≡ Passed)
    × (decided block.Interface (words_of (codes " 10 shutdown")) ≡ Decided.Refused Unknown)
    × (decided block.Interface (words_of (codes " permit any")) ≡ Decided.Refused OutOfPlace)
    × (decided block.Global (words_of (codes "ip prefix-list X permit 10.0.0.0/8")) ≡ OfForm (form.Policy policy.PrefixList) (codes "X" ∷ codes "permit" ∷ codes "10.0.0.0/8" ∷ []))
    × (decided block.Global (words_of (codes "ip community-list standard X")) ≡ OfForm (form.Policy policy.StandardCommunityList) (codes "X" ∷ []))
    × (decided block.Global (words_of (codes "router bgp 1")) ≡ OfForm (form.Bgp bgp.RouterBgp) (codes "1" ∷ []))
    × (decided block.Bgp (words_of (codes " redistribute static")) ≡ OfForm (form.Bgp bgp.RedistributeStatic) [])
unfolding decided decisive_row global global_forms global_refused global_ignored interface interface_forms interface_refused interface_ignored access_list access_list_forms access_list_refused access_list_ignored route_map route_map_forms route_map_refused route_map_ignored ospf ospf_forms ospf_refused ospf_ignored bgp bgp_forms bgp_refused bgp_ignored words_of
decisions = (refl, refl, refl, refl, refl, refl, refl, refl, refl, refl)

-- Under `router bgp` a line whose second word holds a colon is passed over where the first is `neighbor`, whatever stands behind, and so
-- is one with `no` in front of these; in other blocks it is a line like any other.
pub other_families :
    (decided block.Bgp (words_of (codes " neighbor 2001:db8::1 remote-as 65001")) ≡ Passed)
    × (decided block.Bgp (words_of (codes " neighbor 2001:db8::1 weight 5")) ≡ Passed)
    × (decided block.Bgp (words_of (codes " neighbor 2001:db8::1 anything at all")) ≡ Passed)
    × (decided block.Bgp (words_of (codes " neighbor :")) ≡ Passed)
    × (decided block.Bgp (words_of (codes " neighbor 10.0.0.1 remote-as 65001")) ≡ OfForm (form.Bgp bgp.NeighborRemoteAs) (codes "65001" ∷ []))
    × (decided block.Bgp (words_of (codes " neighbor 10.0.0.1 remote-as 1:1")) ≡ OfForm (form.Bgp bgp.NeighborRemoteAs) (codes "1:1" ∷ []))
    × (decided block.Bgp (words_of (codes " neighbor 10.0.0.1")) ≡ Decided.Refused Unsupported)
    × (decided block.Bgp (words_of (codes " neighbor")) ≡ Decided.Refused Unsupported)
    × (decided block.Bgp (words_of (codes " no neighbor 2001:db8::1 activate")) ≡ Passed)
    × (decided block.Bgp (words_of (codes " no neighbor 2001:db8::1")) ≡ Passed)
    × (decided block.Bgp (words_of (codes " no neighbor 10.0.0.1 remote-as 1:1")) ≡ Decided.Refused Unsupported)
    × (decided block.Bgp (words_of (codes " no neighbor")) ≡ Decided.Refused Unsupported)
    × (decided block.Bgp (words_of (codes " network 2001:db8::")) ≡ OfForm (form.Bgp bgp.Network) (codes "2001:db8::" ∷ []))
    × (decided block.Ospf (words_of (codes " neighbor 2001:db8::1")) ≡ Decided.Refused Unsupported)
    × (decided block.Ospf (words_of (codes " no neighbor 2001:db8::1")) ≡ Passed)
    × (decided block.Interface (words_of (codes " neighbor 2001:db8::1 activate")) ≡ Decided.Refused OutOfPlace)
    × (decided block.RouteMap (words_of (codes " no neighbor 2001:db8::1 activate")) ≡ Decided.Refused OutOfPlace)
unfolding decided decisive_row global global_forms global_refused global_ignored interface interface_forms interface_refused interface_ignored access_list access_list_forms access_list_refused access_list_ignored route_map route_map_forms route_map_refused route_map_ignored ospf ospf_forms ospf_refused ospf_ignored bgp bgp_forms bgp_refused bgp_ignored words_of
other_families = (refl, refl, refl, refl, refl, refl, refl, refl, refl, refl, refl, refl, refl, refl, refl, refl, refl)
