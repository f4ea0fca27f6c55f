-- Files with address families and peer groups, and the neighbours that their lines make in the end, by computation.
use Rattle.std.specs.Fmt.{digits}
use Rattle.std.specs.Prelude.{◌≡◌, refl, ℕ, Bool, true, false, List, [], ◌∷◌, ◌++◌, Some, Result, Ok, Err, codes}
use Rattle.std.specs.Option.{option_map_or}
use Rattle.rc_base.specs.Addr.{mask_len}
use Rattle.rc_openings.specs.AccessListOpenings.{access_list, access_list_forms, access_list_refused, access_list_ignored}
use Rattle.rc_openings.specs.BgpOpenings.{bgp, bgp_forms, bgp_refused, bgp_ignored}
use Rattle.rc_openings.specs.FamilyOpenings.{ipv4_family, other_family}
use Rattle.rc_openings.specs.GlobalOpenings.{global, global_forms, global_refused, global_ignored}
use Rattle.rc_openings.specs.InterfaceOpenings.{interface, interface_forms, interface_refused, interface_ignored}
use Rattle.rc_openings.specs.Opening.{decisive_row}
use Rattle.rc_openings.specs.OspfOpenings.{ospf, ospf_forms, ospf_refused, ospf_ignored}
use Rattle.rc_openings.specs.Reading.{decided, later}
use Rattle.rc_openings.specs.RouteMapOpenings.{route_map, route_map_forms, route_map_refused, route_map_ignored}
use Rattle.rc_openings.specs.Words.{words_of}
use Rattle.rc_openings.specs.declared.reading.LineRefusal.TheVariants.{Unsupported, BadValue, OutOfPlace}
use Rattle.rc_openings.specs.declared.reading.LineRefusal.{LineRefusal}
use Rattle.rc_lines.specs.Banners.{is_banner}
use Rattle.rc_config.specs.Bgp.{settled}
use Rattle.rc_config.specs.IfType.{type_of}
use Rattle.rc_config.specs.Settings.{no_settings}
use Rattle.rc_config.specs.declared.bgp.BgpProcess.{BgpProcess}
use Rattle.rc_config.specs.declared.bgp.Neighbor.{Neighbor}
use Rattle.rc_config.specs.declared.router_text.RouterText.{RouterText}
use Rattle.rc_config.specs.declared.settings.Settings.{Settings}
use Rattle.rc_gram_acl.specs.NumberName.{protocol_names, port_names}
use Rattle.rc_gram_acl.specs.Refused.{refused_words as of_access_lists}
use Rattle.rc_gram_ospf.specs.Rows.{refused_words as of_ospf}
use Rattle.rc_gram_policy.specs.Refused.{refused_in_entry, refused_in_list}
use Rattle.rc_grammar.specs.File.{file_before, file_of, read_by, step}
use Rattle.rc_grammar.specs.declared.refusal.FileCause.TheVariants.{Line}
use Rattle.rc_grammar.specs.declared.refusal.FileRefusal.{FileRefusal}

-- the neighbours of a file with what holds of each in the end
abbrev neighbors_of : RouterText → List Neighbor
neighbors_of file = option_map_or (λ (p : BgpProcess). (settled p).neighbors) file.bgp []

abbrev seen : Result RouterText FileRefusal → Result (List Neighbor) FileRefusal
seen (Ok file) = Ok (neighbors_of file)
seen (Err refusal) = Err refusal

-- the third line is the first behind these
abbrev front : List ℕ
front = codes "hostname X\nrouter bgp 65002\n"

abbrev Makes : List ℕ → List Neighbor → Type 0
Makes lines neighbors = seen (file_of (front ++ lines)) ≡ Ok neighbors

abbrev Refuses : List ℕ → ℕ → LineRefusal → Type 0
Refuses lines line refusal = seen (file_of (front ++ lines)) ≡ Err (record { line = line; cause = Line refusal })

-- 10.0.12.1
abbrev first : Bool → Settings → Neighbor
first is_active settings = record { address = 0x0a000c01; settings = settings; is_active = is_active }

abbrev in_as : ℕ → Settings
in_as asn = record no_settings { remote_as = Some asn }

abbrev of_weight : ℕ → Settings
of_weight weight = record no_settings { weight = Some weight }

-- a member has its group's values, and is active by its own line alone where the process says so
pub members :
    Makes (codes " no bgp default ipv4-unicast\n neighbor UP peer-group\n neighbor UP remote-as 65001\n neighbor 10.0.12.1 peer-group UP\n address-family ipv4\n  neighbor UP route-map IN in\n  neighbor 10.0.12.1 activate\n exit-address-family\n") (first true (record (in_as 65001) { map_in = Some (record { name = codes "IN"; line = 8 }) }) ∷ [])
    × Makes (codes " no bgp default ipv4-unicast\n neighbor UP peer-group\n neighbor UP remote-as 65001\n neighbor 10.0.12.1 peer-group UP\n address-family ipv4\n  neighbor UP route-map IN in\n exit-address-family\n") (first false (record (in_as 65001) { map_in = Some (record { name = codes "IN"; line = 8 }) }) ∷ [])
unfolding read_by step decided ipv4_family other_family decisive_row global global_forms global_refused global_ignored interface interface_forms interface_refused interface_ignored access_list access_list_forms access_list_refused access_list_ignored route_map route_map_forms route_map_refused route_map_ignored ospf ospf_forms ospf_refused ospf_ignored bgp bgp_forms bgp_refused bgp_ignored words_of is_banner mask_len type_of protocol_names port_names of_access_lists refused_in_entry refused_in_list of_ospf digits
members = (refl, refl)

-- what is refused: families of other kinds, groups that are not declared or not yet, names that are no names, and the end of no family
pub refusals :
    Refuses (codes " address-family ipv4 vrf X\n") 3 Unsupported
    × Refuses (codes " address-family vpnv4\n") 3 Unsupported
    × Refuses (codes " address-family\n") 3 Unsupported
    × Refuses (codes " address-family ipv4 unicast x\n") 3 BadValue
    × Refuses (codes " neighbor G remote-as 2\n") 3 BadValue
    × Refuses (codes " neighbor G activate\n neighbor G peer-group\n") 3 BadValue
    × Refuses (codes " neighbor 10.0.12.1 peer-group G\n neighbor G peer-group\n") 3 BadValue
    × Refuses (codes " neighbor 10.0.12.1 peer-group\n") 3 BadValue
    × Refuses (codes " neighbor 7 peer-group\n") 3 BadValue
    × Refuses (codes " exit-address-family\n") 3 OutOfPlace
    × Refuses (codes " address-family ipv4\n exit-address-family\n exit-address-family\n") 5 OutOfPlace
    × Refuses (codes " address-family ipv4\n exit-address-family x\n") 4 BadValue
    × Refuses (codes " address-family ipv4\n neighbor 10.0.12.1 remote-as 2\n") 4 Unsupported
    × Refuses (codes " address-family ipv4\n address-family ipv4\n") 4 Unsupported
    × Refuses (codes " no neighbor 10.0.12.1 remote-as 2\n") 3 Unsupported
unfolding read_by step decided ipv4_family other_family decisive_row global global_forms global_refused global_ignored interface interface_forms interface_refused interface_ignored access_list access_list_forms access_list_refused access_list_ignored route_map route_map_forms route_map_refused route_map_ignored ospf ospf_forms ospf_refused ospf_ignored bgp bgp_forms bgp_refused bgp_ignored words_of is_banner mask_len type_of protocol_names port_names of_access_lists refused_in_entry refused_in_list of_ospf digits
refusals = (refl, refl, refl, refl, refl, refl, refl, refl, refl, refl, refl, refl, refl, refl, refl)

-- a family ends with its end or with the block, and no other line ends it: neither `exit` nor a comment nor a line that is passed over
pub ends :
    Makes (codes " address-family ipv4\n exit-address-family\n neighbor 10.0.12.1 remote-as 3\n") (first true (in_as 3) ∷ [])
    × Makes (codes " address-family ipv4\nrouter bgp 65002\n neighbor 10.0.12.1 remote-as 3\n") (first true (in_as 3) ∷ [])
    × Makes (codes " address-family ipv6\nrouter bgp 65002\n neighbor 10.0.12.1 remote-as 3\n") (first true (in_as 3) ∷ [])
    × Makes (codes " address-family ipv4\n exit\n!\n no synchronization\n neighbor 10.0.12.1 weight 3\n") (first true (of_weight 3) ∷ [])
    × Refuses (codes " address-family ipv4\n exit\n!\n neighbor 10.0.12.1 remote-as 3\n") 6 Unsupported
    × Refuses (codes " address-family ipv4\ninterface Loopback0\n neighbor 10.0.12.1 weight 3\n") 5 OutOfPlace
    × Refuses (codes " address-family ipv4\nbanner motd # #\n neighbor 10.0.12.1 weight 3\n") 5 OutOfPlace
unfolding read_by step decided ipv4_family other_family decisive_row global global_forms global_refused global_ignored interface interface_forms interface_refused interface_ignored access_list access_list_forms access_list_refused access_list_ignored route_map route_map_forms route_map_refused route_map_ignored ospf ospf_forms ospf_refused ospf_ignored bgp bgp_forms bgp_refused bgp_ignored words_of is_banner mask_len type_of protocol_names port_names of_access_lists refused_in_entry refused_in_list of_ospf digits
ends = (refl, refl, refl, refl, refl, refl, refl)

-- of IPv6's family every line is passed over up to its end, also where it stands between two of IPv4
pub other_families :
    Makes (codes " address-family ipv6 unicast vrf x\n  foo\n  neighbor 10.0.12.1 remote-as 2\n exit-address-family x\n exit-address-family\n neighbor 10.0.12.1 remote-as 3\n") (first true (in_as 3) ∷ [])
    × Makes (codes " address-family ipv4\n  neighbor 10.0.12.1 weight 1\n exit-address-family\n address-family ipv6\n  neighbor 10.0.12.1 weight 2\n exit-address-family\n address-family ipv4 unicast\n  neighbor 10.0.12.1 next-hop-self\n exit-address-family\n") (first true (record (of_weight 1) { next_hop_self = true }) ∷ [])
    × Makes (codes " neighbor 2001::1 remote-as 2\n no neighbor 2001::1 remote-as 2\n address-family ipv4\n  neighbor 2001::1 remote-as 2\n  no neighbor 2001::1 activate\n exit-address-family\n address-family ipv6\n  neighbor 2001::1 activate\n") ([])
unfolding read_by step decided ipv4_family other_family decisive_row global global_forms global_refused global_ignored interface interface_forms interface_refused interface_ignored access_list access_list_forms access_list_refused access_list_ignored route_map route_map_forms route_map_refused route_map_ignored ospf ospf_forms ospf_refused ospf_ignored bgp bgp_forms bgp_refused bgp_ignored words_of is_banner mask_len type_of protocol_names port_names of_access_lists refused_in_entry refused_in_list of_ospf digits
other_families = (refl, refl, refl)

-- a member's own value counts before that of its group, wherever they stand; a flag is on where one of them has it; a group that is declared again stays, and a member of two groups is one of the later
pub values :
    Makes (codes " neighbor UP peer-group\n neighbor 10.0.12.1 peer-group UP\n neighbor 10.0.12.1 weight 0\n neighbor UP weight 5\n") (first true (of_weight 0) ∷ [])
    × Makes (codes " neighbor UP peer-group\n neighbor 10.0.12.1 peer-group UP\n neighbor UP weight 5\n neighbor UP peer-group\n") (first true (of_weight 5) ∷ [])
    × Makes (codes " neighbor UP peer-group\n neighbor 10.0.12.1 peer-group UP\n neighbor UP next-hop-self\n neighbor UP shutdown\n neighbor 10.0.12.1 next-hop-self\n") (first true (record no_settings { next_hop_self = true; is_shutdown = true }) ∷ [])
    × Makes (codes " neighbor UP peer-group\n neighbor 10.0.12.1 peer-group UP\n neighbor DOWN peer-group\n neighbor DOWN weight 9\n neighbor UP weight 5\n neighbor 10.0.12.1 peer-group DOWN\n") (first true (of_weight 9) ∷ [])
    × Makes (codes " neighbor UP peer-group\n neighbor UP weight 5\n neighbor 10.0.12.1 weight 1\n") (first true (of_weight 1) ∷ [])
unfolding read_by step decided ipv4_family other_family decisive_row global global_forms global_refused global_ignored interface interface_forms interface_refused interface_ignored access_list access_list_forms access_list_refused access_list_ignored route_map route_map_forms route_map_refused route_map_ignored ospf ospf_forms ospf_refused ospf_ignored bgp bgp_forms bgp_refused bgp_ignored words_of is_banner mask_len type_of protocol_names port_names of_access_lists refused_in_entry refused_in_list of_ospf digits
values = (refl, refl, refl, refl, refl)

-- the last line about a neighbour's activity counts, in whichever block it stands, before that of its group; of an `activate` line alone there is no neighbour
pub activities :
    Makes (codes " neighbor 10.0.12.1 weight 1\n neighbor 10.0.12.1 activate\n no neighbor 10.0.12.1 activate\n") (first false (of_weight 1) ∷ [])
    × Makes (codes " neighbor 10.0.12.1 weight 1\n no neighbor 10.0.12.1 activate\n neighbor 10.0.12.1 activate\n") (first true (of_weight 1) ∷ [])
    × Makes (codes " neighbor 10.0.12.1 weight 1\n neighbor 10.0.12.1 activate\n address-family ipv4\n  no neighbor 10.0.12.1 activate\n exit-address-family\n") (first false (of_weight 1) ∷ [])
    × Makes (codes " neighbor 10.0.12.1 weight 1\n no neighbor 10.0.12.1 activate\n address-family ipv4\n  neighbor 10.0.12.1 activate\n exit-address-family\n") (first true (of_weight 1) ∷ [])
    × Makes (codes " neighbor 10.0.12.1 weight 1\n address-family ipv4\n  neighbor 10.0.12.1 activate\n exit-address-family\n no neighbor 10.0.12.1 activate\n") (first false (of_weight 1) ∷ [])
    × Makes (codes " neighbor 10.0.12.1 weight 1\n address-family ipv4\n  no neighbor 10.0.12.1 activate\n exit-address-family\n neighbor 10.0.12.1 activate\n") (first true (of_weight 1) ∷ [])
    × Makes (codes " no bgp default ipv4-unicast\n neighbor 10.0.12.1 weight 1\n") (first false (of_weight 1) ∷ [])
    × Makes (codes " neighbor 10.0.12.1 weight 1\n address-family ipv4\n  no bgp default ipv4-unicast\n exit-address-family\n") (first false (of_weight 1) ∷ [])
    × Makes (codes " neighbor UP peer-group\n neighbor 10.0.12.1 peer-group UP\n no neighbor UP activate\n") (first false no_settings ∷ [])
    × Makes (codes " neighbor UP peer-group\n neighbor 10.0.12.1 peer-group UP\n no neighbor UP activate\n neighbor 10.0.12.1 activate\n") (first true no_settings ∷ [])
    × Makes (codes " neighbor UP peer-group\n neighbor 10.0.12.1 peer-group UP\n no neighbor 10.0.12.1 activate\n neighbor UP activate\n") (first false no_settings ∷ [])
    × Makes (codes " neighbor 10.0.12.1 activate\n") ([])
unfolding read_by step decided ipv4_family other_family decisive_row global global_forms global_refused global_ignored interface interface_forms interface_refused interface_ignored access_list access_list_forms access_list_refused access_list_ignored route_map route_map_forms route_map_refused route_map_ignored ospf ospf_forms ospf_refused ospf_ignored bgp bgp_forms bgp_refused bgp_ignored words_of is_banner mask_len type_of protocol_names port_names of_access_lists refused_in_entry refused_in_list of_ospf digits
activities = (refl, refl, refl, refl, refl, refl, refl, refl, refl, refl, refl, refl)

-- ---- before these were read

abbrev MadeBefore : List ℕ → List Neighbor → Type 0
MadeBefore lines neighbors = seen (file_before (front ++ lines)) ≡ Ok neighbors

abbrev RefusedBefore : List ℕ → ℕ → LineRefusal → Type 0
RefusedBefore lines line refusal = seen (file_before (front ++ lines)) ≡ Err (record { line = line; cause = Line refusal })

-- families and groups were refused, and `activate` had no effect
pub files_before :
    MadeBefore (codes " neighbor 10.0.12.1 remote-as 3\n neighbor 10.0.12.1 activate\n") (first true (in_as 3) ∷ [])
    × MadeBefore (codes " neighbor 2001::1 peer-group X\n") ([])
    × RefusedBefore (codes " address-family ipv4\n") 3 Unsupported
    × RefusedBefore (codes " address-family ipv6\n") 3 Unsupported
    × RefusedBefore (codes " exit-address-family\n") 3 Unsupported
    × RefusedBefore (codes " no neighbor 2001::1 activate\n") 3 Unsupported
    × RefusedBefore (codes " no bgp default ipv4-unicast\n") 3 Unsupported
    × RefusedBefore (codes " neighbor UP peer-group\n") 3 Unsupported
unfolding read_by step decided later decisive_row global global_forms global_refused global_ignored interface interface_forms interface_refused interface_ignored access_list access_list_forms access_list_refused access_list_ignored route_map route_map_forms route_map_refused route_map_ignored ospf ospf_forms ospf_refused ospf_ignored bgp bgp_forms bgp_refused bgp_ignored words_of is_banner mask_len type_of protocol_names port_names of_access_lists refused_in_entry refused_in_list of_ospf digits
files_before = (refl, refl, refl, refl, refl, refl, refl, refl)
