-- Lines of BGP with what they say, by computation.
use Rattle.std.specs.Prelude.{◌≡◌, refl, ℕ, Bool, true, false, List, [], Option, Some, None, Ok, Err, codes}
use Rattle.rc_base.specs.Addr.{mask_len}
use Rattle.rc_base.specs.Prefix.{prefix_at}
use Rattle.rc_openings.specs.GlobalOpenings.{global, global_forms, global_refused, global_ignored}
use Rattle.rc_openings.specs.BgpOpenings.{bgp, bgp_forms, bgp_refused, bgp_ignored}
use Rattle.rc_openings.specs.Opening.{decisive_row}
use Rattle.rc_openings.specs.Reading.{decided}
use Rattle.rc_openings.specs.Words.{words_of}
use Rattle.rc_openings.specs.declared.reading.LineRefusal.TheVariants.{Unsupported, BadValue}
use Rattle.rc_config.specs.Update.{after, empty}
use Rattle.rc_config.specs.declared.bgp.BgpLine.{BgpLine}
use Rattle.rc_config.specs.declared.bgp.BgpLine.TheVariants.{RouterId, MaximumExternalPaths, MaximumInternalPaths, Network, Setting, Active, RedistributeConnected, RedistributeStatic, RedistributeOspf}
use Rattle.rc_config.specs.declared.bgp.NeighborSetting.{NeighborSetting}
use Rattle.rc_config.specs.declared.bgp.NeighborSetting.TheVariants.{RemoteAs, UpdateSource, EbgpMultihop, Shutdown, NextHopSelf, DefaultOriginate, SendCommunity, Weight, RouteMap, PrefixList}
use Rattle.rc_config.specs.declared.bgp.BgpRedistribution.{BgpRedistribution}
use Rattle.rc_config.specs.declared.bgp.OspfKinds.{OspfKinds}
use Rattle.rc_config.specs.declared.command.Command.TheVariants as command
use Rattle.rc_config.specs.declared.context.OpenBlock.TheVariants as place
use Rattle.rc_config.specs.declared.interface.Direction.TheVariants.{In, Out}
use Rattle.rc_config.specs.declared.peering.Peer.{Peer}
use Rattle.rc_config.specs.declared.peering.Peer.TheVariants as peer
use Rattle.rc_config.specs.declared.route_map.Mention.{Mention}
use Rattle.rc_config.specs.declared.router_text.RouterText.{RouterText}
use Rattle.rc_gram_bgp.specs.Reading.{says}
use Rattle.rc_gram_bgp.specs.Redistributions.{kinds_in_front}
use Rattle.rc_gram_bgp.specs.Rows.{Answer}

-- the seventh line of a file says this where it has no indent, in a file with no process
abbrev Opens : List ℕ → Answer → Type 0
Opens text answer = says place.Global empty 7 (words_of text) ≡ answer

pub first_process :
    Opens (codes "router bgp 1") (Ok (command.BgpOpened 1))
    × Opens (codes "router bgp 4294967295") (Ok (command.BgpOpened 4294967295))
    × Opens (codes "router bgp 00065001") (Ok (command.BgpOpened 65001))
    × Opens (codes "router bgp 0") (Err BadValue)
    × Opens (codes "router bgp 4294967296") (Err BadValue)
    × Opens (codes "router bgp 1.1") (Err BadValue)
    × Opens (codes "router bgp") (Err BadValue)
    × Opens (codes "router bgp 1 vrf") (Err BadValue)
unfolding decided decisive_row global global_forms global_refused global_ignored words_of
first_process = (refl, refl, refl, refl, refl, refl, refl, refl)

-- the file of a process in AS 7
abbrev seventh : RouterText
seventh = after empty (command.BgpOpened 7)

-- the same process opens again; one in a second AS isn't modelled, and a bad value is one first
abbrev OpensAgain : List ℕ → Answer → Type 0
OpensAgain text answer = says place.Global seventh 7 (words_of text) ≡ answer

pub again :
    OpensAgain (codes "router bgp 7") (Ok (command.BgpOpened 7))
    × OpensAgain (codes "router bgp 8") (Err Unsupported)
    × OpensAgain (codes "router bgp 0") (Err BadValue)
unfolding decided decisive_row global global_forms global_refused global_ignored words_of
again = (refl, refl, refl)

-- a line in the block of the process says this
abbrev Says : List ℕ → Answer → Type 0
Says text answer = says place.Bgp seventh 7 (words_of text) ≡ answer

abbrev Is : List ℕ → BgpLine → Type 0
Is text line = Says text (Ok (command.BgpLine line))

abbrev net : ℕ → ℕ → BgpLine
net address len = Network (prefix_at address len)

pub router_ids :
    Is (codes " bgp router-id 1.1.1.1") (RouterId 0x01010101)
    × Says (codes " bgp router-id 1") (Err BadValue)
    × Says (codes " bgp router-id") (Err BadValue)
    × Says (codes " bgp router-id 1.1.1.1 2") (Err BadValue)
unfolding decided decisive_row bgp bgp_forms bgp_refused bgp_ignored words_of
router_ids = (refl, refl, refl, refl)

-- a mask is one whose ones are a front, and the host bits are cleared
pub masked :
    Is (codes " network 10.9.1.7 mask 255.255.255.0") (net 0x0a090100 24)
    × Is (codes " network 10.9.1.7 mask 255.255.255.255") (net 0x0a090107 32)
    × Is (codes " network 10.9.1.7 mask 0.0.0.0") (net 0 0)
    × Is (codes " network 224.0.0.1 mask 240.0.0.0") (net 0xe0000000 4)
    × Says (codes " network 10.9.1.0 mask 255.0.255.0") (Err BadValue)
    × Says (codes " network 10.9.1.0 mask") (Err BadValue)
    × Says (codes " network 10.9.1.0 255.255.255.0") (Err BadValue)
    × Says (codes " network 10.9.1.0 masks 255.255.255.0") (Err BadValue)
    × Says (codes " network 10.9.1.0 mask 255.255.255.0 0") (Err BadValue)
    × Says (codes " network 10.9.1.0/24") (Err BadValue)
    × Says (codes " network") (Err BadValue)
unfolding decided decisive_row bgp bgp_forms bgp_refused bgp_ignored words_of mask_len
masked = (refl, refl, refl, refl, refl, refl, refl, refl, refl, refl, refl)

-- without a mask the class of the address gives the length, and from 224.0.0.0 on there is none
pub unmasked :
    Is (codes " network 0.1.2.3") (net 0 8)
    × Is (codes " network 127.255.255.255") (net 0x7f000000 8)
    × Is (codes " network 128.0.0.1") (net 0x80000000 16)
    × Is (codes " network 191.255.255.255") (net 0xbfff0000 16)
    × Is (codes " network 192.0.0.1") (net 0xc0000000 24)
    × Is (codes " network 223.255.255.255") (net 0xdfffff00 24)
    × Says (codes " network 224.0.0.0") (Err BadValue)
    × Says (codes " network 255.255.255.255") (Err BadValue)
unfolding decided decisive_row bgp bgp_forms bgp_refused bgp_ignored words_of
unmasked = (refl, refl, refl, refl, refl, refl, refl, refl)

-- with one of the refused words a line that doesn't fit isn't modelled
pub refused_networks :
    Says (codes " network 10.0.0.0 route-map M") (Err Unsupported)
    × Says (codes " network 10.9.1.0 mask 255.255.255.0 backdoor") (Err Unsupported)
    × Says (codes " network backdoor") (Err Unsupported)
    × Says (codes " network 10.9.1.0 mask 255.255.255.0 weight 5") (Err BadValue)
unfolding decided decisive_row bgp bgp_forms bgp_refused bgp_ignored words_of mask_len
refused_networks = (refl, refl, refl, refl)

abbrev second : Peer
second = peer.Address 0x0a000002

abbrev Sets : List ℕ → NeighborSetting → Type 0
Sets text setting = Is text (Setting second setting)

pub remote_as :
    Sets (codes " neighbor 10.0.0.2 remote-as 65001") (RemoteAs 65001)
    × Sets (codes " neighbor 10.0.0.2 remote-as 0") (RemoteAs 0)
    × Sets (codes " neighbor 10.0.0.2 remote-as 4294967295") (RemoteAs 4294967295)
    × Says (codes " neighbor 10.0.0.2 remote-as 4294967296") (Err BadValue)
    × Says (codes " neighbor 10.0.0.2 remote-as") (Err BadValue)
    × Says (codes " neighbor 10.0.0.2 remote-as 1 2") (Err BadValue)
    × Says (codes " neighbor 10.0.0.2 remote-as external") (Err BadValue)
    × Says (codes " neighbor UP remote-as 65001") (Err BadValue)
    × Says (codes " neighbor 10.0.0.256 remote-as 65001") (Err BadValue)
unfolding decided decisive_row bgp bgp_forms bgp_refused bgp_ignored words_of
remote_as = (refl, refl, refl, refl, refl, refl, refl, refl, refl)

pub sources :
    Sets (codes " neighbor 10.0.0.2 update-source Loopback0") (UpdateSource (codes "Loopback0"))
    × Says (codes " neighbor 10.0.0.2 update-source 0") (Err BadValue)
    × Says (codes " neighbor 10.0.0.2 update-source") (Err BadValue)
    × Says (codes " neighbor 10.0.0.2 update-source Loopback 0") (Err BadValue)
    × Says (codes " neighbor R2 update-source Loopback0") (Err BadValue)
unfolding decided decisive_row bgp bgp_forms bgp_refused bgp_ignored words_of
sources = (refl, refl, refl, refl, refl)

-- how many hops there may be doesn't matter
pub multihop :
    Sets (codes " neighbor 10.0.0.2 ebgp-multihop") EbgpMultihop
    × Sets (codes " neighbor 10.0.0.2 ebgp-multihop 1") EbgpMultihop
    × Sets (codes " neighbor 10.0.0.2 ebgp-multihop 255") EbgpMultihop
    × Says (codes " neighbor 10.0.0.2 ebgp-multihop 0") (Err BadValue)
    × Says (codes " neighbor 10.0.0.2 ebgp-multihop 256") (Err BadValue)
    × Says (codes " neighbor 10.0.0.2 ebgp-multihop 2 2") (Err BadValue)
unfolding decided decisive_row bgp bgp_forms bgp_refused bgp_ignored words_of
multihop = (refl, refl, refl, refl, refl, refl)

-- flags of sessions; `activate` is a line of its own, and the neighbour's address has to be one
pub flags :
    Sets (codes " neighbor 10.0.0.2 shutdown") Shutdown
    × Says (codes " neighbor 10.0.0.2 shutdown now") (Err BadValue)
    × Says (codes " neighbor R2 shutdown") (Err BadValue)
    × Is (codes " neighbor 10.0.0.2 activate") (Active second true)
    × Says (codes " neighbor 10.0.0.2 activate 4") (Err BadValue)
    × Says (codes " neighbor R2 activate") (Err BadValue)
unfolding decided decisive_row bgp bgp_forms bgp_refused bgp_ignored words_of
flags = (refl, refl, refl, refl, refl, refl)

-- flags of the policy of a neighbour, and the weight of its paths
pub policies :
    Sets (codes " neighbor 10.0.0.2 next-hop-self") NextHopSelf
    × Sets (codes " neighbor 10.0.0.2 default-originate") DefaultOriginate
    × Sets (codes " neighbor 10.0.0.2 weight 0") (Weight 0)
    × Sets (codes " neighbor 10.0.0.2 weight 65535") (Weight 65535)
    × Says (codes " neighbor 10.0.0.2 weight 65536") (Err BadValue)
    × Says (codes " neighbor 10.0.0.2 weight") (Err BadValue)
    × Says (codes " neighbor R2 weight 5") (Err BadValue)
    × Says (codes " neighbor 10.0.0.2 next-hop-self all") (Err BadValue)
    × Says (codes " neighbor 10.0.0.2 default-originate route-map M") (Err Unsupported)
    × Says (codes " neighbor 10.0.0.2 default-originate always") (Err BadValue)
    × Says (codes " neighbor 10.0.0.2 next-hop-self route-map") (Err BadValue)
unfolding decided decisive_row bgp bgp_forms bgp_refused bgp_ignored words_of
policies = (refl, refl, refl, refl, refl, refl, refl, refl, refl, refl, refl)

-- extended communities alone have no effect
pub communities :
    Sets (codes " neighbor 10.0.0.2 send-community") SendCommunity
    × Sets (codes " neighbor 10.0.0.2 send-community standard") SendCommunity
    × Sets (codes " neighbor 10.0.0.2 send-community both") SendCommunity
    × Says (codes " neighbor 10.0.0.2 send-community extended") (Ok command.Remark)
    × Says (codes " neighbor R2 send-community extended") (Err BadValue)
    × Says (codes " neighbor R2 send-community") (Err BadValue)
    × Says (codes " neighbor 10.0.0.2 send-community all") (Err BadValue)
    × Says (codes " neighbor 10.0.0.2 send-community standard extended") (Err BadValue)
unfolding decided decisive_row bgp bgp_forms bgp_refused bgp_ignored words_of
communities = (refl, refl, refl, refl, refl, refl, refl, refl)

abbrev named : List ℕ → Mention
named name = record { name = name; line = 7 }

-- a route map and a prefix list need not be there, and any name is one
pub maps :
    Sets (codes " neighbor 10.0.0.2 route-map M in") (RouteMap (named (codes "M")) In)
    × Sets (codes " neighbor 10.0.0.2 route-map in out") (RouteMap (named (codes "in")) Out)
    × Sets (codes " neighbor 10.0.0.2 prefix-list 5 in") (PrefixList (named (codes "5")) In)
    × Sets (codes " neighbor 10.0.0.2 prefix-list P out") (PrefixList (named (codes "P")) Out)
    × Says (codes " neighbor 10.0.0.2 route-map M") (Err BadValue)
    × Says (codes " neighbor 10.0.0.2 route-map M both") (Err BadValue)
    × Says (codes " neighbor 10.0.0.2 route-map M in out") (Err BadValue)
    × Says (codes " neighbor 10.0.0.2 prefix-list in") (Err BadValue)
    × Says (codes " neighbor 10.0.0.2 prefix-list P IN") (Err BadValue)
    × Says (codes " neighbor R2 prefix-list P in") (Err BadValue)
unfolding decided decisive_row bgp bgp_forms bgp_refused bgp_ignored words_of
maps = (refl, refl, refl, refl, refl, refl, refl, refl, refl, refl)

abbrev by : Option ℕ → Option Mention → BgpRedistribution
by metric map = record { metric = metric; route_map = map }

-- `metric` and `route-map` stand in either order, each once
pub redistributed :
    Is (codes " redistribute connected") (RedistributeConnected (by None None))
    × Is (codes " redistribute static") (RedistributeStatic (by None None))
    × Is (codes " redistribute static metric 0") (RedistributeStatic (by (Some 0) None))
    × Is (codes " redistribute static metric 4294967295") (RedistributeStatic (by (Some 4294967295) None))
    × Is (codes " redistribute connected route-map M") (RedistributeConnected (by None (Some (named (codes "M")))))
    × Is (codes " redistribute connected metric 5 route-map M") (RedistributeConnected (by (Some 5) (Some (named (codes "M")))))
    × Is (codes " redistribute connected route-map metric metric 5") (RedistributeConnected (by (Some 5) (Some (named (codes "metric")))))
    × Is (codes " redistribute static route-map tag") (RedistributeStatic (by None (Some (named (codes "tag")))))
    × Says (codes " redistribute static metric 4294967296") (Err BadValue)
    × Says (codes " redistribute static metric") (Err BadValue)
    × Says (codes " redistribute static metric 5 metric 5") (Err BadValue)
    × Says (codes " redistribute static route-map M route-map M") (Err BadValue)
    × Says (codes " redistribute static metric 5 route-map") (Err BadValue)
    × Says (codes " redistribute static metric 5 route-map M x") (Err BadValue)
    × Says (codes " redistribute static subnets") (Err BadValue)
    × Says (codes " redistribute static tag 5") (Err Unsupported)
    × Says (codes " redistribute connected metric 5 metric-type 1") (Err Unsupported)
    × Says (codes " redistribute connected nssa-only") (Err Unsupported)
unfolding decided decisive_row bgp bgp_forms bgp_refused bgp_ignored words_of
redistributed = (refl, refl, refl, refl, refl, refl, refl, refl, refl, refl, refl, refl, refl, refl, refl, refl, refl, refl)

abbrev from : ℕ → OspfKinds → BgpRedistribution → BgpLine
from process kinds r = RedistributeOspf (record { process = process; kinds = kinds; redistribution = r })

abbrev of_kinds : Bool → Bool → Bool → OspfKinds
of_kinds internal first second = record { internal = internal; external_1 = first; external_2 = second }

-- the words in front name these kinds, and these words stand behind them
abbrev Reads : List ℕ → OspfKinds → List ℕ → Type 0
Reads text named left = kinds_in_front (words_of text) ≡ (named, words_of left)

-- no word, one kind alone, several, the same again; and a number is one kind's only behind `external`, and there only the first
pub read_in_front :
    Reads [] (of_kinds false false false) []
    × Reads (codes "internal") (of_kinds true false false) []
    × Reads (codes "external") (of_kinds false true true) []
    × Reads (codes "external 1") (of_kinds false true false) []
    × Reads (codes "external 2") (of_kinds false false true) []
    × Reads (codes "internal internal") (of_kinds true false false) []
    × Reads (codes "internal external") (of_kinds true true true) []
    × Reads (codes "external internal") (of_kinds true true true) []
    × Reads (codes "external external") (of_kinds false true true) []
    × Reads (codes "external 1 external 1") (of_kinds false true false) []
    × Reads (codes "external 2 external 2") (of_kinds false false true) []
    × Reads (codes "external 1 external 2") (of_kinds false true true) []
    × Reads (codes "external 2 external 1 internal") (of_kinds true true true) []
    × Reads (codes "external 1 external") (of_kinds false true true) []
    × Reads (codes "external external 1") (of_kinds false true true) []
    × Reads (codes "external external 2") (of_kinds false true true) []
    × Reads (codes "external 1 2") (of_kinds false true false) (codes "2")
    × Reads (codes "external 2 1") (of_kinds false false true) (codes "1")
    × Reads (codes "external 1 1") (of_kinds false true false) (codes "1")
    × Reads (codes "external internal 1") (of_kinds true true true) (codes "1")
    × Reads (codes "external 3 internal") (of_kinds false true true) (codes "3 internal")
    × Reads (codes "internal 2") (of_kinds true false false) (codes "2")
    × Reads (codes "1") (of_kinds false false false) (codes "1")
    × Reads (codes "2 external") (of_kinds false false false) (codes "2 external")
    × Reads (codes "metric 5 internal") (of_kinds false false false) (codes "metric 5 internal")
unfolding words_of
read_in_front = (refl, refl, refl, refl, refl, refl, refl, refl, refl, refl, refl, refl, refl, refl, refl, refl, refl, refl, refl, refl, refl, refl, refl, refl, refl)

-- the kinds behind `match`: one or more, in any order and more than once; `external` is both types
pub kinds :
    Is (codes " redistribute ospf 1") (from 1 (of_kinds true false false) (by None None))
    × Is (codes " redistribute ospf 1 match internal") (from 1 (of_kinds true false false) (by None None))
    × Is (codes " redistribute ospf 1 match external") (from 1 (of_kinds false true true) (by None None))
    × Is (codes " redistribute ospf 1 match external 1") (from 1 (of_kinds false true false) (by None None))
    × Is (codes " redistribute ospf 1 match external 2") (from 1 (of_kinds false false true) (by None None))
    × Is (codes " redistribute ospf 1 match internal external 1 external 2") (from 1 (of_kinds true true true) (by None None))
    × Is (codes " redistribute ospf 1 match external 2 internal") (from 1 (of_kinds true false true) (by None None))
    × Is (codes " redistribute ospf 1 match external internal internal") (from 1 (of_kinds true true true) (by None None))
    × Is (codes " redistribute ospf 1 match external external 1") (from 1 (of_kinds false true true) (by None None))
    × Is (codes " redistribute ospf 1 match internal internal") (from 1 (of_kinds true false false) (by None None))
    × Is (codes " redistribute ospf 1 match external 1 external 1") (from 1 (of_kinds false true false) (by None None))
    × Is (codes " redistribute ospf 1 match external 2 external") (from 1 (of_kinds false true true) (by None None))
    × Says (codes " redistribute ospf 1 match") (Err BadValue)
    × Says (codes " redistribute ospf 1 match metric 5") (Err BadValue)
    × Says (codes " redistribute ospf 1 match 1") (Err BadValue)
    × Says (codes " redistribute ospf 1 match 2 external") (Err BadValue)
    × Says (codes " redistribute ospf 1 match internal 1") (Err BadValue)
    × Says (codes " redistribute ospf 1 match external internal 1") (Err BadValue)
    × Says (codes " redistribute ospf 1 match external 3") (Err BadValue)
    × Says (codes " redistribute ospf 1 match external 1 2") (Err BadValue)
    × Says (codes " redistribute ospf 1 match external 2 2") (Err BadValue)
    × Says (codes " redistribute ospf 1 match nssa-external") (Err BadValue)
unfolding decided decisive_row bgp bgp_forms bgp_refused bgp_ignored words_of
kinds = (refl, refl, refl, refl, refl, refl, refl, refl, refl, refl, refl, refl, refl, refl, refl, refl, refl, refl, refl, refl, refl, refl)

-- the options of `redistribute ospf` stand in one order
pub from_ospf :
    Is (codes " redistribute ospf 0 metric 5") (from 0 (of_kinds true false false) (by (Some 5) None))
    × Is (codes " redistribute ospf 4294967295 route-map M") (from 4294967295 (of_kinds true false false) (by None (Some (named (codes "M")))))
    × Is (codes " redistribute ospf 1 match external 1 metric 5 route-map M") (from 1 (of_kinds false true false) (by (Some 5) (Some (named (codes "M")))))
    × Is (codes " redistribute ospf 1 match external metric 5") (from 1 (of_kinds false true true) (by (Some 5) None))
    × Says (codes " redistribute ospf 1 route-map M metric 5") (Err BadValue)
    × Says (codes " redistribute ospf 1 metric 5 match internal") (Err BadValue)
    × Says (codes " redistribute ospf 1 match internal match external") (Err BadValue)
    × Says (codes " redistribute ospf") (Err BadValue)
    × Says (codes " redistribute ospf 4294967296") (Err BadValue)
    × Says (codes " redistribute ospf match internal") (Err BadValue)
    × Says (codes " redistribute ospf 1 subnets") (Err BadValue)
    × Says (codes " redistribute ospf 1 nssa-only") (Err Unsupported)
    × Says (codes " redistribute ospf 1 match external 1 tag 5") (Err Unsupported)
unfolding decided decisive_row bgp bgp_forms bgp_refused bgp_ignored words_of
from_ospf = (refl, refl, refl, refl, refl, refl, refl, refl, refl, refl, refl, refl, refl)

-- one number from 1 to 32, for external paths and for internal ones
pub several_paths :
    Says (codes " maximum-paths 1") (Ok (command.BgpLine (MaximumExternalPaths 1)))
    × Says (codes " maximum-paths 32") (Ok (command.BgpLine (MaximumExternalPaths 32)))
    × Says (codes " maximum-paths 0") (Err BadValue)
    × Says (codes " maximum-paths 33") (Err BadValue)
    × Says (codes " maximum-paths") (Err BadValue)
    × Says (codes " maximum-paths two") (Err BadValue)
    × Says (codes " maximum-paths 2 ibgp") (Err BadValue)
    × Says (codes " maximum-paths 2 import 2") (Err BadValue)
    × Says (codes " maximum-paths ibgp 1") (Ok (command.BgpLine (MaximumInternalPaths 1)))
    × Says (codes " maximum-paths ibgp 032") (Ok (command.BgpLine (MaximumInternalPaths 32)))
    × Says (codes " maximum-paths ibgp 0") (Err BadValue)
    × Says (codes " maximum-paths ibgp 33") (Err BadValue)
    × Says (codes " maximum-paths ibgp") (Err BadValue)
    × Says (codes " maximum-paths ibgp 2 3") (Err BadValue)
    × Says (codes " maximum-paths ibgp eibgp") (Err BadValue)
unfolding decided decisive_row bgp bgp_forms bgp_refused bgp_ignored words_of
several_paths = (refl, refl, refl, refl, refl, refl, refl, refl, refl, refl, refl, refl, refl, refl, refl)

-- lines about IPv6 neighbours are passed over, whatever stands behind their addresses
pub other_families :
    Says (codes " neighbor 2001:db8::2 remote-as 65001") (Ok command.Passed)
    × Says (codes " neighbor 2001:db8::2 shutdown now") (Ok command.Passed)
    × Says (codes " neighbor 2001:db8::2 peer-group UP") (Ok command.Passed)
    × Says (codes " neighbor x:y") (Ok command.Passed)
    × Says (codes " no neighbor 2001:db8::2 activate") (Ok command.Passed)
    × Says (codes " no neighbor x:y") (Ok command.Passed)
    × Says (codes " neighbor 10.0.0.2") (Err Unsupported)
    × Says (codes " neighbor") (Err Unsupported)
unfolding decided decisive_row bgp bgp_forms bgp_refused bgp_ignored words_of
other_families = (refl, refl, refl, refl, refl, refl, refl, refl)

-- what isn't modelled, and what doesn't matter
pub others :
    Says (codes " bgp confederation identifier 5") (Err Unsupported)
    × Says (codes " neighbor 10.0.0.2 route-reflector-client") (Err Unsupported)
    × Says (codes " no neighbor 10.0.0.2 remote-as 5") (Err Unsupported)
    × Says (codes " no neighbor UP peer-group") (Err Unsupported)
    × Says (codes " no neighbor 10.0.0.2") (Err Unsupported)
    × Says (codes " aggregate-address 10.0.0.0 255.0.0.0") (Err Unsupported)
    × Says (codes " maximum-paths eibgp 2") (Err Unsupported)
    × Says (codes " maximum-paths eibgp") (Err Unsupported)
    × Says (codes " redistribute rip") (Err Unsupported)
    × Says (codes " redistribute") (Err Unsupported)
    × Says (codes " bgp log-neighbor-changes") (Ok command.Passed)
    × Says (codes " bgp bestpath compare-routerid") (Ok command.Passed)
    × Says (codes " neighbor R2 description to R2") (Ok command.Passed)
    × Says (codes " neighbor 10.0.0.2 timers 10 30") (Ok command.Passed)
    × Says (codes " no auto-summary") (Ok command.Passed)
    × Says (codes " exit") (Ok command.Passed)
unfolding decided decisive_row bgp bgp_forms bgp_refused bgp_ignored words_of
others = (refl, refl, refl, refl, refl, refl, refl, refl, refl, refl, refl, refl, refl, refl, refl, refl)
