-- The rows of BGP: the command that a line of each form is, by its words. A line that fits no row is BadValue.
use Rattle.std.specs.Prelude.{ℕ, ◌==◌, Bool, true, false, List, [], ◌∷◌, Option, Some, None, Result, Ok, Err, if◌then◌else◌, codes}
use Rattle.std.specs.Option.{option_map}
use Rattle.std.specs.Str.{bytes_eq}
use Rattle.rc_config.specs.declared.bgp.BgpLine.{BgpLine}
use Rattle.rc_config.specs.declared.bgp.BgpProcess.{BgpProcess}
use Rattle.rc_config.specs.declared.bgp.NeighborSetting.{NeighborSetting}
use Rattle.rc_config.specs.declared.bgp.NeighborSetting.TheVariants.{Shutdown, NextHopSelf, DefaultOriginate}
use Rattle.rc_config.specs.declared.command.Command.{Command}
use Rattle.rc_config.specs.declared.command.Command.TheVariants as command
use Rattle.rc_config.specs.declared.context.OpenBlock.{OpenBlock}
use Rattle.rc_config.specs.declared.context.OpenBlock.TheVariants as block
use Rattle.rc_config.specs.declared.peering.Peer.{Peer}
use Rattle.rc_config.specs.declared.router_text.RouterText.{RouterText}
use Rattle.rc_openings.specs.Values.{number_within}
use Rattle.rc_openings.specs.declared.form.BgpForm.{BgpForm}
use Rattle.rc_openings.specs.declared.form.BgpForm.TheVariants as form
use Rattle.rc_openings.specs.declared.reading.LineRefusal.{LineRefusal}
use Rattle.rc_openings.specs.declared.reading.LineRefusal.TheVariants.{Unsupported, BadValue}
use Rattle.rc_gram_bgp.specs.Lines.{about, maximum_paths, maximum_paths_ibgp, network, redistribute_connected, redistribute_ospf, redistribute_static, router_id}
use Rattle.rc_gram_bgp.specs.NeighborLines.{alone, ebgp_multihop, prefix_list, remote_as, route_map, send_community, update_source, weight}
use Rattle.rc_gram_bgp.specs.Peers.{Groups, activity, inactive_by_default, peer_group, unsaid_of, whom_of}

abbrev pub Answer : Type 0
Answer = Result Command LineRefusal

-- the AS of the process that is there
abbrev pub known_as : RouterText → Option ℕ
known_as file = option_map (λ (p : BgpProcess). p.asn) file.bgp

-- the process that is there opens again, and one in a second AS isn't modelled
abbrev pub opened : Option ℕ → ℕ → Answer
opened None asn = Ok (command.BgpOpened asn)
opened (Some known) asn = if known == asn then Ok (command.BgpOpened asn) else Err Unsupported

abbrev pub opened_by : Option ℕ → Option ℕ → Answer
opened_by known (Some asn) = opened known asn
opened_by known None = Err BadValue

-- `router bgp N`, from 1 to 4,294,967,295, where the process that is there has this AS
abbrev pub router_bgp : Option ℕ → List (List ℕ) → Answer
router_bgp known (n ∷ []) = opened_by known (number_within 1 4294967295 n)
router_bgp known _ = Err BadValue

abbrev pub in_block : Option BgpLine → Answer
in_block (Some line) = Ok (command.BgpLine line)
in_block None = Err BadValue

-- what a line sets of the neighbour or the peer group that it is about
abbrev pub sets : Option Peer → Option NeighborSetting → Answer
sets whom setting = in_block (about whom setting)

abbrev pub is_extended : List (List ℕ) → Bool
is_extended (w ∷ []) = bytes_eq w (codes "extended")
is_extended _ = false

-- a line that has no effect, where it is about a neighbour or a peer group
abbrev pub without_effect : Option Peer → Answer
without_effect (Some whom) = Ok command.Remark
without_effect None = Err BadValue

-- `neighbor A send-community extended` has no effect, and undoes nothing
abbrev pub communities : Option Peer → List (List ℕ) → Answer
communities whom behind = if is_extended behind then without_effect whom else sets whom (send_community behind)

-- `address-family ipv4`, also with `unicast` behind it (RFC 4760)
abbrev pub ipv4_family : List (List ℕ) → Answer
ipv4_family [] = Ok command.FamilyOpened
ipv4_family _ = Err BadValue

-- `exit-address-family` ends the family that is open. With more words it ends none, and in a family whose lines are passed over it is one
-- of these.
abbrev pub family_end : OpenBlock → List (List ℕ) → Answer
family_end at [] = Ok command.FamilyClosed
family_end block.InOtherFamily _ = Ok command.Passed
family_end at _ = Err BadValue

-- what a line of a form sets of the neighbour or the peer group that it is about, by its number and the words behind the opening; one of
-- another form sets nothing
abbrev pub about_peer : Option Peer → ℕ → BgpForm → List (List ℕ) → Answer
about_peer whom number form.NeighborRemoteAs behind = sets whom (remote_as behind)
about_peer whom number form.NeighborUpdateSource behind = sets whom (update_source behind)
about_peer whom number form.NeighborEbgpMultihop behind = sets whom (ebgp_multihop behind)
about_peer whom number form.NeighborNextHopSelf behind = sets whom (alone NextHopSelf behind)
about_peer whom number form.NeighborShutdown behind = sets whom (alone Shutdown behind)
about_peer whom number form.NeighborDefaultOriginate behind = sets whom (alone DefaultOriginate behind)
about_peer whom number form.NeighborSendCommunity behind = communities whom behind
about_peer whom number form.NeighborRouteMap behind = sets whom (route_map number behind)
about_peer whom number form.NeighborPrefixList behind = sets whom (prefix_list number behind)
about_peer whom number form.NeighborWeight behind = sets whom (weight behind)
about_peer whom number _ behind = Err BadValue

-- What a line of a form says in a block, where the process that is there has this AS and these peer groups are declared, by its number
-- and all its words, and by those behind the opening.
abbrev pub row : OpenBlock → Option ℕ → Groups → ℕ → List (List ℕ) → BgpForm → List (List ℕ) → Answer
row at known groups number line form.RouterBgp behind = router_bgp known behind
row at known groups number line form.RouterId behind = in_block (router_id behind)
row at known groups number line form.MaximumPaths behind = in_block (maximum_paths behind)
row at known groups number line form.MaximumPathsIbgp behind = in_block (maximum_paths_ibgp behind)
row at known groups number line form.Network behind = in_block (network behind)
row at known groups number line form.NeighborActivate behind = in_block (activity true (whom_of groups line) behind)
row at known groups number line form.NoNeighborActivate behind = in_block (activity false (unsaid_of groups line) behind)
row at known groups number line form.NeighborPeerGroup behind = in_block (peer_group groups line behind)
row at known groups number line form.NoDefaultIpv4Unicast behind = in_block (inactive_by_default behind)
row at known groups number line form.RedistributeConnected behind = in_block (redistribute_connected number behind)
row at known groups number line form.RedistributeStatic behind = in_block (redistribute_static number behind)
row at known groups number line form.RedistributeOspf behind = in_block (redistribute_ospf number behind)
row at known groups number line form.AddressFamilyIpv4 behind = ipv4_family behind
row at known groups number line form.AddressFamilyIpv6 behind = Ok command.OtherFamilyOpened
row at known groups number line form.ExitAddressFamily behind = family_end at behind
row at known groups number line f behind = about_peer (whom_of groups line) number f behind
