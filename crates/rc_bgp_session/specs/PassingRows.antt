-- Worked cases of export and import, each by computation.
use Rattle.std.specs.Prelude.{◌≡◌, ℕ, List, [], ◌∷◌, Option, Some, None, option_and_then, codes, refl}
use Rattle.rc_base.specs.declared.origin.Origin.TheVariants.{Egp, Incomplete}
use Rattle.rc_config.specs.Bgp.{with_own}
use Rattle.rc_config.specs.PrefixList.{no_lines as no_prefix_lines, with_line}
use Rattle.rc_config.specs.RouteMap.{fresh_entry}
use Rattle.rc_config.specs.Sets.{no_sets}
use Rattle.rc_config.specs.Update.{empty}
use Rattle.rc_config.specs.declared.access_list.Action.TheVariants.{Permit}
use Rattle.rc_config.specs.declared.bgp.Neighbor.{Neighbor}
use Rattle.rc_config.specs.declared.bgp.NeighborSetting.TheVariants.{NextHopSelf, SendCommunity, Weight, RouteMap, PrefixList}
use Rattle.rc_config.specs.declared.interface.Direction.TheVariants.{In, Out}
use Rattle.rc_config.specs.declared.route_map.Mention.{Mention}
use Rattle.rc_config.specs.declared.route_map.RouteMap.{RouteMap as Entries}
use Rattle.rc_config.specs.declared.router_text.RouterText.{RouterText}
use Rattle.rc_config.specs.declared.sets.Sets.{Sets}
use Rattle.rc_route.specs.declared.path.BgpPath.{BgpPath}
use Rattle.rc_route.specs.declared.path.PathSource.TheVariants.{Network, Static, External, Internal}
use Rattle.rc_bgp_session.specs.Nets.{ip, subnet, peer, external, internal, ninth}
use Rattle.rc_bgp_session.specs.Passing.{exported, imported, default_path, no_export, no_advertise, no_export_subconfed}
use Rattle.rc_bgp_session.specs.declared.session.Session.{Session}

-- a path learned by router 0 from 10.0.7.7, of another AS or of its own
abbrev pub learned : BgpPath
learned = record (ninth 7 External) { next_hop = ip 7 7; med = 50; local_preference = 150; weight = 9; origin = Egp; as_path = 65003 ∷ []; communities = 77 ∷ []; sender_id = 70; neighbor = ip 7 7; igp_metric = 4 }

abbrev pub from_peer : BgpPath
from_peer = record learned { source = Internal }

-- router 0, AS 65001, sends from 10.0.12.1 to 10.0.12.2 of router 1
abbrev out : Session
out = external 0 (ip 12 1) 1 (ip 12 2)

abbrev inside : Session
inside = internal 0 (ip 12 1) 1 (ip 12 2)

abbrev plain : Neighbor
plain = peer (ip 12 2) 65002

abbrev sent : Neighbor → Session → BgpPath → Option BgpPath
sent n s x = exported empty 65001 n s x

-- ---- export

-- to another AS: the own AS in front, MED 0, local preference 100, the local address as next hop, no communities
pub to_another_as : sent plain out learned ≡ Some (record learned { next_hop = ip 12 1; med = 0; local_preference = 100; as_path = 65001 ∷ 65003 ∷ []; communities = [] })
to_another_as = refl

-- to the own AS: MED, local preference, AS path and next hop stay
pub to_the_own_as : sent plain inside learned ≡ Some (record learned { communities = [] })
to_the_own_as = refl

-- what an internal peer sent goes to no internal peer, but to another AS
pub inside_no_further : sent plain inside from_peer ≡ None
inside_no_further = refl

pub inside_goes_out : sent plain out from_peer ≡ Some (record from_peer { next_hop = ip 12 1; med = 0; local_preference = 100; as_path = 65001 ∷ 65003 ∷ []; communities = [] })
inside_goes_out = refl

pub next_hop_self : sent (with_own plain NextHopSelf) inside learned ≡ Some (record learned { next_hop = ip 12 1; communities = [] })
next_hop_self = refl

-- what is originated goes with the local address and keeps its MED, also where its route has a gateway
pub originated_out : sent plain out (record (ninth 0 Static) { med = 5 }) ≡ Some (record (ninth 0 Static) { med = 5; next_hop = ip 12 1; as_path = 65001 ∷ [] })
originated_out = refl

pub originated_inside : sent plain inside (record (ninth 0 Network) { med = 5 }) ≡ Some (record (ninth 0 Network) { med = 5; next_hop = ip 12 1 })
originated_inside = refl

pub communities_sent : sent (with_own plain SendCommunity) inside learned ≡ Some learned
communities_sent = refl

-- the well-known communities, over both kinds of sessions
abbrev marked : ℕ → BgpPath
marked community = record learned { communities = community ∷ [] }

pub no_export_out : sent plain out (marked no_export) ≡ None
no_export_out = refl

pub no_export_inside : sent plain inside (marked no_export) ≡ Some (record learned { communities = [] })
no_export_inside = refl

pub no_advertise_out : sent plain out (marked no_advertise) ≡ None
no_advertise_out = refl

pub no_advertise_inside : sent plain inside (marked no_advertise) ≡ None
no_advertise_inside = refl

pub no_export_subconfed_out : sent plain out (marked no_export_subconfed) ≡ None
no_export_subconfed_out = refl

pub no_export_subconfed_inside : sent plain inside (marked no_export_subconfed) ≡ Some (record learned { communities = [] })
no_export_subconfed_inside = refl

-- ---- lists and maps

abbrev named : List ℕ → Mention
named name = record { name = name; line = 9 }

abbrev mapping : Sets → Entries
mapping sets = record { entries = record (fresh_entry 10 Permit) { sets = sets } ∷ [] }

-- the prefix list NINTH permits 10.0.9.0/24 alone, OTHER permits 10.0.8.0/24; the map ALL permits and sets, NONE has no entry
abbrev file : RouterText
file = record empty {
  lists = record empty.lists { prefix_lists = (codes "NINTH", with_line no_prefix_lines (record { sequence = 5; action = Permit; prefix = subnet 9; ge = None; le = None })) ∷ (codes "OTHER", with_line no_prefix_lines (record { sequence = 5; action = Permit; prefix = subnet 8; ge = None; le = None })) ∷ [] };
  route_maps = (codes "ALL", mapping (record no_sets { metric = Some 33; local_preference = Some 333; weight = Some 3; origin = Some Incomplete; prepended = 65001 ∷ 65001 ∷ [] })) ∷ (codes "NONE", record { entries = [] }) ∷ [];
}

pub list_permits : exported file 65001 (with_own plain (PrefixList (named (codes "NINTH")) Out)) inside learned ≡ Some (record learned { communities = [] })
list_permits = refl

pub list_denies : exported file 65001 (with_own (with_own plain (PrefixList (named (codes "OTHER")) Out)) (RouteMap (named (codes "ALL")) Out)) inside learned ≡ None
list_denies = refl

pub map_rejects : exported file 65001 (with_own (with_own plain (PrefixList (named (codes "NINTH")) Out)) (RouteMap (named (codes "NONE")) Out)) inside learned ≡ None
map_rejects = refl

-- the map comes before the own AS goes in front and the local preference is taken off
pub map_then_as : exported file 65001 (with_own plain (RouteMap (named (codes "ALL")) Out)) out learned
    ≡ Some (record learned { next_hop = ip 12 1; med = 33; local_preference = 100; weight = 3; origin = Incomplete; as_path = 65001 ∷ 65001 ∷ 65001 ∷ 65003 ∷ []; communities = [] })
map_then_as = refl

-- ---- import, by router 1 of AS 65002

abbrev taken : Neighbor → Session → BgpPath → Option BgpPath
taken n s x = imported file 65002 n s x

abbrev noted : Session → BgpPath → BgpPath
noted s x = record x { weight = 0; sender = 0; sender_id = ip 12 1; neighbor = ip 12 1; igp_metric = 0 }

pub from_another_as : taken plain out learned ≡ Some (noted out learned)
from_another_as = refl

pub from_the_own_as : taken plain inside learned ≡ Some (record (noted inside learned) { source = Internal })
from_the_own_as = refl

-- an AS path that holds the own AS, first or last
pub loop_in_front : taken plain out (record learned { as_path = 65002 ∷ 65003 ∷ [] }) ≡ None
loop_in_front = refl

pub loop_behind : taken plain out (record learned { as_path = 65003 ∷ 65002 ∷ [] }) ≡ None
loop_behind = refl

pub loop_inside : taken plain inside (record learned { as_path = 65002 ∷ [] }) ≡ None
loop_inside = refl

-- the weight is that of the neighbour, 0 where no line gives one
pub weight_of_the_neighbour : taken (with_own plain (Weight 40)) out learned ≡ Some (record (noted out learned) { weight = 40 })
weight_of_the_neighbour = refl

-- a map sets the weight after the neighbour's
pub weight_of_the_map : taken (with_own (with_own plain (Weight 40)) (RouteMap (named (codes "ALL")) In)) out learned
    ≡ Some (record (noted out learned) { weight = 3; med = 33; local_preference = 333; origin = Incomplete; as_path = 65001 ∷ 65001 ∷ 65003 ∷ [] })
weight_of_the_map = refl

pub list_in_denies : taken (with_own (with_own plain (PrefixList (named (codes "OTHER")) In)) (RouteMap (named (codes "ALL")) In)) out learned ≡ None
list_in_denies = refl

pub map_in_rejects : taken (with_own plain (RouteMap (named (codes "NONE")) In)) out learned ≡ None
map_in_rejects = refl

-- what router 0 originates, sent and taken
pub sent_and_taken : option_and_then (taken plain out) (sent plain out (ninth 0 Network)) ≡ Some (record (ninth 0 External) { next_hop = ip 12 1; weight = 0; as_path = 65001 ∷ []; sender_id = ip 12 1; neighbor = ip 12 1 })
sent_and_taken = refl

-- ---- the default path

pub default_out : (default_path 65001 out).as_path ≡ 65001 ∷ []
default_out = refl

pub default_inside : (default_path 65001 inside).as_path ≡ []
default_inside = refl
