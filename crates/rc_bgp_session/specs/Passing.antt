-- What a session makes of a path: what its sender exports (RFC 4271 s.9.2, s.5.1) and what its receiver imports (s.9.1).
use Rattle.std.specs.Prelude.{ℕ, ◌==◌, Bool, true, not, ◌&&◌, ◌||◌, if◌then◌else◌, List, [], ◌∷◌, Option, Some, None, option_and_then, unwrap_or}
use Rattle.std.specs.List.{list_any}
use Rattle.std.specs.Option.{option_map}
use Rattle.rc_base.specs.Communities.{has_community}
use Rattle.rc_base.specs.Prefix.{Cidr, default_prefix}
use Rattle.rc_base.specs.declared.origin.Origin.TheVariants.{Igp}
use Rattle.rc_bgp_decide.specs.Decision.{is_internal, is_originated}
use Rattle.rc_config.specs.Bgp.{address_of}
use Rattle.rc_config.specs.ByNumber.{with_number}
use Rattle.rc_config.specs.Members.{router_at}
use Rattle.rc_config.specs.declared.bgp.BgpProcess.{BgpProcess}
use Rattle.rc_config.specs.declared.bgp.Neighbor.{Neighbor}
use Rattle.rc_config.specs.declared.network.Network.{Network}
use Rattle.rc_config.specs.declared.route_map.Mention.{Mention}
use Rattle.rc_config.specs.declared.router_text.RouterText.{RouterText}
use Rattle.rc_config.specs.declared.sets.MetricType.TheVariants.{Type2}
use Rattle.rc_policy.specs.Policy.{is_permitted, mapped, prefix_list_permits}
use Rattle.rc_policy.specs.declared.attrs.Attrs.{Attrs}
use Rattle.rc_route.specs.declared.path.BgpPath.{BgpPath}
use Rattle.rc_route.specs.declared.path.PathSource.{PathSource}
use Rattle.rc_route.specs.declared.path.PathSource.TheVariants.{Network as ByNetwork, External, Internal}
use Rattle.rc_bgp_session.specs.declared.session.Session.{Session}

-- ---- lists and maps

-- no list is named, or the one that is permits the prefix
abbrev pub passes_list : RouterText → Option Mention → Cidr → Bool
passes_list file None p = true
passes_list file (Some list) p = is_permitted file.lists.prefix_lists (λ l. prefix_list_permits l p) list.name

-- what a route map sees of a path: its metric is the MED, and its metric type 2, which nothing reads
abbrev pub attrs_of_path : BgpPath → Attrs
attrs_of_path x = record {
  prefix = x.prefix;
  metric = x.med;
  metric_type = Type2;
  local_preference = x.local_preference;
  weight = x.weight;
  origin = x.origin;
  as_path = x.as_path;
  communities = x.communities;
}

abbrev pub with_attrs : BgpPath → Attrs → BgpPath
with_attrs x a = record x { med = a.metric; local_preference = a.local_preference; weight = a.weight; origin = a.origin; as_path = a.as_path; communities = a.communities }

-- what the route map that is named makes of a path, if any; one that is not there rejects
abbrev pub mapped_path : RouterText → Option Mention → BgpPath → Option BgpPath
mapped_path file map x = option_map (with_attrs x) (mapped file map (attrs_of_path x))

-- ---- export

-- the well-known communities of RFC 1997
abbrev pub no_export : ℕ
no_export = 4294967041

abbrev pub no_advertise : ℕ
no_advertise = 4294967042

abbrev pub no_export_subconfed : ℕ
no_export_subconfed = 4294967043

-- a path stays: from internal to internal peer (RFC 4271 s.9.2.1), or by a well-known community (RFC 1997)
abbrev pub is_withheld : Session → BgpPath → Bool
is_withheld s x =
    (is_internal x.source && not s.is_external) || has_community x.communities no_advertise
    || (s.is_external && (has_community x.communities no_export || has_community x.communities no_export_subconfed))

-- the MED of a path that was learned doesn't go to another AS (RFC 4271 s.5.1.4)
abbrev pub med_over : Session → BgpPath → ℕ
med_over s x = if s.is_external && not (is_originated x.source) then 0 else x.med

abbrev pub with_med : Session → BgpPath → BgpPath
with_med s x = record x { med = med_over s x }

-- the next hop is the local address to another AS, with `next-hop-self` and for what the router originates (RFC 4271 s.5.1.3)
abbrev pub has_own_next_hop : Session → Neighbor → BgpPath → Bool
has_own_next_hop s n x = s.is_external || n.settings.next_hop_self || is_originated x.source

abbrev pub next_hop_over : Session → Neighbor → BgpPath → ℕ
next_hop_over s n x = if has_own_next_hop s n x then s.sender_address else x.next_hop

-- local preference doesn't go to another AS (RFC 4271 s.5.1.5)
abbrev pub local_preference_over : Session → BgpPath → ℕ
local_preference_over s x = if s.is_external then 100 else x.local_preference

-- to another AS the own AS stands in front (RFC 4271 s.5.1.2)
abbrev pub as_path_over : ℕ → Session → List ℕ → List ℕ
as_path_over asn s numbers = if s.is_external then asn ∷ numbers else numbers

-- communities go along with `send-community`
abbrev pub communities_to : Neighbor → BgpPath → List ℕ
communities_to n x = if n.settings.send_community then x.communities else []

abbrev pub as_sent : ℕ → Session → Neighbor → BgpPath → BgpPath
as_sent asn s n x = record x { next_hop = next_hop_over s n x; local_preference = local_preference_over s x; as_path = as_path_over asn s x.as_path; communities = communities_to n x }

-- the MED, the prefix list, the route map, and then what the session itself changes
abbrev pub exported : RouterText → ℕ → Neighbor → Session → BgpPath → Option BgpPath
exported file asn n s x =
    if is_withheld s x then None
    else if not (passes_list file n.settings.list_out x.prefix) then None
    else option_map (as_sent asn s n) (mapped_path file n.settings.map_out (with_med s x))

-- a router's statement about an address is asked, with its AS
abbrev pub ask : {X : Type 0} → Network → ℕ → ℕ → (RouterText → ℕ → Neighbor → Option X) → Option X
ask net r a answer = option_and_then (λ (file : RouterText). option_and_then (λ (process : BgpProcess). option_and_then (answer file process.asn) (with_number address_of a process.neighbors)) file.bgp) (router_at net r)

-- the path that the sender of a session advertises of one of its best, if any
abbrev pub export : Network → Session → BgpPath → Option BgpPath
export net s x = ask net s.sender s.receiver_address (λ file asn n. exported file asn n s x)

-- ---- the default path of `default-originate`

-- no list and no map is applied to it
abbrev pub default_path : ℕ → Session → BgpPath
default_path asn s = record {
  prefix = default_prefix;
  next_hop = s.sender_address;
  med = 0;
  local_preference = 100;
  weight = 32768;
  origin = Igp;
  as_path = as_path_over asn s [];
  communities = [];
  source = ByNetwork;
  sender = s.sender;
  sender_id = 0;
  neighbor = 0;
  igp_metric = 0;
}

-- the path of `default-originate` over a session, where its sender has that line for it
abbrev pub originated_default : Network → Session → Option BgpPath
originated_default net s = ask net s.sender s.receiver_address (λ file asn n. if n.settings.default_originate then Some (default_path asn s) else None)

-- ---- import

abbrev pub source_over : Session → PathSource
source_over s = if s.is_external then External else Internal

-- what the receiver notes of a path
abbrev pub as_received : Session → BgpPath → BgpPath
as_received s x = record x {
  source = source_over s;
  sender = s.sender;
  sender_id = s.sender_id;
  neighbor = s.sender_address;
  igp_metric = 0;
}

-- the weight that paths of a neighbour are given, 0 where no line gives one
abbrev pub weight_of : Neighbor → ℕ
weight_of n = unwrap_or n.settings.weight 0

-- an AS path that holds the own AS is a loop (RFC 4271 s.9.1.2); the weight is the neighbour's; then the prefix list and the route map
abbrev pub imported : RouterText → ℕ → Neighbor → Session → BgpPath → Option BgpPath
imported file asn n s x =
    if list_any (λ a. a == asn) x.as_path then None
    else if not (passes_list file n.settings.list_in x.prefix) then None
    else option_map (as_received s) (mapped_path file n.settings.map_in (record x { weight = weight_of n }))

-- the path as the receiver of a session takes it, if it does
abbrev pub import : Network → Session → BgpPath → Option BgpPath
import net s x = ask net s.receiver s.sender_address (λ file asn n. imported file asn n s x)
