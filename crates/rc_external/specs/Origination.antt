-- What an AS boundary router sends of its previous table (RFC 2328 s.12.4.4).
use Rattle.std.specs.Prelude.{ℕ, ◌==◌, Bool, true, false, not, ◌&&◌, ◌||◌, List, [], ◌++◌, Option, Some, None, if◌then◌else◌, option_and_then, option_map, unwrap_or, slice_get}
use Rattle.std.specs.List.{filter_map, find, flat_map}
use Rattle.std.specs.Option.{option_map_or, option_to_list}
use Rattle.rc_base.specs.Prefix.{Cidr, default_prefix, is_default}
use Rattle.rc_base.specs.declared.origin.Origin.TheVariants.{Incomplete}
use Rattle.rc_config.specs.Classes.{natural_length}
use Rattle.rc_config.specs.Members.{router_at, router_ids}
use Rattle.rc_config.specs.declared.bgp.BgpProcess.{BgpProcess}
use Rattle.rc_config.specs.declared.network.Network.{Network}
use Rattle.rc_config.specs.declared.ospf.DefaultInformation.{DefaultInformation}
use Rattle.rc_config.specs.declared.ospf.OspfProcess.{OspfProcess}
use Rattle.rc_config.specs.declared.ospf.RedistributedSource.{RedistributedSource}
use Rattle.rc_config.specs.declared.ospf.RedistributedSource.TheVariants as line
use Rattle.rc_config.specs.declared.ospf.Redistribution.{Redistribution}
use Rattle.rc_config.specs.declared.router_text.RouterText.{RouterText}
use Rattle.rc_config.specs.declared.sets.MetricType.{MetricType}
use Rattle.rc_config.specs.declared.sets.MetricType.TheVariants.{Type2}
use Rattle.rc_policy.specs.Policy.{mapped}
use Rattle.rc_policy.specs.declared.attrs.Attrs.{Attrs}
use Rattle.rc_route.specs.Tables.{best_path_for}
use Rattle.rc_route.specs.declared.best.Best.{Best}
use Rattle.rc_route.specs.declared.path.BgpPath.{BgpPath}
use Rattle.rc_route.specs.declared.route.Route.{Route}
use Rattle.rc_route.specs.declared.route.Source.{Source}
use Rattle.rc_route.specs.declared.route.Source.TheVariants.{Connected, Static, Ebgp, Ospf, OspfIa, OspfE1, OspfE2, Ibgp}
use Rattle.rc_route.specs.declared.state.RouterState.{RouterState}
use Rattle.rc_external.specs.AsExternal.{AsExternal, sent_metric}

-- a prefix has the length of its address's class; from 224.0.0.0 on there is none
abbrev pub has_natural_length : Cidr → Bool
has_natural_length p = option_map_or (λ n. n == p.len) (natural_length p.network) false

-- the router runs BGP in the AS of this number
abbrev pub is_in_as : RouterText → ℕ → Bool
is_in_as file asn = option_map_or (λ (b : BgpProcess). b.asn == asn) file.bgp false

-- A line of this source takes routes of that one. Of BGP it takes what came from another AS, where the number is that of the router's
-- own AS.
abbrev pub matches_source : RouterText → RedistributedSource → Source → Bool
matches_source file line.Connected Connected = true
matches_source file line.Static Static = true
matches_source file (line.Bgp asn) Ebgp = is_in_as file asn
matches_source file _ _ = false

-- the line that takes routes of a source
abbrev pub line_for : RouterText → OspfProcess → Source → Option Redistribution
line_for file p source = find (λ (l : Redistribution). matches_source file l.source source) p.redistributions

-- The default route never passes, and without `subnets` only prefixes of their class's length.
abbrev pub passes : Redistribution → Cidr → Bool
passes l p = not (is_default p) && (l.subnets || has_natural_length p)

-- the metric of a line, 20 where it gives none, and of routes of BGP 1
abbrev pub default_metric : RedistributedSource → ℕ
default_metric line.Connected = 20
default_metric line.Static = 20
default_metric (line.Bgp asn) = 1

abbrev pub metric_of : Redistribution → ℕ
metric_of l = unwrap_or l.metric (default_metric l.source)

abbrev pub type_of : Redistribution → MetricType
type_of l = unwrap_or l.metric_type Type2

-- the best path that a route came from, where another AS sent it
abbrev pub ebgp_path_of : Source → Cidr → List Best → Option BgpPath
ebgp_path_of Ebgp p paths = best_path_for paths p
ebgp_path_of _ p paths = None

-- What the route map of a line sees of a route: the metric and the type that it would be sent with, and the other attributes of its best
-- path, or those of what begins here.
abbrev pub attrs_with : Redistribution → Cidr → Option BgpPath → Attrs
attrs_with l p path = record {
  prefix = p;
  metric = metric_of l;
  metric_type = type_of l;
  local_preference = option_map_or (λ (b : BgpPath). b.local_preference) path 100;
  weight = option_map_or (λ (b : BgpPath). b.weight) path 32768;
  origin = option_map_or (λ (b : BgpPath). b.origin) path Incomplete;
  as_path = option_map_or (λ (b : BgpPath). b.as_path) path [];
  communities = option_map_or (λ (b : BgpPath). b.communities) path [];
}

abbrev pub attrs_of_route : List Best → Redistribution → Route → Attrs
attrs_of_route paths l x = attrs_with l x.prefix (ebgp_path_of x.source x.prefix paths)

-- what router r sends of a route with these attributes
abbrev pub external_of : ℕ → Cidr → Attrs → AsExternal
external_of r p a = record { boundary = r; prefix = p; metric = sent_metric a.metric; metric_type = a.metric_type }

abbrev pub redistributed_by : ℕ → RouterText → List Best → Route → Redistribution → Option AsExternal
redistributed_by r file paths x l = if passes l x.prefix then option_map (external_of r x.prefix) (mapped file l.route_map (attrs_of_route paths l x)) else None

-- what it sends of a route of its table, beside its best paths
abbrev pub redistributed : ℕ → RouterText → OspfProcess → List Best → Route → Option AsExternal
redistributed r file p paths x = option_and_then (redistributed_by r file paths x) (line_for file p x.source)

abbrev pub is_ospf : Source → Bool
is_ospf Ospf = true
is_ospf OspfIa = true
is_ospf OspfE1 = true
is_ospf OspfE2 = true
is_ospf Connected = false
is_ospf Static = false
is_ospf Ebgp = false
is_ospf Ibgp = false

-- the table has the default route from another source than OSPF
abbrev pub has_default : List Route → Bool
has_default table = option_map_or (λ (x : Route). not (is_ospf x.source)) (find (λ (x : Route). is_default x.prefix) table) false

abbrev pub default_external : ℕ → DefaultInformation → AsExternal
default_external r l = record { boundary = r; prefix = default_prefix; metric = sent_metric (unwrap_or l.metric 1); metric_type = unwrap_or l.metric_type Type2 }

-- the default route that it sends: where its table has one, and with `always` in any case
abbrev pub default_sent : ℕ → List Route → DefaultInformation → Option AsExternal
default_sent r table l = if l.always || has_default table then Some (default_external r l) else None

-- all that a process sends of what its router knows
abbrev pub sent_by : ℕ → RouterText → RouterState → OspfProcess → List AsExternal
sent_by r file known p = option_to_list (option_and_then (default_sent r known.table) p.default_information) ++ filter_map (redistributed r file p known.paths) known.table

-- a router without a process sends nothing
abbrev pub sent_by_file : ℕ → RouterText → RouterState → List AsExternal
sent_by_file r file known = option_map_or (sent_by r file known) file.ospf []

-- nothing is sent from a state in which nothing is known of a router
abbrev pub sent_by_router : Network → List RouterState → ℕ → List AsExternal
sent_by_router net old r = option_map_or (λ file. option_map_or (sent_by_file r file) (slice_get old r) []) (router_at net r) []

-- what all AS boundary routers of a network send from a state, in their order
abbrev pub all_sent : Network → List RouterState → List AsExternal
all_sent net old = flat_map (sent_by_router net old) (router_ids net)
