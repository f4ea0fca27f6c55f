-- The paths that a router originates (RFC 4271 s.9.4), from its previous table.
use Rattle.std.specs.Prelude.{ℕ, Bool, true, false, if◌then◌else◌, List, [], Option, Some, None, option_and_then}
use Rattle.std.specs.List.{filter_map}
use Rattle.std.specs.Option.{option_map}
use Rattle.rc_base.specs.Lists.{in_order}
use Rattle.rc_base.specs.Prefix.{Cidr, prefix_cmp}
use Rattle.rc_base.specs.declared.origin.Origin.{Origin}
use Rattle.rc_base.specs.declared.origin.Origin.TheVariants.{Igp}
use Rattle.rc_route.specs.declared.path.BgpPath.{BgpPath}
use Rattle.rc_route.specs.declared.path.PathSource.{PathSource}
use Rattle.rc_route.specs.declared.path.PathSource.TheVariants.{Network as ByNetwork}
use Rattle.rc_route.specs.declared.route.Route.{Route}
use Rattle.rc_route.specs.declared.route.Source.{Source}
use Rattle.rc_route.specs.declared.route.Source.TheVariants.{Ebgp, Ibgp}
use Rattle.rc_bgp.specs.RouterStates.{route_at}

-- a path as its router originates it: weight 32768, local preference 100, an empty AS path, no community
abbrev pub originated : ℕ → PathSource → Origin → ℕ → Cidr → BgpPath
originated r source origin med p = record {
  prefix = p;
  next_hop = 0;
  med = med;
  local_preference = 100;
  weight = 32768;
  origin = origin;
  as_path = [];
  communities = [];
  source = source;
  sender = r;
  sender_id = 0;
  neighbor = 0;
  igp_metric = 0;
}

abbrev pub is_bgp : Source → Bool
is_bgp Ebgp = true
is_bgp Ibgp = true
is_bgp _ = false

abbrev pub metric_unless_bgp : Route → Option ℕ
metric_unless_bgp x = if is_bgp x.source then None else Some x.metric

-- the metric of the table's route of just this prefix, where it isn't from BGP
abbrev pub metric_for : List Route → Cidr → Option ℕ
metric_for table p = option_and_then metric_unless_bgp (route_at table p)

-- a line `network` originates its prefix where the table has just that prefix, and not from BGP; the MED is the route's metric
abbrev pub by_network : ℕ → List Route → Cidr → Option BgpPath
by_network r table p = option_map (λ metric. originated r ByNetwork Igp metric p) (metric_for table p)

abbrev pub paths_for : ℕ → List Route → List Cidr → List BgpPath
paths_for r table prefixes = filter_map (by_network r table) prefixes

-- those of the lines of a process, in order of prefix, two lines of one prefix counting once
abbrev pub by_networks : ℕ → List Route → List Cidr → List BgpPath
by_networks r table networks = paths_for r table (in_order prefix_cmp networks)
