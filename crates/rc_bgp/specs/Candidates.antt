-- The candidates of a router for each prefix, and the best of them (RFC 4271 s.9.1).
use Rattle.std.specs.Prelude.{ℕ, if◌then◌else◌, List, ◌∷◌, ◌++◌, drop, map, Option, option_and_then}
use Rattle.std.specs.List.{filter_map, flat_map}
use Rattle.std.specs.Option.{option_map, option_or}
use Rattle.rc_base.specs.Lists.{in_order}
use Rattle.rc_base.specs.Prefix.{Cidr, prefix_cmp, same_prefix, default_prefix}
use Rattle.rc_bgp_decide.specs.Decision.{best_path}
use Rattle.rc_bgp_decide.specs.Multipath.{multi_places, next_hops_at}
use Rattle.rc_config.specs.declared.network.Network.{Network}
use Rattle.rc_config.specs.declared.bgp.MaximumPaths.{MaximumPaths}
use Rattle.rc_route.specs.Tables.{best_path_for}
use Rattle.rc_route.specs.declared.best.Best.{Best}
use Rattle.rc_route.specs.declared.path.BgpPath.{BgpPath}
use Rattle.rc_route.specs.declared.route.Route.{Route}
use Rattle.rc_route.specs.declared.state.RouterState.{RouterState}
use Rattle.rc_bgp.specs.RouterStates.{path_at, paths_of, table_of}
use Rattle.rc_bgp.specs.Maximum.{maximum_of, number_for}
use Rattle.rc_bgp.specs.AllOriginated.{own_paths}
use Rattle.rc_bgp_session.specs.Passing.{export, import, originated_default}
use Rattle.rc_bgp.specs.Reaching.{metric_to}
use Rattle.rc_bgp.specs.Sessions.{received, up_sessions}
use Rattle.rc_bgp_session.specs.declared.session.Session.{Session}

-- the prefixes of paths, those of best paths, and of these those of a session's sender
abbrev pub prefixes_of : List BgpPath → List Cidr
prefixes_of paths = map (λ (x : BgpPath). x.prefix) paths

abbrev pub best_prefixes : List Best → List Cidr
best_prefixes paths = map (λ (b : Best). b.path.prefix) paths

abbrev pub sender_prefixes : List RouterState → Session → List Cidr
sender_prefixes old s = best_prefixes (paths_of old s.sender)

-- the prefixes that may have candidates, by address, then length
abbrev pub prefixes_seen : List RouterState → List (List BgpPath) → List Session → List Cidr
prefixes_seen old own sessions = in_order prefix_cmp (default_prefix ∷ (flat_map prefixes_of own ++ flat_map (sender_prefixes old) sessions))

-- the paths that a router originates for a prefix
abbrev pub own_at : List (List BgpPath) → Cidr → List BgpPath
own_at own p = filter_map (λ paths. path_at paths p) own

-- a path is a candidate where its next hop resolves (RFC 4271 s.9.1.2), with the metric of the route to it
abbrev pub reachable : List Route → BgpPath → Option BgpPath
reachable table x = option_map (λ metric. record x { igp_metric = metric }) (metric_to table x.next_hop)

-- the next hops of those of up to so many paths that stand behind the best one
abbrev pub further : ℕ → List BgpPath → List ℕ
further n paths = next_hops_at paths (drop 1 (multi_places n paths))

-- the best of some paths, with the next hops of further ones: as many as the router may use of paths of its kind
abbrev pub with_further : MaximumPaths → List BgpPath → BgpPath → Best
with_further most paths x = record { path = x; also = further (number_for most x.source) paths }

abbrev pub best_with_further : MaximumPaths → List BgpPath → Option Best
best_with_further most paths = option_map (with_further most paths) (best_path paths)

-- what is advertised over a session for a prefix, where this is the sender's best path: the default path of `default-originate` stands in
-- place of any other for 0.0.0.0/0
abbrev pub advertised_of : Network → Session → Cidr → Option BgpPath → Option BgpPath
advertised_of net s p best =
    if same_prefix p default_prefix then option_or (originated_default net s) (option_and_then (export net s) best)
    else option_and_then (export net s) best

-- what a router with this table hears over a session for a prefix, where this is the sender's best path
abbrev pub heard_at : Network → List Route → Session → Cidr → Option BgpPath → Option BgpPath
heard_at net table s p best = option_and_then (reachable table) (option_and_then (import net s) (advertised_of net s p best))

module _ (net : Network) (old : List RouterState) where
  -- what the sender's best path of a prefix becomes on a session
  abbrev pub advertised_best : Session → Cidr → Option BgpPath
  advertised_best s p = option_and_then (export net s) (best_path_for (paths_of old s.sender) p)

  -- what is advertised for a prefix
  abbrev pub advertised : Session → Cidr → Option BgpPath
  advertised s p = advertised_of net s p (best_path_for (paths_of old s.sender) p)

  -- what a router with this table hears over a session for a prefix
  abbrev pub path_heard : List Route → Session → Cidr → Option BgpPath
  path_heard table s p = heard_at net table s p (best_path_for (paths_of old s.sender) p)

  -- the candidates for a prefix: what the router originates, then what it hears over each session
  abbrev pub candidates_at : List Route → List (List BgpPath) → List Session → Cidr → List BgpPath
  candidates_at table own sessions p = own_at own p ++ filter_map (λ s. path_heard table s p) sessions

  -- all candidates, by prefix, then sender, then the sender's address; what the router originates stands first
  abbrev pub all_candidates : List Route → List (List BgpPath) → List Session → List BgpPath
  all_candidates table own sessions = flat_map (candidates_at table own sessions) (prefixes_seen old own sessions)

  -- the best path for a prefix, with what goes with it
  abbrev pub best_among : MaximumPaths → List Route → List (List BgpPath) → List Session → Cidr → Option Best
  best_among most table own sessions p = best_with_further most (candidates_at table own sessions p)

  -- the best path of each prefix that has one, by address, then length
  abbrev pub all_best : MaximumPaths → List Route → List (List BgpPath) → List Session → List Best
  all_best most table own sessions = filter_map (best_among most table own sessions) (prefixes_seen old own sessions)

-- the candidates of a router in a state, by prefix: what it originates, then what it hears over the sessions that are up in it
unfoldable pub candidates : Network → List Session → ℕ → List RouterState → List BgpPath
candidates net sessions r old = all_candidates net old (table_of old r) (own_paths net (table_of old r) r) (received sessions r)

-- the best path of a router for a prefix, after the state, from the configured sessions
abbrev pub best_at : Network → List (List Session) → List RouterState → ℕ → Cidr → Option Best
best_at net sessions old r p = best_among net old (maximum_of net r) (table_of old r) (own_paths net (table_of old r) r) (up_sessions sessions old r) p

-- the best path of a router for each prefix that has one, after a state, from the configured sessions
unfoldable pub best_paths : Network → List (List Session) → List RouterState → ℕ → List Best
best_paths net sessions old r = all_best net old (maximum_of net r) (table_of old r) (own_paths net (table_of old r) r) (up_sessions sessions old r)
