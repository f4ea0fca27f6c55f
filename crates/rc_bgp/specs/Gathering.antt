-- The candidates of a router, path by path as its senders tell them.
use Rattle.std.specs.Prelude.{Bool, not, ◌&&◌, ◌||◌, if◌then◌else◌, List, [], ◌∷◌, ◌++◌, Option, Some, None}
use Rattle.std.specs.List.{filter_map, flat_map, fold}
use Rattle.std.specs.Option.{option_to_list}
use Rattle.rc_base.specs.Groups.{with_thing}
use Rattle.rc_base.specs.Prefix.{Cidr, default_prefix, is_default}
use Rattle.rc_bgp_decide.specs.Decision.{is_internal}
use Rattle.rc_config.specs.declared.network.Network.{Network}
use Rattle.rc_route.specs.declared.best.Best.{Best}
use Rattle.rc_route.specs.declared.path.BgpPath.{BgpPath}
use Rattle.rc_route.specs.declared.route.Route.{Route}
use Rattle.rc_route.specs.declared.state.RouterState.{RouterState}
use Rattle.rc_bgp.specs.Candidates.{path_heard}
use Rattle.rc_bgp.specs.Listening.{heard}
use Rattle.rc_bgp.specs.RouterStates.{paths_of}
use Rattle.rc_bgp_session.specs.declared.session.Session.{Session}

abbrev pub prefix_of : BgpPath → Cidr
prefix_of x = x.prefix

-- one path more of a prefix, behind those that are known
abbrev pub with_path : Option (List BgpPath) → BgpPath → List BgpPath
with_path None x = x ∷ []
with_path (Some xs) x = xs ++ x ∷ []

-- paths by prefix, with more of them
abbrev pub with_paths : List (Cidr × List BgpPath) → List BgpPath → List (Cidr × List BgpPath)
with_paths rows xs = fold (with_thing prefix_of with_path) rows xs

-- a best path of the sender may go over a session: what an internal peer sent goes to no internal peer (RFC 4271 s.9.2.1). What goes for
-- 0.0.0.0/0 is asked by itself
abbrev pub may_go : Session → Best → Bool
may_go s b = (s.is_external || not (is_internal b.path.source)) && not (is_default b.path.prefix)

module _ (net : Network) (table : List Route) where
  -- what a router with this table hears over a session of a best path of the sender
  abbrev pub heard_of : Session → Best → Option BgpPath
  heard_of s b = heard net table s b.path

  abbrev pub told_of : Session → Best → Option BgpPath
  told_of s b = if may_go s b then heard_of s b else None

  -- all that it hears over a session: for 0.0.0.0/0, then for the other prefixes
  abbrev pub heard_over : List RouterState → Session → List BgpPath
  heard_over old s = option_to_list (path_heard net old table s default_prefix) ++ filter_map (told_of s) (paths_of old s.sender)

  -- all candidates: what it originates, then what it hears over each session
  abbrev pub gathered : List RouterState → List (List BgpPath) → List Session → List BgpPath
  gathered old own sessions = flat_map (λ paths. paths) own ++ flat_map (heard_over old) sessions
