-- What a router makes of the paths that it is told over its sessions, one after another.
use Rattle.std.specs.Prelude.{◌≡◌, Bool, true, List, ◌++◌, map, Option, IfSome, option_and_then, option_map}
use Rattle.std.specs.List.{filter_map}
use Rattle.rc_base.specs.Prefix.{Cidr}
use Rattle.rc_config.specs.declared.network.Network.{Network}
use Rattle.rc_route.specs.Tables.{best_path_for}
use Rattle.rc_route.specs.declared.best.Best.{Best}
use Rattle.rc_route.specs.declared.path.BgpPath.{BgpPath}
use Rattle.rc_route.specs.declared.route.Route.{Route}
use Rattle.rc_route.specs.declared.state.RouterState.{RouterState}
use Rattle.rc_bgp.specs.Candidates.{best_with_further, heard_at, own_at, reachable}
use Rattle.rc_bgp.specs.RouterStates.{paths_of}
use Rattle.rc_bgp.specs.declared.listener.Heard.{Heard}
use Rattle.rc_bgp_session.specs.Passed.{AsksNoPrefix, passed}
use Rattle.rc_bgp_session.specs.declared.session.Session.{Session}
use Rattle.rc_config.specs.declared.bgp.MaximumPaths.{MaximumPaths}

-- who listens to a session of a network
pub record Hearer : Type 0 where
  pub net : Network
  pub session : Session

-- who tells its best paths over a session of a network
pub record Teller : Type 0 where
  pub net : Network
  pub session : Session
  pub paths : List Best

-- what the receiver of a session, with this table, hears of a path of the sender
abbrev pub heard : Network → List Route → Session → BgpPath → Option BgpPath
heard net table s x = option_and_then (reachable table) (passed net s x)

-- the tellers of some sessions, with what all routers know
abbrev pub tellers : Network → List RouterState → List Session → List Teller
tellers net old sessions = map (λ (s : Session). record { net = net; session = s; paths = paths_of old s.sender }) sessions

-- what a router with this table hears of a teller for a prefix
abbrev pub heard_from : List Route → Cidr → Teller → Option BgpPath
heard_from table p t = heard_at t.net table t.session p (best_path_for t.paths p)

-- the candidates for a prefix: what the router originates, then what it hears of each teller
abbrev pub candidates_by : List Route → List (List BgpPath) → List Teller → Cidr → List BgpPath
candidates_by table own ts p = own_at own p ++ filter_map (heard_from table p) ts

abbrev pub best_by : MaximumPaths → List Route → List (List BgpPath) → List Teller → Cidr → Option Best
best_by most table own ts p = best_with_further most (candidates_by table own ts p)

-- ---- what is kept of the path that was heard last

-- a path apart from the metric of the route to its next hop
abbrev pub without_metric : BgpPath → BgpPath
without_metric x = record x { igp_metric = 0 }

-- what was heard last over a session that asks no prefix is what was taken, but for that metric
pub record IsHeard (net : Network) (s : Session) (h : Heard) : Type 0 where
  pub any : AsksNoPrefix net s
  pub made : option_map without_metric h.made ≡ option_map without_metric (passed net s h.told)

pub record IsHearer (net : Network) (s : Session) (asks_none : Bool) (kept : Option Heard) : Type 0 where
  pub any : asks_none ≡ true → AsksNoPrefix net s
  pub last : IfSome kept (IsHeard net s)
