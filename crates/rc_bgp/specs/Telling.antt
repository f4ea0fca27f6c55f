-- What routers tell their internal peers, listed once for all who hear it.
use Rattle.std.specs.Prelude.{◌≡◌, ℕ, Bool, not, if◌then◌else◌, List, length, map, Option, Some, None, IfSome, slice_get, unwrap_or}
use Rattle.std.specs.List.{filter, list_any, range_with_len}
use Rattle.rc_bgp_decide.specs.Decision.{is_internal}
use Rattle.rc_route.specs.declared.best.Best.{Best}
use Rattle.rc_route.specs.declared.state.RouterState.{RouterState}
use Rattle.rc_bgp.specs.RouterStates.{paths_of}
use Rattle.rc_bgp.specs.Sessions.{sessions_of}
use Rattle.rc_bgp_session.specs.declared.session.Session.{Session}

-- of its best paths a router tells an internal peer none that an internal peer told it (RFC 4271 s.9.2.1)
abbrev pub may_tell : List Best → List Best
may_tell paths = filter (λ (b : Best). not (is_internal b.path.source)) paths

-- a session stays inside of an AS
abbrev pub is_inside : Session → Bool
is_inside s = not s.is_external

-- some session to a router is internal
abbrev pub has_internal : List (List Session) → ℕ → Bool
has_internal sessions r = list_any is_inside (sessions_of sessions r)

-- what is listed of a router: what it may tell internal peers, where it has any
abbrev pub listed_of : List (List Session) → List RouterState → ℕ → Option (List Best)
listed_of sessions old r = if has_internal sessions r then Some (may_tell (paths_of old r)) else None

-- what is listed of each router, in order
abbrev pub told_inside : List (List Session) → List RouterState → List (Option (List Best))
told_inside sessions old = map (listed_of sessions old) (range_with_len 0 (length sessions))

-- what is listed of the sender of a session, if it is internal and something is
abbrev pub listed_for : List (Option (List Best)) → Session → Option (List Best)
listed_for all s = if s.is_external then None else unwrap_or (slice_get all s.sender) None

-- the best paths of its sender that are gone through for a session: what is listed, where that is, and else all
abbrev pub offered : List (Option (List Best)) → List RouterState → Session → List Best
offered all old s = unwrap_or (listed_for all s) (paths_of old s.sender)

-- where something is listed of a router, it is what that may tell
pub record AreListed (all : List (Option (List Best))) (old : List RouterState) : Type 0 where
  pub each : (r : ℕ) → IfSome (slice_get all r) (λ listed. IfSome listed (λ paths. paths ≡ may_tell (paths_of old r)))
