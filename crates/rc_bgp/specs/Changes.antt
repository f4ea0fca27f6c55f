-- What changes in best paths from one state to the next.
use Rattle.std.specs.Prelude.{◌≡◌, ℕ, ◌==◌, Bool, true, false, not, ◌||◌, if◌then◌else◌, List, [], map, Option, Some, None, filter, length, option_and_then, slice_get, unwrap_or}
use Rattle.std.specs.List.{AllByRecursion, flat_map, list_any, range_with_len}
use Rattle.std.specs.Option.{option_map, option_map_or}
use Rattle.rc_base.specs.Lists.{in_order}
use Rattle.rc_base.specs.Prefix.{Cidr, prefix_cmp, same_prefix}
use Rattle.rc_bgp_decide.specs.Decision.{is_internal, is_originated}
use Rattle.rc_config.specs.Members.{router_at}
use Rattle.rc_config.specs.declared.bgp.BgpProcess.{BgpProcess}
use Rattle.rc_config.specs.declared.network.Network.{Network}
use Rattle.rc_config.specs.declared.router_text.RouterText.{RouterText}
use Rattle.rc_route.specs.Tables.{best_for}
use Rattle.rc_route.specs.declared.best.Best.{Best}
use Rattle.rc_route.specs.declared.route.Route.{Route}
use Rattle.rc_route.specs.declared.state.RouterState.{RouterState}
use Rattle.rc_bgp.specs.Candidates.{best_at}
use Rattle.rc_bgp.specs.RouterStates.{paths_of, table_of}
use Rattle.rc_bgp.specs.Updating.{updated}
use Rattle.rc_bgp.specs.AllOriginated.{own_paths}
use Rattle.rc_bgp.specs.Reaching.{metric_to}
use Rattle.rc_bgp.specs.Sessions.{is_up, sessions_of}
use Rattle.rc_bgp.specs.Telling.{has_internal, may_tell}
use Rattle.rc_bgp_session.specs.declared.session.Session.{Session}

-- the prefixes that are told of a router; none past the end
abbrev pub changes_of : List (List Cidr) → ℕ → List Cidr
changes_of all r = unwrap_or (slice_get all r) []

-- all that changes from one list of best paths to the other is told: at a prefix that isn't, both say the same
pub record CoversChange (changed : List Cidr) (old new : List Best) : Type 0 where
  pub elsewhere : (p : Cidr) → list_any (same_prefix p) changed ≡ false → best_for old p ≡ best_for new p

-- all that changes from one state to the other in the best paths of each router is told of it
pub record AreChanges (changes : List (List Cidr)) (old new : List RouterState) : Type 0 where
  pub each : (r : ℕ) → CoversChange (changes_of changes r) (paths_of old r) (paths_of new r)

-- of these prefixes all are told at which the lists say otherwise
pub record AreToldAmong (prefixes changed : List Cidr) (old new : List Best) : Type 0 where
  pub each : (p : Cidr) → list_any (same_prefix p) prefixes ≡ true → list_any (same_prefix p) changed ≡ false → best_for old p ≡ best_for new p

-- ---- what internal peers may be told

-- what an internal peer may be told of a best path: nothing where an internal peer told it (RFC 4271 s.9.2.1)
abbrev pub told_of : Option Best → Option Best
told_of best = option_and_then (λ (b : Best). if is_internal b.path.source then None else Some b) best

-- internal peers may be told something for a prefix
abbrev pub is_told : List Best → Cidr → Bool
is_told paths p = option_map_or (λ (b : Best). not (is_internal b.path.source)) (best_for paths p) false

abbrev pub is_told_by_either : List Best → List Best → Cidr → Bool
is_told_by_either old new p = is_told old p || is_told new p

-- of what internal peers may be told all that changes is told: at a prefix that isn't, both lists let the same be told
pub record CoversInside (changed : List Cidr) (old new : List Best) : Type 0 where
  pub elsewhere : (p : Cidr) → list_any (same_prefix p) changed ≡ false → told_of (best_for old p) ≡ told_of (best_for new p)

-- of each router all that changes in what internal peers may be told is told
pub record AreChangesInside (inside : List (List Cidr)) (old new : List RouterState) : Type 0 where
  pub each : (r : ℕ) → CoversInside (changes_of inside r) (paths_of old r) (paths_of new r)

-- of the prefixes that are told of a router with internal peers those for which these may be told something
abbrev pub changed_inside_at : List (List Session) → List (List Cidr) → List RouterState → List RouterState → ℕ → List Cidr
changed_inside_at sessions changes old new r =
    if has_internal sessions r then filter (is_told_by_either (paths_of old r) (paths_of new r)) (changes_of changes r) else changes_of changes r

abbrev pub changed_inside : List (List Session) → List (List Cidr) → List RouterState → List RouterState → List (List Cidr)
changed_inside sessions changes old new = map (changed_inside_at sessions changes old new) (range_with_len 0 (length changes))

-- ---- where a router's best paths change by those of its senders alone

-- what a path is told with: a next hop that is the sender's own, where the sender originates it, or one that two tables know with the same metric
abbrev pub IsToldAlike : List Route → List Route → Best → Type 0
IsToldAlike t u b = is_originated b.path.source ≡ false → metric_to t b.path.next_hop ≡ metric_to u b.path.next_hop

-- over a session that is up in both states or in neither, whose sender's address is known with the same metric; and if it is internal, so are
-- the next hops of all that may be told over it
pub record IsHeardAlike (r : ℕ) (old now : List RouterState) (s : Session) : Type 0 where
  pub up : is_up old s ≡ is_up now s
  pub metric : metric_to (table_of old r) s.sender_address ≡ metric_to (table_of now r) s.sender_address
  pub next_hops : s.is_external ≡ false → AllByRecursion (IsToldAlike (table_of old r) (table_of now r)) (may_tell (paths_of now s.sender))

-- a router originates the same in both states, and all its sessions are such
pub record ReadsAlike (net : Network) (sessions : List (List Session)) (old now : List RouterState) (r : ℕ) : Type 0 where
  pub own : own_paths net (table_of old r) r ≡ own_paths net (table_of now r) r
  pub heard : AllByRecursion (IsHeardAlike r old now) (sessions_of sessions r)

-- the prefixes that changed at the sender of a session, in what may go over it
abbrev pub changes_over : List (List Cidr) → List (List Cidr) → Session → List Cidr
changes_over changes inside s = if s.is_external then changes_of changes s.sender else changes_of inside s.sender

-- the AS of a router, if it has a process
abbrev pub asn_of : Network → ℕ → Option ℕ
asn_of net r = option_and_then (λ (file : RouterText). option_map (λ (process : BgpProcess). process.asn) file.bgp) (router_at net r)

-- an AS path begins with this AS, which told it: its routers refuse it as a loop (RFC 4271 s.9.1.2)
abbrev pub is_told_back : Option ℕ → List ℕ → Bool
is_told_back own numbers = option_map_or (λ asn. option_map_or (λ a. a == asn) (slice_get numbers 0) false) own false

-- a router of this AS may take one of the best paths of a sender for a prefix: there is one, and it isn't told back
abbrev pub may_hear : Option ℕ → List Best → Cidr → Bool
may_hear own paths p = option_map_or (λ (b : Best). not (is_told_back own b.path.as_path)) (best_for paths p) false

-- it may take one now, or may have taken one before
abbrev pub may_hear_either : Option ℕ → List Best → List Best → Cidr → Bool
may_hear_either own old new p = may_hear own new p || may_hear own old p

module _ (net : Network) (old now : List RouterState) (changes inside : List (List Cidr)) where
  -- of what changed at the sender of a session that of which the receiver may take something, before or now: most of the rest is what a neighbour
  -- tells back to the one of which it heard it
  abbrev pub news_over : Session → List Cidr
  news_over s = filter (may_hear_either (asn_of net s.receiver) (paths_of old s.sender) (paths_of now s.sender)) (changes_over changes inside s)

  -- that of some sessions, in order
  abbrev pub changed_at_senders : List Session → List Cidr
  changed_at_senders ss = in_order prefix_cmp (flat_map news_over ss)

-- nothing changed in what may go over some sessions
abbrev pub NothingChanged : List (List Cidr) → List (List Cidr) → List Session → Type 0
NothingChanged changes inside ss = AllByRecursion (λ (s : Session). changes_over changes inside s ≡ []) ss

-- the known paths of a router, with what is best now at these prefixes
abbrev pub updated_paths : Network → List (List Session) → List RouterState → ℕ → List Cidr → List Best
updated_paths net sessions now r prefixes = updated (λ (b : Best). b.path.prefix) (best_at net sessions now r) (paths_of now r) prefixes

-- these are those paths, and of those prefixes all are told at which they say other than what is known
pub record AreUpdated (net : Network) (sessions : List (List Session)) (now : List RouterState) (r : ℕ) (prefixes : List Cidr) (paths : List Best) (changed : List Cidr) : Type 0 where
  pub value : paths ≡ updated_paths net sessions now r prefixes
  pub told : AreToldAmong prefixes changed (paths_of now r) paths
