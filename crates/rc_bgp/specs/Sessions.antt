-- BGP sessions (RFC 4271 s.8.2.1): which pairs of `neighbor` statements make one, and which of them are up in a state.
use Rattle.std.specs.Prelude.{ℕ, ◌==◌, Bool, not, ◌&&◌, ◌||◌, if◌then◌else◌, List, [], map, Option, Some, None, option_and_then, slice_get, unwrap_or}
use Rattle.std.specs.List.{filter, filter_map, flat_map, list_any}
use Rattle.rc_base.specs.Prefix.{same_prefix}
use Rattle.rc_config.specs.declared.network.Network.{Network}
use Rattle.rc_route.specs.declared.state.RouterState.{RouterState}
use Rattle.rc_topology.specs.Links.{are_linked}
use Rattle.rc_topology.specs.Topology.{Topology}
use Rattle.rc_bgp.specs.RouterStates.{table_of}
use Rattle.rc_bgp.specs.Reaching.{reaches}
use Rattle.rc_bgp.specs.Speakers.{speakers, statement_about}
use Rattle.rc_bgp_session.specs.declared.session.Session.{Session}
use Rattle.rc_bgp.specs.declared.speaker.OwnAddr.{OwnAddr}
use Rattle.rc_bgp.specs.declared.speaker.Speaker.{Speaker}
use Rattle.rc_bgp.specs.declared.statement.Statement.{Statement}

-- statements of two routers, each of which names the local address and the AS of the other
abbrev pub fit : Speaker → Speaker → Statement → Statement → Bool
fit to from x y = not (to.router == from.router) && (x.neighbor == y.local) && (y.neighbor == x.local) && (x.remote_as == from.asn) && (y.remote_as == to.asn)

-- an external session off a shared subnet needs `ebgp-multihop` on both sides
abbrev pub may_be_far : Bool → Statement → Statement → Bool
may_be_far is_external x y = not is_external || (x.is_multihop && y.is_multihop)

abbrev pub session_between : Speaker → Speaker → Statement → Bool → Session
session_between to from x is_shared = record {
  sender = from.router;
  sender_address = x.neighbor;
  sender_id = from.id;
  receiver = to.router;
  receiver_address = x.local;
  is_external = not (from.asn == to.asn);
  is_shared = is_shared;
}

module _ (links : Topology) where
  -- two own addresses of two interfaces that share a link, with one prefix
  abbrev pub are_on_one_subnet : OwnAddr → OwnAddr → Bool
  are_on_one_subnet m k = same_prefix m.prefix k.prefix && are_linked links m.interface k.interface

  -- one of the others is this address, on a subnet of the own one
  abbrev pub some_shares : OwnAddr → List OwnAddr → ℕ → Bool
  some_shares m others b = list_any (λ (k : OwnAddr). (k.addr == b) && are_on_one_subnet m k) others

  -- the two addresses are on a shared subnet
  abbrev pub are_shared : List OwnAddr → ℕ → List OwnAddr → ℕ → Bool
  are_shared own a others b = list_any (λ (m : OwnAddr). (m.addr == a) && some_shares m others b) own

  abbrev pub session_on : Speaker → Speaker → Statement → Statement → Bool → Option Session
  session_on to from x y is_shared = if is_shared || may_be_far (not (from.asn == to.asn)) x y then Some (session_between to from x is_shared) else None

  -- the session of two statements, x that of the receiver
  abbrev pub session_of : Speaker → Speaker → Statement → Statement → Option Session
  session_of to from x y = if fit to from x y then session_on to from x y (are_shared to.own x.local from.own x.neighbor) else None

  module _ (net : Network) where
    -- the session from an address of the sender
    abbrev pub session_from : Speaker → Speaker → ℕ → Option Session
    session_from to from b = option_and_then (λ (x : Statement). option_and_then (session_of to from x) (statement_about net from x.local)) (statement_about net to b)

    -- all from a sender, by its addresses
    abbrev pub sessions_from : Speaker → Speaker → List Session
    sessions_from to from = filter_map (session_from to from) from.locals

    -- all to a receiver, by sender
    abbrev pub sessions_to : List Speaker → Speaker → List Session
    sessions_to all to = flat_map (sessions_from to) all

-- the sessions that the statements of a network make, for each router those to it, by sender, then the sender's address; no state changes
-- them
unfoldable pub configured_sessions : Network → Topology → List (List Session)
configured_sessions net links = map (sessions_to links net (speakers net)) (speakers net)

-- the configured sessions to a router
abbrev pub sessions_of : List (List Session) → ℕ → List Session
sessions_of all r = unwrap_or (slice_get all r) []

-- off a shared subnet each address has to resolve in the other router's table
abbrev pub is_far_up : List RouterState → Session → Bool
is_far_up old s = reaches (table_of old s.receiver) s.sender_address && reaches (table_of old s.sender) s.receiver_address

-- on one a session is always up
abbrev pub is_up : List RouterState → Session → Bool
is_up old s = s.is_shared || is_far_up old s

-- the configured sessions to a router that are up in a state
abbrev pub up_sessions : List (List Session) → List RouterState → ℕ → List Session
up_sessions all old r = filter (is_up old) (sessions_of all r)

-- the sessions that are up in a state, by receiver, then sender, then the sender's address
unfoldable pub sessions : Network → Topology → List RouterState → List Session
sessions net links old = flat_map (filter (is_up old)) (configured_sessions net links)

-- of the sessions that are up those to a router
abbrev pub received : List Session → ℕ → List Session
received up r = filter (λ (s : Session). s.receiver == r) up
