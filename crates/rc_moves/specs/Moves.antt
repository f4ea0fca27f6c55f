-- The moves of a packet at a position (RFC 1812 s.5.2).
use Rattle.std.specs.Prelude.{◌≡◌, ◌+◌, ℕ, Bool, true, List, [], ◌∷◌, length, map, All, Option, Some, None, unwrap_or, is_some, if◌then◌else◌, slice_get, flat_map}
use Rattle.std.specs.List.{fold}
use Rattle.rc_base.specs.declared.header.Header.{Header}
use Rattle.rc_base.specs.declared.position.IfId.{IfId}
use Rattle.rc_base.specs.declared.position.Pos.{Pos}
use Rattle.rc_base.specs.declared.position.Pos.TheVariants.{Own, Entering}
use Rattle.rc_base.specs.declared.ending.Kind.TheVariants.{DeniedIn, Accepted, NoRoute, NullRouted, DeniedOut, Unreachable, Exits, Delivered}
use Rattle.rc_config.specs.declared.interface.Direction.TheVariants.{In, Out}
use Rattle.rc_config.specs.declared.network.Network.{Network}
use Rattle.rc_filter.specs.Groups.{passes_at}
use Rattle.rc_topology.specs.Topology.{Topology}
use Rattle.rc_topology.specs.Ports.{links_of, is_loopback, is_serial}
use Rattle.rc_topology.specs.Links.{linked, takers, is_own, holds, port_is}
use Rattle.rc_route.specs.declared.route.Hop.{Hop}
use Rattle.rc_route.specs.declared.route.Hop.TheVariants.{Null, Dev, Via}
use Rattle.rc_route.specs.declared.state.RouterState.{RouterState}
use Rattle.rc_fib.specs.Entry.{Entry}
use Rattle.rc_fib.specs.Entries.{IsFib}
use Rattle.rc_fib.specs.Forwarding.{is_resolved, resolved, resolved_hops}
use Rattle.rc_moves.specs.declared.walk.Move.{Move}
use Rattle.rc_moves.specs.declared.walk.Move.TheVariants.{Next, End}

-- what forwards packets: the network, its links, and each router's table with its hops resolved
pub record DataPlane : Type 0 where
  pub network : Network
  pub links : Topology
  pub fibs : List (List Entry)

-- a network with its links and with these tables
abbrev pub plane_with : Network → List (List Entry) → DataPlane
plane_with net fibs = record { network = net; links = links_of net; fibs = fibs }

-- each router's table in a state, with its hops resolved
abbrev pub tables_of : List RouterState → List (List Entry)
tables_of = map (λ (s : RouterState). resolved s.table)

-- how many routes such tables have in all
abbrev pub route_count : List (List Entry) → ℕ
route_count tables = fold (λ n (t : List Entry). n + length t) 0 tables

-- what forwards packets, of a network in a state
abbrev pub plane_of : Network → List RouterState → DataPlane
plane_of net state = plane_with net (tables_of state)

-- each hop of each table says where a packet goes: nowhere, or over an interface
abbrev pub HasResolvedHops : List (List Entry) → Type 0
HasResolvedHops fibs = All (λ (fib : List Entry). All (λ (e : Entry). All (λ (hop : Hop). is_resolved hop ≡ true) e.hops) fib) fibs

-- each table has one entry for each prefix, in order, and each of their hops says where a packet goes
pub record ArePrepared (fibs : List (List Entry)) : Type 0 where
  pub resolved : HasResolvedHops fibs
  pub in_order : All IsFib fibs

-- the router at a position
abbrev pub router_of : Pos → ℕ
router_of (Own r) = r
router_of (Entering i) = i.router

-- the moves into the routers of these interfaces
abbrev pub moves_onto : List IfId → List Move
moves_onto interfaces = map (λ j. Next (Entering j)) interfaces

-- the moves onto these interfaces, or where there are none these other moves
abbrev pub moves_onto_or : List IfId → List Move → List Move
moves_onto_or [] others = others
moves_onto_or (i ∷ is) others = moves_onto (i ∷ is)

module _ (links : Topology) (h : Header) where
  -- out of an interface, where nobody there takes the destination and there is no gateway: it is that of a host of the subnet, or
  -- the packet leaves by the line, into every router that shares it
  abbrev pub moves_on_link : IfId → List Move
  moves_on_link i =
      if holds links i h.dst then End Delivered ∷ [] else (if port_is links is_serial i then moves_onto_or (linked links i) (End Exits ∷ []) else End Exits ∷ [])

  -- out of an interface, to a gateway or straight to the destination
  abbrev pub moves_out_of : IfId → Option ℕ → List Move
  moves_out_of i gateway =
      if port_is links is_loopback i then End Unreachable ∷ [] else moves_onto_or (takers links i (unwrap_or gateway h.dst)) (if is_some gateway then End Exits ∷ [] else moves_on_link i)

-- Access lists filter what enters a router and what it forwards (RFC 1812 s.5.3.9). What it sends by itself enters by no interface,
-- and no outbound list is asked for it.
module _ (net : Network) (h : Header) where
  -- the router at a position takes the packet in
  abbrev pub is_let_in : Pos → Bool
  is_let_in (Own r) = true
  is_let_in (Entering i) = passes_at net In h i

  -- and lets it out by an interface
  abbrev pub is_let_out : Pos → IfId → Bool
  is_let_out (Own r) i = true
  is_let_out (Entering j) i = passes_at net Out h i

-- a router's table with its hops resolved
abbrev pub fib_of : DataPlane → ℕ → List Entry
fib_of plane r = unwrap_or (slice_get plane.fibs r) []

module _ (plane : DataPlane) (h : Header) (q : Pos) where
  -- over an interface, whose outbound list is asked before all else
  abbrev pub moves_over : IfId → Option ℕ → List Move
  moves_over i gateway = if is_let_out plane.network h q i then moves_out_of plane.links h i gateway else End DeniedOut ∷ []

  -- the moves that a hop gives. A gateway without an interface says nowhere to go, and resolved hops have none.
  abbrev pub moves_by : Hop → List Move
  moves_by Null = End NullRouted ∷ []
  moves_by (Dev i) = moves_over i None
  moves_by (Via g (Some i)) = moves_over i (Some g)
  moves_by (Via g None) = []

  -- those of all hops in order, or `no-route` where there is none
  abbrev pub moves_by_hops : List Hop → List Move
  moves_by_hops [] = End NoRoute ∷ []
  moves_by_hops (x ∷ xs) = flat_map moves_by (x ∷ xs)

  -- what the router does with a packet that it has taken in: it keeps what is addressed to it, and sends all else by its table
  abbrev pub moves_inside : List Move
  moves_inside =
      if is_own plane.links (router_of q) h.dst then End Accepted ∷ [] else moves_by_hops (resolved_hops (fib_of plane (router_of q)) h.dst)

  -- the moves of a packet at a position, in order (RFC 1812 s.5.2): to further positions, or to an ending
  abbrev pub moves : List Move
  moves = if is_let_in plane.network h q then moves_inside else End DeniedIn ∷ []
