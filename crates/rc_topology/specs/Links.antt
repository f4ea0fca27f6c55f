-- Links between interfaces, and the takers of an address on a link.
use Rattle.std.specs.Prelude.{ℕ, ◌==◌, Bool, false, not, ◌&&◌, ◌||◌, List, [], map, filter, length, Option, slice_get}
use Rattle.std.specs.List.{list_any, flat_map, range_with_len}
use Rattle.std.specs.Option.{option_map_or, option_and_then}
use Rattle.rc_base.specs.declared.position.IfId.{IfId}
use Rattle.rc_base.specs.Positions.{same_interface}
use Rattle.rc_base.specs.Prefix.{Cidr}
use Rattle.rc_config.specs.declared.network.Pair.{Pair}
use Rattle.rc_config.specs.declared.if_type.IfType.{IfType}
use Rattle.rc_topology.specs.Order.{is_before}
use Rattle.rc_topology.specs.Ports as port
use Rattle.rc_topology.specs.Topology.{Topology}
use Rattle.rc_topology.specs.declared.port.Port.{Port}

-- a pair is of these two interfaces
abbrev pub is_between : IfId → IfId → Pair → Bool
is_between i j c = (same_interface i c.first && same_interface j c.second) || (same_interface i c.second && same_interface j c.first)

-- it is of the interface and another one
abbrev pub is_named : IfId → Pair → Bool
is_named i c = same_interface i c.first || same_interface i c.second

module _ (links : Topology) where
  -- what is kept of the interfaces of a router
  abbrev pub ports_at : ℕ → List Port
  ports_at r = option_map_or (λ ports. ports) (slice_get links.ports r) []

  -- what is kept of an interface, none where there is no such one
  abbrev pub port_at : IfId → Option Port
  port_at i = slice_get (ports_at i.router) i.index

  -- whether an interface is there and passes a test
  abbrev pub port_is : (Port → Bool) → IfId → Bool
  port_is test i = option_map_or test (port_at i) false

  abbrev pub ids_of : ℕ → List IfId
  ids_of r = map (λ n. record { router = r; index = n }) (range_with_len 0 (length (ports_at r)))

  -- all interfaces, in position order: by router, then as declared
  abbrev pub all_ids : List IfId
  all_ids = flat_map ids_of (range_with_len 0 (length links.ports))

  -- two interfaces of different routers, neither a loopback, some address of each has the same prefix
  abbrev pub share_subnet : IfId → IfId → Bool
  share_subnet i j = not (i.router == j.router) && option_map_or (λ p. port_is (port.share_prefix p) j) (port_at i) false

  -- the network is cut between two interfaces, in whichever order the cut names them
  abbrev pub is_cut : IfId → IfId → Bool
  is_cut i j = list_any (is_between i j) links.cuts

  -- two interfaces share a link: they share a subnet, and the network isn't cut between them
  abbrev pub are_linked : IfId → IfId → Bool
  are_linked i j = share_subnet i j && not (is_cut i j)

  -- the interfaces that share a link with one, in position order
  abbrev pub linked : IfId → List IfId
  linked i = filter (are_linked i) all_ids

  -- the pairs of an interface with those behind it in position order that share a link with it
  abbrev pub pairs_from : IfId → List Pair
  pairs_from i = map (λ j. record { first = i; second = j }) (filter (is_before i) (linked i))

  -- all pairs of interfaces that share a link, each once: the one that stands first comes first, and pairs are in that order
  abbrev pub pairs : List Pair
  pairs = flat_map pairs_from all_ids

  -- the takers of an address on a link of an interface, in position order: those that share a link with it and have the address
  abbrev pub takers : IfId → ℕ → List IfId
  takers i a = filter (port_is (port.owns a)) (linked i)

  -- the interfaces that have a prefix and aren't loopbacks, in position order
  abbrev pub on_prefix : Cidr → List IfId
  on_prefix x = filter (port_is (port.is_on x)) all_ids

  -- the interfaces that have an address, in position order
  abbrev pub owners : ℕ → List IfId
  owners a = filter (port_is (port.owns a)) all_ids

  -- the prefixes by which an interface shares links
  abbrev pub link_prefixes_at : IfId → List Cidr
  link_prefixes_at i = option_map_or port.link_prefixes (port_at i) []

  -- whether an address is one of the router's own
  abbrev pub is_own : ℕ → ℕ → Bool
  is_own r a = list_any (port.owns a) (ports_at r)

  -- whether an address lies in a prefix of an interface
  abbrev pub holds : IfId → ℕ → Bool
  holds i a = port_is (port.holds a) i

  -- the type of an interface, where it is one of those that have addresses
  abbrev pub kind_of : IfId → Option IfType
  kind_of i = option_and_then (λ (p : Port). p.kind) (port_at i)
