-- The headers that a router takes in at a position, and those that it sends over a hop, as trees.
use Rattle.std.specs.Prelude.{ℕ, List, [], map, flat_map}
use Rattle.std.specs.Option.{option_map_or}
use Rattle.rc_base.specs.Prefix.{Cidr}
use Rattle.rc_base.specs.declared.position.IfId.{IfId}
use Rattle.rc_base.specs.declared.position.Pos.{Pos}
use Rattle.rc_base.specs.declared.position.Pos.TheVariants.{Own, Entering}
use Rattle.rc_config.specs.Interface.{group_of}
use Rattle.rc_config.specs.Members.{interface_at}
use Rattle.rc_config.specs.declared.interface.Direction.{Direction}
use Rattle.rc_config.specs.declared.interface.Direction.TheVariants.{In, Out}
use Rattle.rc_config.specs.declared.network.Network.{Network}
use Rattle.rc_filter.specs.Groups.{access_lists_of}
use Rattle.rc_route.specs.declared.route.Hop.{Hop}
use Rattle.rc_route.specs.declared.route.Hop.TheVariants.{Dev}
use Rattle.rc_topology.specs.Links.{linked, port_at, ports_at}
use Rattle.rc_topology.specs.declared.port.Port.{Port}
use Rattle.rc_topology.specs.declared.port.PortAddr.{PortAddr}
use Rattle.rc_moves.specs.Moves.{DataPlane, fib_of, router_of}
use Rattle.rc_trees.specs.Trees.{always}
use Rattle.rc_trees.specs.Recipes.{Recipe, given, and, minus, union_of}
use Rattle.rc_trees.specs.Fields.{chain, host}
use Rattle.rc_sets.specs.AccessLists.{passing_set}
use Rattle.rc_sets.specs.Regions.{hop_set, hops_in}

-- ---- access groups

-- what an interface lets pass in a direction; one that isn't there lets everything pass
abbrev pub passing_at : Network → Direction → IfId → Recipe
passing_at net direction i = option_map_or (λ e. passing_set (access_lists_of net i.router) (group_of e.1 direction)) (interface_at net i) (given always)

-- what the router at a position takes in
unfoldable pub let_in : Network → Pos → Recipe
let_in net (Own r) = given always
let_in net (Entering i) = passing_at net In i

-- and lets out by an interface
unfoldable pub let_out : Network → Pos → IfId → Recipe
let_out net (Own r) i = given always
let_out net (Entering j) i = passing_at net Out i

-- ---- destinations

-- the own addresses of an interface, the primary one first, then the others as written
abbrev pub addresses_of : Port → List ℕ
addresses_of p = map (λ (a : PortAddr). a.addr) p.addresses

-- and the prefixes of these, in their order
abbrev pub prefixes_by_address : Port → List Cidr
prefixes_by_address p = map (λ (a : PortAddr). a.prefix) p.addresses

abbrev pub addresses_at : DataPlane → IfId → List ℕ
addresses_at plane i = option_map_or addresses_of (port_at plane.links i) []

abbrev pub prefixes_at : DataPlane → IfId → List Cidr
prefixes_at plane i = option_map_or prefixes_by_address (port_at plane.links i) []

module _ (plane : DataPlane) where
  -- the headers to an own address of a router, to an own address of an interface, to an address in a prefix of an interface
  unfoldable pub to_router : ℕ → Recipe
  to_router r = union_of host (flat_map addresses_of (ports_at plane.links r))

  unfoldable pub to_interface : IfId → Recipe
  to_interface i = union_of host (addresses_at plane i)

  unfoldable pub to_subnets : IfId → Recipe
  to_subnets i = union_of chain (prefixes_at plane i)

  -- those that some interface on a link of this one takes
  unfoldable pub taken : IfId → Recipe
  taken i = union_of to_interface (linked plane.links i)

  module _ (q : Pos) where
    -- the hops of the router
    abbrev pub hops_at : List Hop
    hops_at = hops_in (fib_of plane (router_of q))

    -- what the router takes in and does not keep
    unfoldable pub forwarded : Recipe
    forwarded = minus (let_in plane.network q) (to_router (router_of q))

    -- of these what its table sends over a hop
    unfoldable pub sent : Hop → Recipe
    sent x = and forwarded (hop_set (fib_of plane (router_of q)) x)

    -- and what leaves over the hop, which is on an interface
    unfoldable pub leaving : Hop → IfId → Recipe
    leaving x i = and (sent x) (let_out plane.network q i)

    -- what leaves over an interface to the destination itself, where nobody on its links takes it
    unfoldable pub untaken : IfId → Recipe
    untaken i = minus (leaving (Dev i) i) (taken i)
