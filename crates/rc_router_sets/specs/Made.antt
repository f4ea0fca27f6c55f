-- What is made of a router, and what a seat knows of it.
use Rattle.std.specs.Prelude.{◌≡◌, ℕ, List, [], map, Option, Some, IfSome, slice_get}
use Rattle.rc_base.specs.Prefix.{Cidr, prefix_at}
use Rattle.std.specs.Option.{option_map_or}
use Rattle.rc_base.specs.declared.position.IfId.{IfId}
use Rattle.rc_base.specs.declared.position.Pos.{Pos}
use Rattle.rc_router_sets.specs.HopParts.{part_in, parts_of}
use Rattle.rc_router_sets.specs.Sent.{forwarded, hops_at, to_router}
use Rattle.rc_router_sets.specs.Steps.{fixed}
use Rattle.rc_router_sets.specs.declared.hop_steps.Part.{Part}
use Rattle.rc_router_sets.specs.declared.router_sets.RouterSets.{RouterSets}
use Rattle.rc_nodes.specs.Seats.{TableView, SeatView, IsSeatOf, SeatKnows}
use Rattle.rc_nodes.specs.declared.words.Ref.{Ref}
use Rattle.rc_route.specs.declared.route.Hop.{Hop}
use Rattle.rc_topology.specs.Links.{port_at}
use Rattle.rc_topology.specs.declared.port.Port.{Port}
use Rattle.rc_topology.specs.declared.port.PortAddr.{PortAddr}
use Rattle.rc_trees.specs.Recipes.{Recipe, tree}
use Rattle.rc_moves.specs.Moves.{DataPlane, router_of}

-- the addresses of an interface with their prefixes
abbrev pub owned_at : DataPlane → IfId → List PortAddr
owned_at plane i = option_map_or (λ (p : Port). p.addresses) (port_at plane.links i) []

-- and of an interface, each as a prefix of its own
abbrev pub hosts_by_port : Port → List Cidr
hosts_by_port p = map (λ (a : PortAddr). prefix_at a.addr 32) p.addresses

-- a set that is made is known as that of a recipe
abbrev pub IsKnownIfMade : SeatView → Option Ref → Recipe → Type 0
IsKnownIfMade seat set r = IfSome set (λ s. SeatKnows seat s.index (tree r))

-- the seat is the table's, and knows what was made of the router at a position, and of the position, as its sets
pub record IsMade (nodes : TableView) (seat : SeatView) (plane : DataPlane) (q : Pos) (made : RouterSets) : Type 0 where
  pub table : IsSeatOf nodes seat
  pub hops : made.hops ≡ hops_at plane q
  pub parts : (k : ℕ) (x : Hop) (p : Part) → slice_get made.hops k ≡ Some x → IsKnownIfMade seat (part_in (parts_of made.parts.items k) p) (fixed plane (router_of q) p x)
  pub owned : IsKnownIfMade seat made.owned (to_router plane (router_of q))
  pub forwarded : IsKnownIfMade seat made.forwarded (forwarded plane q)
