-- The headers that move from one position to another, as a tree.
use Rattle.std.specs.Prelude.{ℕ, Bool, ◌&&◌, List, [], ◌∷◌, Some, None, flat_map, if◌then◌else◌}
use Rattle.rc_base.specs.declared.position.IfId.{IfId}
use Rattle.rc_base.specs.declared.position.Pos.{Pos}
use Rattle.rc_base.specs.declared.position.Pos.TheVariants.{Own, Entering}
use Rattle.rc_route.specs.declared.route.Hop.{Hop}
use Rattle.rc_route.specs.declared.route.Hop.TheVariants.{Null, Dev, Via}
use Rattle.rc_topology.specs.Links.{are_linked, port_is}
use Rattle.rc_topology.specs.Ports.{is_loopback, is_serial, owns}
use Rattle.rc_topology.specs.Topology.{Topology}
use Rattle.rc_moves.specs.Moves.{DataPlane}
use Rattle.rc_trees.specs.Trees.{never}
use Rattle.rc_trees.specs.Recipes.{Recipe, given, and, minus, union_of}
use Rattle.rc_router_sets.specs.Sent.{hops_at, leaving, to_interface, to_subnets, untaken}

-- sets of headers, joined in their order
abbrev pub union : List Recipe → Recipe
union sets = union_of (λ set. set) sets

-- t takes an address on a link of i
abbrev pub takes : Topology → IfId → ℕ → IfId → Bool
takes links i a t = are_linked links i t && port_is links (owns a) t

module _ (plane : DataPlane) (q : Pos) where
  -- Out of an interface straight to the destination: what the neighbour owns. On a serial line it also gets what nobody on the line
  -- owns and no subnet of the interface holds.
  abbrev pub onto_link : IfId → IfId → List Recipe
  onto_link t i = and (leaving plane q (Dev i) i) (to_interface plane t) ∷ (if port_is plane.links is_serial i then minus (untaken plane q i) (to_subnets plane i) ∷ [] else [])

  -- what one hop gives towards the interface t of a next router: a gateway that t takes gets all that leaves over the hop
  abbrev pub towards : IfId → Hop → List Recipe
  towards t Null = []
  towards t (Dev i) = if port_is plane.links is_loopback i then [] else if are_linked plane.links i t then onto_link t i else []
  towards t (Via g None) = []
  towards t (Via g (Some i)) = if port_is plane.links is_loopback i then [] else if takes plane.links i g t then leaving plane q (Via g (Some i)) i ∷ [] else []

  -- the headers that have a position among their moves at another one, joined over the hops of its router (RFC 1812 s.5.2)
  unfoldable pub edge : Pos → Recipe
  edge (Own r) = given never
  edge (Entering t) = union (flat_map (towards t) (hops_at plane q))
