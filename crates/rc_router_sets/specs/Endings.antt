-- The headers of which a walk may end at a position, ending by ending, as trees.
use Rattle.std.specs.Prelude.{Bool, true, false, not, ◌&&◌, List, [], ◌∷◌, Some, None, flat_map, if◌then◌else◌}
use Rattle.rc_base.specs.declared.ending.Kind.{Kind}
use Rattle.rc_base.specs.declared.ending.Kind.TheVariants.{DeniedIn, Accepted, NoRoute, NullRouted, DeniedOut, Unreachable, Exits, Delivered}
use Rattle.rc_base.specs.declared.position.IfId.{IfId}
use Rattle.rc_base.specs.declared.position.Pos.{Pos}
use Rattle.rc_route.specs.declared.route.Hop.{Hop}
use Rattle.rc_route.specs.declared.route.Hop.TheVariants.{Null, Dev, Via}
use Rattle.rc_topology.specs.Links.{linked, port_is, takers}
use Rattle.rc_topology.specs.Ports.{is_loopback, is_serial}
use Rattle.rc_moves.specs.Moves.{DataPlane, fib_of, router_of}
use Rattle.rc_trees.specs.Trees.{always}
use Rattle.rc_trees.specs.Recipes.{Recipe, given, and, minus, without}
use Rattle.rc_sets.specs.Regions.{hop_set}
use Rattle.rc_router_sets.specs.Sent.{forwarded, hops_at, leaving, let_in, let_out, sent, to_router, to_subnets, untaken}
use Rattle.rc_router_sets.specs.Edges.{union}

abbrev pub is_none : {A : Type 0} → List A → Bool
is_none [] = true
is_none (x ∷ xs) = false

module _ (plane : DataPlane) (q : Pos) where
  -- ---- what one hop gives to an ending

  -- what its interface's outbound list denies
  abbrev pub stopped_over : Hop → IfId → List Recipe
  stopped_over x i = minus (sent plane q x) (let_out plane.network q i) ∷ []

  abbrev pub denied_out : Hop → List Recipe
  denied_out Null = []
  denied_out (Dev i) = stopped_over (Dev i) i
  denied_out (Via g None) = []
  denied_out (Via g (Some i)) = stopped_over (Via g (Some i)) i

  -- all that leaves over a loopback
  abbrev pub unreachable_over : Hop → IfId → List Recipe
  unreachable_over x i = if port_is plane.links is_loopback i then leaving plane q x i ∷ [] else []

  abbrev pub unreachable : Hop → List Recipe
  unreachable Null = []
  unreachable (Dev i) = unreachable_over (Dev i) i
  unreachable (Via g None) = []
  unreachable (Via g (Some i)) = unreachable_over (Via g (Some i)) i

  -- what leaves to a gateway that nobody takes; and what leaves to destinations that nobody owns and no subnet of the interface
  -- holds, where it is no serial line with a neighbour
  abbrev pub exits : Hop → List Recipe
  exits Null = []
  exits (Dev i) =
      if port_is plane.links is_loopback i then [] else if port_is plane.links is_serial i && not (is_none (linked plane.links i)) then [] else minus (untaken plane q i) (to_subnets plane i) ∷ []
  exits (Via g None) = []
  exits (Via g (Some i)) = if port_is plane.links is_loopback i then [] else if is_none (takers plane.links i g) then leaving plane q (Via g (Some i)) i ∷ [] else []

  -- what leaves to destinations that nobody owns in a subnet of the interface
  abbrev pub delivered : Hop → List Recipe
  delivered Null = []
  delivered (Dev i) = if port_is plane.links is_loopback i then [] else and (untaken plane q i) (to_subnets plane i) ∷ []
  delivered (Via g i) = []

  -- ---- the headers that may end so

  -- the headers that have an ending among their moves at a position, for each of the eight endings
  unfoldable pub end : Kind → Recipe
  end DeniedIn = minus (given always) (let_in plane.network q)
  end Accepted = and (let_in plane.network q) (to_router plane (router_of q))
  end NoRoute = without (hop_set (fib_of plane (router_of q))) (forwarded plane q) (hops_at plane q)
  end NullRouted = sent plane q Null
  end DeniedOut = union (flat_map denied_out (hops_at plane q))
  end Unreachable = union (flat_map unreachable (hops_at plane q))
  end Exits = union (flat_map exits (hops_at plane q))
  end Delivered = union (flat_map delivered (hops_at plane q))
