-- When hops are the same, the order of the hops of a route, and that of sources.
use Rattle.std.specs.Prelude.{ℕ, Bool, true, false, ◌&&◌, ◌==◌, List, [], ◌∷◌, Some, None}
use Rattle.std.specs.Ordering.{nat_cmp}
use Rattle.std.specs.declared.cmp.Ordering.{Ordering}
use Rattle.std.specs.Cmp.Lexicographic.{slice_cmp}
use Rattle.rc_base.specs.Positions.{same_interface}
use Rattle.rc_route.specs.declared.route.Hop.{Hop}
use Rattle.rc_route.specs.declared.route.Hop.TheVariants.{Null, Dev, Via}
use Rattle.rc_route.specs.declared.route.Source.{Source}
use Rattle.rc_route.specs.declared.route.Source.TheVariants.{Connected, Static, Ebgp, Ospf, OspfIa, OspfE1, OspfE2, Ibgp}

-- two hops are one: one kind, and one gateway and interface
abbrev pub same_hop : Hop → Hop → Bool
same_hop Null Null = true
same_hop (Dev i) (Dev j) = same_interface i j
same_hop (Via g None) (Via h None) = g == h
same_hop (Via g (Some i)) (Via h (Some j)) = (g == h) && same_interface i j
same_hop _ _ = false

-- null, then hops without a gateway, then by gateway; at one gateway no interface first, then interfaces as declared
abbrev pub hop_key : Hop → List ℕ
hop_key Null = 0 ∷ []
hop_key (Dev i) = 1 ∷ i.router ∷ i.index ∷ []
hop_key (Via g None) = 2 ∷ g ∷ []
hop_key (Via g (Some i)) = 2 ∷ g ∷ i.router ∷ i.index ∷ []

-- the order of the hops of a route: null, then those without a gateway, then by gateway; at one gateway no interface first, then as
-- declared
abbrev pub hop_cmp : Hop → Hop → Ordering
hop_cmp x y = slice_cmp nat_cmp (hop_key x) (hop_key y)

-- which source is preferred at one distance, the least first: connected, static, ebgp, the four of OSPF, ibgp
abbrev pub source_rank : Source → ℕ
source_rank Connected = 0
source_rank Static = 1
source_rank Ebgp = 2
source_rank Ospf = 3
source_rank OspfIa = 4
source_rank OspfE1 = 5
source_rank OspfE2 = 6
source_rank Ibgp = 7
