-- Walks inside an area, and the least of them (RFC 2328 s.16.1).
use Rattle.std.specs.Prelude.{◌≡◌, ℕ, ◌+◌, ◌^◌, ◌<◌, ◌≤◌, ◌↔◌, List, [], ◌∷◌, Option, Some, None, MatchOption, Contains}
use Rattle.std.specs.List.Sorted.{IsStrictlySortedBy}
use Rattle.rc_route.specs.Hops.{hop_cmp}
use Rattle.rc_route.specs.declared.route.Hop.{Hop}
use Rattle.rc_link_state.specs.declared.step.Step.{Step}
use Rattle.rc_link_state.specs.Adjacency.{hop_of}

-- the steps lead from router r to router s inside the area
abbrev pub IsWalk : List Step → ℕ → ℕ → List Step → ℕ → Type 0
IsWalk steps area r [] s = r ≡ s
IsWalk steps area r (x ∷ walk) s = Contains steps x × (x.area ≡ area) × (x.out.router ≡ r) × IsWalk steps area x.to walk s

abbrev pub walk_cost : List Step → ℕ
walk_cost [] = 0
walk_cost (x ∷ walk) = x.cost + walk_cost walk

abbrev pub first_hop : List Step → Option Hop
first_hop [] = None
first_hop (x ∷ walk) = Some (hop_of x)

-- a walk from r to s inside the area, and none costs less
pub record IsLeastWalk (steps : List Step) (area r s : ℕ) (walk : List Step) : Type 0 where
  pub is_walk : IsWalk steps area r walk s
  pub least : (other : List Step) → IsWalk steps area r other s → walk_cost walk ≤ walk_cost other

-- what is kept of the least walks to a router: their cost, and the first hops of all of them
pub record LeastWalks : Type 0 where
  pub cost : ℕ
  pub hops : List Hop

abbrev pub IsSmall : LeastWalks → Type 0
IsSmall e = e.cost < 2 ^ 26

-- the cost is that of a least walk, and the hops are in order exactly the first hops of the least walks
pub record AreLeastWalks (steps : List Step) (area r s : ℕ) (e : LeastWalks) : Type 0 where
  pub cost : (walk : List Step) × IsLeastWalk steps area r s walk × (walk_cost walk ≡ e.cost)
  pub hops : (h : Hop) → Contains e.hops h ↔ ((walk : List Step) × IsLeastWalk steps area r s walk × (first_hop walk ≡ Some h))
  pub in_order : IsStrictlySortedBy hop_cmp e.hops

-- the least walks from a router, by area and router to which they lead
abbrev pub Reach : Type 0
Reach = ℕ → ℕ → Option LeastWalks

-- inside each area they are those to each router, where there are any; to the router itself leads the walk without steps
abbrev pub IsReach : List Step → ℕ → Reach → Type 0
IsReach steps r reach = (area s : ℕ) → MatchOption (reach area s) ((walk : List Step) → IsWalk steps area r walk s → ⊥) (AreLeastWalks steps area r s)
