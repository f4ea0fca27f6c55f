-- The least walks to one router, from all others: their costs, and the steps by which they begin.
use Rattle.std.specs.Prelude.{◌≡◌, ℕ, ◌+◌, List, Option, Some, MatchOption, Contains}
use Rattle.rc_route.specs.declared.route.Hop.{Hop}
use Rattle.rc_link_state.specs.Adjacency.{hop_of}
use Rattle.rc_link_state.specs.Walks.{LeastWalks, AreLeastWalks, IsWalk, IsLeastWalk, walk_cost}
use Rattle.rc_link_state.specs.declared.step.Step.{Step}

-- the cost of the least walks from r to s inside the area, or none where no walk leads there
abbrev pub IsCostFrom : List Step → ℕ → ℕ → ℕ → Option ℕ → Type 0
IsCostFrom steps area s r cost = MatchOption cost ((walk : List Step) → IsWalk steps area r walk s → ⊥)
    (λ c. (walk : List Step) × IsLeastWalk steps area r s walk × (walk_cost walk ≡ c))

-- the costs of the least walks to s inside the area, by the router from which they lead
abbrev pub AreCostsTo : List Step → ℕ → ℕ → (ℕ → Option ℕ) → Type 0
AreCostsTo steps area s costs = (r : ℕ) → IsCostFrom steps area s r (costs r)

-- a step with this hop leaves router r in the area, and so much it costs with what is left from where it arrives
pub record LeadsOn (steps : List Step) (area r : ℕ) (costs : ℕ → Option ℕ) (cost : ℕ) (h : Hop) : Type 0 where
  pub step : Step
  pub is_step : Contains steps step
  pub in_area : step.area ≡ area
  pub leaves : step.out.router ≡ r
  pub left : ℕ
  pub has_left : costs step.to ≡ Some left
  pub sum : left + step.cost ≡ cost
  pub hop : hop_of step ≡ h

-- the least walks from r to s inside the area, or none where no walk leads there
abbrev pub IsPathTo : List Step → ℕ → ℕ → ℕ → Option LeastWalks → Type 0
IsPathTo steps r area s path = MatchOption path ((walk : List Step) → IsWalk steps area r walk s → ⊥) (AreLeastWalks steps area r s)
