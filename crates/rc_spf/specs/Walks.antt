-- Shortest paths in a graph (RFC 2328, 16.1).
use Rattle.std.specs.Prelude.{◌≡◌, ℕ, ◌+◌, ◌≤◌, List, [], ◌∷◌, Contains}
use Rattle.rc_spf.specs.declared.graph.Edge.{Edge}

-- the edges lead from node a to node b
abbrev pub IsWalk : List Edge → ℕ → List Edge → ℕ → Type 0
IsWalk edges a [] b = a ≡ b
IsWalk edges a (e ∷ walk) b = Contains edges e × (e.from ≡ a) × IsWalk edges e.to walk b

abbrev pub walk_cost : List Edge → ℕ
walk_cost [] = 0
walk_cost (e ∷ walk) = e.cost + walk_cost walk

-- a walk from a to b, and none costs less
pub record IsLeastWalk (edges : List Edge) (a b : ℕ) (walk : List Edge) : Type 0 where
  pub is_walk : IsWalk edges a walk b
  pub least : (other : List Edge) → IsWalk edges a other b → walk_cost walk ≤ walk_cost other

-- the cost of a least walk
abbrev pub IsLeastCost : List Edge → ℕ → ℕ → ℕ → Type 0
IsLeastCost edges a b cost = (walk : List Edge) × IsLeastWalk edges a b walk × (walk_cost walk ≡ cost)
