-- What the parts of the search promise.
use Rattle.std.specs.Prelude.{◌≡◌, ℕ, zero, suc, ◌+◌, ◌^◌, ◌≤◌, ◌<◌, ◌⊎◌, ◌↔◌, Bool, true, false, List, Option, Some, None, Contains, length, Vec, replicate, slice_set, MatchOption}
use Rattle.std.specs.declared.alloc.Global.{Global}
use Rattle.std.specs.List.{slice_index_or}
use Rattle.rc_spf.specs.declared.graph.Edge.{Edge}
use Rattle.rc_spf.specs.declared.graph.Graph.{Graph}
use Rattle.rc_spf.specs.declared.graph.Groups.{Groups}
use Rattle.rc_spf.specs.Walks.{IsWalk, IsLeastCost}

-- the cost that a node has so far
abbrev pub HasCost : List (Option ℕ) → ℕ → ℕ → Type 0
HasCost costs n c = slice_index_or costs n None ≡ Some c

-- of the first n nodes that are not settled this one has the least cost
pub record IsNearest (costs : List (Option ℕ)) (settled : List Bool) (n node cost : ℕ) : Type 0 where
  pub in_range : node < n
  pub is_open : slice_index_or settled node true ≡ false
  pub has_cost : HasCost costs node cost
  pub least : (k y : ℕ) → k < n → slice_index_or settled k true ≡ false → HasCost costs k y → cost ≤ y

-- of the first n nodes those that are not settled have no cost
abbrev pub NoneNearest : List (Option ℕ) → List Bool → ℕ → Type 0
NoneNearest costs settled n = (k : ℕ) → k < n → slice_index_or settled k true ≡ false → slice_index_or costs k None ≡ None

-- the costs after one of them was lowered to a sum, if that is less
pub record IsImproved (at sum : ℕ) (old new : List (Option ℕ)) : Type 0 where
  pub reached : (y : ℕ) × HasCost new at y × (y ≤ sum)
  pub changed : (k : ℕ) → (slice_index_or new k None ≡ slice_index_or old k None)
      ⊎ ((k ≡ at) × HasCost new k sum × ((y : ℕ) → HasCost old k y → sum < y))

-- the costs after the edges out of a node of that cost were followed
pub record IsRelaxed (edges : List Edge) (node cost : ℕ) (old new : List (Option ℕ)) : Type 0 where
  pub reached : (e : Edge) → Contains edges e → e.from ≡ node → (y : ℕ) × HasCost new e.to y × (y ≤ cost + e.cost)
  pub changed : (k : ℕ) → (slice_index_or new k None ≡ slice_index_or old k None)
      ⊎ ((e : Edge) × Contains edges e × (e.from ≡ node) × (e.to ≡ k) × HasCost new k (cost + e.cost)
      × ((y : ℕ) → HasCost old k y → cost + e.cost < y))

-- at the place of each node are the edges that leave it
pub record IsGrouped (groups : List (Vec Edge Global)) (edges : List Edge) (nodes : ℕ) : Type 0 where
  pub len : length groups ≡ nodes
  pub members : (n : ℕ) (d : Vec Edge Global) (e : Edge) → n < nodes →
      Contains (slice_index_or groups n d).items e ↔ (Contains edges e × (e.from ≡ n))

-- the edges of the graph by the node that they leave
abbrev pub AreGroups : Graph → Groups → Type 0
AreGroups graph groups = IsGrouped groups.outgoing.items graph.edges.items graph.nodes

-- no edge into a node costs more than this
abbrev pub AreDearest : List Edge → (ℕ → ℕ) → Type 0
AreDearest edges dear = (e : Edge) → Contains edges e → e.cost ≤ dear e.to

-- what it costs to enter each of n nodes from the node k on once, by its dearest edge
abbrev pub cost_to_enter : (ℕ → ℕ) → ℕ → ℕ → ℕ
cost_to_enter dear k zero = 0
cost_to_enter dear k (suc n) = dear k + cost_to_enter dear (suc k) n

-- to enter each node once and to follow one edge more costs less than 2^32, by some costs that no edge into a node exceeds
pub record HasShortWalks (graph : Graph) : Type 0 where
  pub dear : ℕ → ℕ
  pub dearest : AreDearest graph.edges.items dear
  pub sum : (e : Edge) → Contains graph.edges.items e → cost_to_enter dear 0 graph.nodes + e.cost < 2 ^ 32

-- no cost is more than what entering each node once costs, by any costs that no edge into a node exceeds
pub record AreBounded (costs : List (Option ℕ)) (graph : Graph) : Type 0 where
  pub bound : (dear : ℕ → ℕ) → AreDearest graph.edges.items dear → (n c : ℕ) → HasCost costs n c → c ≤ cost_to_enter dear 0 graph.nodes

-- before the search the root alone is reached
abbrev pub IsStart : ℕ → ℕ → List (Option ℕ) → Type 0
IsStart nodes root costs = costs ≡ slice_set (replicate nodes None) root (Some 0)

-- by node the cost of a least walk to it, and none where no walk leads there
abbrev pub AreLeastCosts : Graph → ℕ → List (Option ℕ) → Type 0
AreLeastCosts graph root costs = (n : ℕ) → MatchOption (slice_index_or costs n None)
    ((walk : List Edge) → IsWalk graph.edges.items root walk n → ⊥) (λ c. IsLeastCost graph.edges.items root n c)

-- the costs of the least walks from a root, one of each node
pub record AreCostsFrom (graph : Graph) (root : ℕ) (costs : List (Option ℕ)) : Type 0 where
  pub nodes : length costs ≡ graph.nodes
  pub cost : AreLeastCosts graph root costs
  pub small : AreBounded costs graph
