-- The graph of an area: its nodes are the routers, and behind them the transit networks.
use Rattle.std.specs.Prelude.{◌≡◌, ℕ, ◌+◌, ◌==◌, ◌<◌, ◌≤◌, List, [], ◌∷◌, ◌++◌, map, filter, Contains, length}
use Rattle.rc_spf.specs.declared.graph.Edge.{Edge}
use Rattle.rc_spf.specs.declared.graph.Graph.{Graph}
use Rattle.rc_link_state.specs.declared.step.Step.{Step}
use Rattle.rc_link_state.specs.declared.transit.Attached.{Attached}
use Rattle.rc_link_state.specs.declared.transit.Transit.{Transit}

abbrev pub edge : ℕ → ℕ → ℕ → Edge
edge a b cost = record { from = a; to = b; cost = cost }

-- an edge turned round
abbrev pub turned : Edge → Edge
turned e = edge e.to e.from e.cost

abbrev pub plain_edge : Step → Edge
plain_edge x = edge x.out.router x.to x.cost

-- into a network at the cost of the interface, and out of it at none
abbrev pub edge_into : ℕ → Attached → Edge
edge_into node i = edge i.out.router node i.cost

abbrev pub edge_out : ℕ → Attached → Edge
edge_out node i = edge node i.out.router 0

abbrev pub network_edges : ℕ → List Transit → List Edge
network_edges node [] = []
network_edges node (t ∷ ts) = map (edge_into node) t.attached ++ (map (edge_out node) t.attached ++ network_edges (node + 1) ts)

-- of n routers, the steps and the networks of an area
abbrev pub area_edges : ℕ → List Step → List Transit → List Edge
area_edges n listed transits = map plain_edge listed ++ network_edges n transits

-- those of an area
abbrev pub steps_in : ℕ → List Step → List Step
steps_in area steps = filter (λ (x : Step). x.area == area) steps

abbrev pub transits_in : ℕ → List Transit → List Transit
transits_in area transits = filter (λ (t : Transit). t.area == area) transits

abbrev pub edges_by : ℕ → ℕ → List Step → List Transit → List Edge
edges_by n area listed transits = area_edges n (steps_in area listed) (transits_in area transits)

-- steps and networks are those of n routers
pub record AreOf (n : ℕ) (listed : List Step) (transits : List Transit) : Type 0 where
  pub leave : (x : Step) → Contains listed x → x.out.router < n
  pub arrive : (x : Step) → Contains listed x → x.to < n
  pub attach : (t : Transit) (i : Attached) → Contains transits t → Contains t.attached i → i.out.router < n

-- no edge costs more than 65,535
pub record CostLittle (listed : List Step) (transits : List Transit) : Type 0 where
  pub step : (x : Step) → Contains listed x → x.cost ≤ 65535
  pub interface : (t : Transit) (i : Attached) → Contains transits t → Contains t.attached i → i.cost ≤ 65535

-- the graph of n routers and the steps and networks of an area, its edges turned round
pub record IsTurned (n : ℕ) (steps : List Step) (networks : List Transit) (g : Graph) : Type 0 where
  pub nodes : g.nodes ≡ n + length networks
  pub edges : g.edges.items ≡ map turned (area_edges n steps networks)
