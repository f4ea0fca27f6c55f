-- Worked cases, each by computation: the routers 0, 1 and 2 on a network, which is node 3.
use Rattle.std.specs.Prelude.{◌≡◌, ℕ, List, [], ◌∷◌, Contains, refl}
use Rattle.rc_spf.specs.declared.graph.Edge.{Edge}
use Rattle.rc_spf.specs.Steps.{cost_to_enter}
use Rattle.rc_spf.specs.Walks.{IsWalk, walk_cost}
use Rattle.rc_spf.specs.Weights.{first_cost}

-- a router enters the network at its interface's cost
abbrev into : ℕ → ℕ → Edge
into router cost = record { from = router; to = 3; cost = cost }

-- and what leads out of the network costs nothing
abbrev out_to : ℕ → Edge
out_to router = record { from = 3; to = router; cost = 0 }

abbrev across : List Edge
across = into 0 10 ∷ out_to 2 ∷ []

-- from one router to another by way of the network
pub leads_across : (edges : List Edge) → Contains edges (into 0 10) → Contains edges (out_to 2) → IsWalk edges 0 across 2
leads_across edges enters leaves = (enters, refl, (leaves, refl, refl))

pub costs_of_the_interface : walk_cost across ≡ 10
costs_of_the_interface = refl

-- back it costs what the other interface does
pub costs_back : walk_cost (into 2 30 ∷ out_to 0 ∷ []) ≡ 30
costs_back = refl

pub costs_nothing_to_stay : (edges : List Edge) → IsWalk edges 1 [] 1 × (walk_cost [] ≡ 0)
costs_nothing_to_stay edges = (refl, refl)

-- edges turned round: the routers cost something to enter, and one network or fifty nothing more
pub entered_once : (cost_to_enter (first_cost 3 30) 0 4 ≡ 90) × (cost_to_enter (first_cost 3 30) 0 53 ≡ 90)
entered_once = (refl, refl)
