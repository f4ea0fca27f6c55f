-- What the graph with transit networks says of the steps.
use Rattle.std.specs.Prelude.{◌≡◌, ℕ, ◌+◌, ◌<◌, ◌↔◌, List, Option, Some, MatchOption, slice_get}
use Rattle.rc_route.specs.declared.route.Hop.{Hop}
use Rattle.rc_spf.specs.declared.graph.Edge.{Edge}
use Rattle.rc_spf.specs.Walks as E
use Rattle.rc_link_state.specs.Towards.{AreCostsTo, IsCostFrom, LeadsOn}
use Rattle.rc_link_state.specs.declared.step.Step.{Step}
use Rattle.rc_link_state.specs.declared.transit.Transit.{Transit}
use Rattle.rc_link_state.specs.Graph.{AreOf, edges_by, transits_in}
use Rattle.rc_link_state.specs.Transits.{AreStepsBy, CostSomething, IsLeftFrom, LeadsOnBy}

-- the cost of the least walks over edges, or none where no walk leads there
abbrev pub IsCostOver : List Edge → ℕ → ℕ → Option ℕ → Type 0
IsCostOver edges a b cost = MatchOption cost ((walk : List Edge) → E.IsWalk edges a walk b → ⊥) (λ c. E.IsLeastCost edges a b c)

-- between routers the least costs over the graph are those over the steps
abbrev pub LeastCostsAreThose : Type 0
LeastCostsAreThose = (n area : ℕ) (steps listed : List Step) (transits : List Transit) → AreOf n listed transits → AreStepsBy listed transits steps →
    (r s : ℕ) → r < n → s < n → (cost : Option ℕ) → IsCostOver (edges_by n area listed transits) r s cost → IsCostFrom steps area s r cost

-- from the node of a network they are what is left from it on
abbrev pub CostsBehindAreThose : Type 0
CostsBehindAreThose = (n area : ℕ) (steps listed : List Step) (transits : List Transit) → AreOf n listed transits → AreStepsBy listed transits steps →
    (s : ℕ) (costs : ℕ → Option ℕ) → s < n → ((r : ℕ) → r < n → IsCostFrom steps area s r (costs r)) →
    (k : ℕ) (t : Transit) → slice_get (transits_in area transits) k ≡ Some t → (left : Option ℕ) → IsCostOver (edges_by n area listed transits) (n + k) s left → IsLeftFrom costs t left

-- the hops of the steps that lead on are those of the listed ones that do, and those over the networks that do
abbrev pub HopsAreThose : Type 0
HopsAreThose = (area : ℕ) (steps listed : List Step) (transits : List Transit) → AreStepsBy listed transits steps → CostSomething transits →
    (s : ℕ) (costs : ℕ → Option ℕ) → AreCostsTo steps area s costs → (r c : ℕ) → costs r ≡ Some c →
    (h : Hop) → LeadsOn steps area r costs c h ↔ LeadsOnBy listed transits area r costs c h
