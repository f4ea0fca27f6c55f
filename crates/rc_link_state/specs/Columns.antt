-- What a tree over the turned edges of an area's graph says, of its routers and its networks.
use Rattle.std.specs.Prelude.{option_and_then, ◌≡◌, ℕ, ◌+◌, ◌^◌, ◌<◌, nat_lt, if◌then◌else◌, List, map, Option, Some, None, slice_get}
use Rattle.std.specs.List.{slice_index_or}
use Rattle.rc_link_state.specs.Towards.{AreCostsTo}
use Rattle.rc_link_state.specs.declared.step.Step.{Step}
use Rattle.rc_link_state.specs.Graph.{AreOf, edges_by, transits_in, turned}
use Rattle.rc_link_state.specs.Laws.{IsCostOver}
use Rattle.rc_link_state.specs.Transits.{AreStepsBy, IsLeftFrom}
use Rattle.rc_link_state.specs.declared.transit.Transit.{Transit}

-- what is left from a node, by a column
abbrev pub cost_at : List (Option ℕ) → ℕ → Option ℕ
cost_at costs k = option_and_then (λ (o : Option ℕ). o) (slice_get costs k)

-- of a column the costs of the first n nodes, the routers
abbrev pub router_cost : ℕ → List (Option ℕ) → ℕ → Option ℕ
router_cost n costs r = if nat_lt r n then slice_index_or costs r None else None

-- the least costs from s over the turned edges are those to s from each router, and what is left from each network
abbrev pub ColumnsAreThose : Type 0
ColumnsAreThose = (n area : ℕ) (steps listed : List Step) (transits : List Transit) → AreOf n listed transits → AreStepsBy listed transits steps → (s : ℕ) → s < n → (costs : List (Option ℕ)) →
    ((k : ℕ) → IsCostOver (map turned (edges_by n area listed transits)) s k (slice_index_or costs k None)) →
    AreCostsTo steps area s (router_cost n costs) × ((k : ℕ) (t : Transit) → slice_get (transits_in area transits) k ≡ Some t → IsLeftFrom (router_cost n costs) t (slice_index_or costs (n + k) None))

-- each cost is below 2^26
pub record AreSmall (costs : List (Option ℕ)) : Type 0 where
  pub small : (k c : ℕ) → cost_at costs k ≡ Some c → c < 2 ^ 26
