-- What is kept of the least walks of a network, and what it tells.
use Rattle.std.specs.Prelude.{ℕ, ◌==◌, ◌<◌, ◌≤◌, Bool, if◌then◌else◌, List, [], ◌++◌, Option, Some, option_and_then, find, slice_get}
use Rattle.std.specs.Option.{option_map, option_map_or}
use Rattle.std.specs.List.{AllByRecursion, filter_map, flat_map, slice_index_or}
use Rattle.rc_base.specs.Lists.{in_order}
use Rattle.rc_route.specs.Hops.{hop_cmp}
use Rattle.rc_route.specs.declared.route.Hop.{Hop}
use Rattle.rc_ospf_interfaces.specs.declared.interface.OspfInterface.{OspfInterface}
use Rattle.rc_link_state.specs.ByRouter.{of_router}
use Rattle.rc_link_state.specs.Columns.{cost_at}
use Rattle.rc_link_state.specs.HopsBy.{hop_on, hops_from}
use Rattle.rc_link_state.specs.Towards.{IsPathTo}
use Rattle.rc_link_state.specs.Walks.{LeastWalks, Reach, IsReach}
use Rattle.rc_link_state.specs.declared.end.End.{End}
use Rattle.rc_link_state.specs.declared.step.Step.{Step}
use Rattle.rc_link_state.specs.declared.columns.Column.{Column}
use Rattle.rc_link_state.specs.declared.table.AreaWalks.{AreaWalks}
use Rattle.rc_link_state.specs.declared.transit.Transit.{Transit}

-- an interface of one of n routers, which costs from 1 to 65,535 to leave by
pub record IsFit (n : ℕ) (i : OspfInterface) : Type 0 where
  pub router : i.id.router < n
  pub least : 1 ≤ i.cost
  pub most : i.cost ≤ 65535

-- the walk without steps
abbrev pub nowhere : LeastWalks
nowhere = record { cost = 0; hops = [] }

-- what an area keeps of a router to which walks lead; nothing behind the last one
abbrev pub none_left : Column
none_left = record { costs = []; left = [] }

abbrev pub column_of : AreaWalks → ℕ → Column
column_of w s = slice_index_or w.columns s none_left

-- the hops of router r over a network, of which so much is left, if anything
abbrev pub hops_left : ℕ → (ℕ → Option ℕ) → ℕ → Transit → Option ℕ → List Hop
hops_left r costs cost t left = option_map_or (hops_from r costs cost t.attached) left []

-- over the network of a number
abbrev pub hops_over_place : AreaWalks → ℕ → Column → ℕ → ℕ → List Hop
hops_over_place w r c cost k = option_map_or (λ (t : Transit). hops_left r (cost_at c.costs) cost t (cost_at c.left k)) (slice_get w.networks k) []

-- those over the steps that leave it and lead on, and over the networks to which it is attached
abbrev pub hops_towards : AreaWalks → ℕ → Column → ℕ → List Hop
hops_towards w r c cost = in_order hop_cmp (filter_map (hop_on (cost_at c.costs) cost) (of_router w.steps r) ++ flat_map (hops_over_place w r c cost) (of_router w.attached r))

-- inside an area, from r to where a column leads
abbrev pub walks_by_column : AreaWalks → ℕ → Column → Option LeastWalks
walks_by_column w r c = option_map (λ cost. record { cost = cost; hops = hops_towards w r c cost }) (cost_at c.costs r)

-- from r to s
abbrev pub walks_in : AreaWalks → ℕ → ℕ → Option LeastWalks
walks_in w r s = walks_by_column w r (column_of w s)

abbrev pub is_number : ℕ → ℕ → Bool
is_number area number = number == area

abbrev pub is_of_area : ℕ → AreaWalks → Bool
is_of_area area w = w.area == area

-- the least walks that are told of router r, by area and router to which they lead
unfoldable pub reach_in : List AreaWalks → ℕ → Reach
reach_in areas r area s = if s == r then Some nowhere else option_and_then (λ (w : AreaWalks). walks_in w r s) (find (is_of_area area) areas)

-- they are those of n routers over these steps
pub record AreWalksOf (steps : List Step) (n : ℕ) (areas : List AreaWalks) : Type 0 where
  pub reach : (r : ℕ) → r < n → IsReach steps r (reach_in areas r)

-- those to some ends are, at least
pub record AreWalksTo (steps : List Step) (n : ℕ) (ends : List End) (areas : List AreaWalks) : Type 0 where
  pub reach : (r : ℕ) → r < n → AllByRecursion (λ (e : End). IsPathTo steps r e.area e.router (reach_in areas r e.area e.router)) ends

-- their cost, where there are any
abbrev pub cost_of : Option LeastWalks → Option ℕ
cost_of walks = option_map (λ (e : LeastWalks). e.cost) walks

-- the first hops of all of them, none where there are no walks
abbrev pub hops_of : Option LeastWalks → List Hop
hops_of walks = option_map_or (λ (e : LeastWalks). e.hops) walks []
