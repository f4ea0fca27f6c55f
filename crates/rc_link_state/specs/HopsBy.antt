-- The least walks to a router as they are made where a route wants them: a cost from a table, and hops by the listed steps and the networks.
use Rattle.std.specs.Prelude.{ℕ, ◌+◌, ◌==◌, nat_lt, Bool, false, ◌&&◌, if◌then◌else◌, List, [], ◌∷◌, ◌++◌, map, filter, Option, Some, None}
use Rattle.std.specs.List.{filter_map, flat_map}
use Rattle.std.specs.Option.{option_map, option_map_or}
use Rattle.rc_base.specs.Lists.{in_order}
use Rattle.rc_route.specs.Hops.{hop_cmp}
use Rattle.rc_route.specs.declared.route.Hop.{Hop}
use Rattle.rc_route.specs.declared.route.Hop.TheVariants.{Via}
use Rattle.rc_link_state.specs.Adjacency.{hop_of}
use Rattle.rc_link_state.specs.Towards.{AreCostsTo, IsPathTo}
use Rattle.rc_link_state.specs.Walks.{LeastWalks}
use Rattle.rc_link_state.specs.declared.step.Step.{Step}
use Rattle.rc_link_state.specs.Graph.{transits_in}
use Rattle.rc_link_state.specs.Transits.{AreStepsBy, CostSomething}
use Rattle.rc_link_state.specs.declared.transit.Attached.{Attached}
use Rattle.rc_link_state.specs.declared.transit.Transit.{Transit}

-- so much is left at a router
abbrev pub has_left : (ℕ → Option ℕ) → ℕ → ℕ → Bool
has_left costs left r = option_map_or (λ l. l == left) (costs r) false

-- a step leads on at the cost
abbrev pub leads_on : (ℕ → Option ℕ) → ℕ → Step → Bool
leads_on costs cost x = option_map_or (λ left. left + x.cost == cost) (costs x.to) false

abbrev pub hop_on : (ℕ → Option ℕ) → ℕ → Step → Option Hop
hop_on costs cost x = if leads_on costs cost x then Some (hop_of x) else None

-- a listed step out of router r inside the area does
abbrev pub leads_by : ℕ → ℕ → (ℕ → Option ℕ) → ℕ → Step → Bool
leads_by area r costs cost x = (x.area == area) && ((x.out.router == r) && leads_on costs cost x)

abbrev pub hop_by_step : ℕ → ℕ → (ℕ → Option ℕ) → ℕ → Step → Option Hop
hop_by_step area r costs cost x = if leads_by area r costs cost x then Some (hop_of x) else None

-- the lower one of two costs, where there are any
abbrev pub lower : Option ℕ → Option ℕ → Option ℕ
lower None b = b
lower (Some a) None = Some a
lower (Some a) (Some b) = if nat_lt b a then Some b else Some a

-- the least of what is left from the routers that are attached
abbrev pub left_from : (ℕ → Option ℕ) → List Attached → Option ℕ
left_from costs [] = None
left_from costs (i ∷ is) = lower (costs i.out.router) (left_from costs is)

-- router r leaves by this one
abbrev pub leaves_by : ℕ → ℕ → ℕ → Attached → Bool
leaves_by r left cost i = (i.out.router == r) && (left + i.cost == cost)

abbrev pub arrives_at : (ℕ → Option ℕ) → ℕ → Attached → Bool
arrives_at costs left j = has_left costs left j.out.router

abbrev pub hop_between : Attached → Attached → Hop
hop_between i j = Via j.gateway (Some i.out)

-- the hops of router r over a network, of which so much is left
abbrev pub hops_from : ℕ → (ℕ → Option ℕ) → ℕ → List Attached → ℕ → List Hop
hops_from r costs cost attached left = flat_map (λ i. map (hop_between i) (filter (arrives_at costs left) attached)) (filter (leaves_by r left cost) attached)

abbrev pub hops_over : ℕ → (ℕ → Option ℕ) → ℕ → Transit → List Hop
hops_over r costs cost t = option_map_or (hops_from r costs cost t.attached) (left_from costs t.attached) []

abbrev pub hops_by : List Step → List Transit → ℕ → ℕ → (ℕ → Option ℕ) → ℕ → List Hop
hops_by listed transits area r costs cost =
    in_order hop_cmp (filter_map (hop_by_step area r costs cost) listed ++ flat_map (hops_over r costs cost) (transits_in area transits))

-- the least walks of router r, from the costs to where they lead
abbrev pub walks_by : List Step → List Transit → ℕ → ℕ → (ℕ → Option ℕ) → Option LeastWalks
walks_by listed transits area r costs = option_map (λ c. record { cost = c; hops = hops_by listed transits area r costs c }) (costs r)

abbrev pub WalksAreThose : Type 0
WalksAreThose = (area : ℕ) (steps listed : List Step) (transits : List Transit) → AreStepsBy listed transits steps → CostSomething transits →
    (s : ℕ) (costs : ℕ → Option ℕ) → AreCostsTo steps area s costs → (r : ℕ) → IsPathTo steps r area s (walks_by listed transits area r costs)
