-- Ways to a destination: over the least walks to a router inside an area, and on at what the router offers.
use Rattle.std.specs.Prelude.{ℕ, ◌+◌, List, Option}
use Rattle.std.specs.List.{filter_map}
use Rattle.std.specs.Option.{option_map}
use Rattle.std.specs.Ordering.{nat_cmp}
use Rattle.rc_route.specs.Ways.{Way, best_of}
use Rattle.rc_ospf.specs.Offered.{Offered}
use Rattle.rc_link_state.specs.Walks.{LeastWalks, Reach}

abbrev pub way_over : ℕ → LeastWalks → Way ℕ
way_over cost e = record { cost = cost; hops = e.hops }

-- the way to an offer: the least walks to its router inside its area, and its own cost
abbrev pub way_to : Reach → Offered → Option (Way ℕ)
way_to reach o = option_map (λ (e : LeastWalks). way_over (e.cost + o.cost) e) (reach o.area o.router)

-- the best of the ways to some offers
abbrev pub best_way : Reach → List Offered → Option (Way ℕ)
best_way reach offers = best_of nat_cmp (filter_map (way_to reach) offers)

abbrev pub cost_of : Option (Way ℕ) → Option ℕ
cost_of best = option_map (λ (w : Way ℕ). w.cost) best
