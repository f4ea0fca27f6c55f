-- The route that a best path gives its router's table.
use Rattle.std.specs.Prelude.{ℕ, List, ◌∷◌, Option, Some, None, map}
use Rattle.std.specs.Ordering.{nat_cmp}
use Rattle.rc_base.specs.Lists.{in_order}
use Rattle.rc_route.specs.declared.best.Best.{Best}
use Rattle.rc_route.specs.declared.path.PathSource.{PathSource}
use Rattle.rc_route.specs.declared.path.PathSource.TheVariants.{External, Internal}
use Rattle.rc_route.specs.declared.route.Hop.{Hop}
use Rattle.rc_route.specs.declared.route.Hop.TheVariants.{Via}
use Rattle.rc_route.specs.declared.route.Route.{Route}
use Rattle.rc_route.specs.declared.route.Source.{Source}
use Rattle.rc_route.specs.declared.route.Source.TheVariants.{Ebgp, Ibgp}

abbrev pub gateway : ℕ → Hop
gateway a = Via a None

-- the next hop of the path and those beside it, by address
abbrev pub hops_of_best : Best → List Hop
hops_of_best b = map gateway (in_order nat_cmp (b.path.next_hop ∷ b.also))

-- over these hops; the metric is the MED
abbrev pub route_by : Best → Source → ℕ → Route
route_by b source distance = record { prefix = b.path.prefix; source = source; distance = distance; metric = b.path.med; hops = hops_of_best b }

-- a path from another AS has the distance 20, one from the own AS 200, and what the router originates gives no route
abbrev pub learned_by : Best → PathSource → Option Route
learned_by b External = Some (route_by b Ebgp 20)
learned_by b Internal = Some (route_by b Ibgp 200)
learned_by b _ = None

-- the route that a best path gives: `ebgp` at distance 20, `ibgp` at 200, with the MED as its metric, over the next hops of the path and
-- of those that go with it; none for what the router originates
abbrev pub learned_route : Best → Option Route
learned_route b = learned_by b b.path.source
