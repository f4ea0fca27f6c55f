-- Worked cases of external routes, each by computation.
use Rattle.std.specs.Prelude.{◌≡◌, ℕ, List, [], ◌∷◌, Some, refl}
use Rattle.rc_base.specs.Prefix.{Cidr}
use Rattle.rc_config.specs.declared.sets.MetricType.{MetricType}
use Rattle.rc_config.specs.declared.sets.MetricType.TheVariants.{Type1, Type2}
use Rattle.rc_ospf.specs.BoundaryPaths.{BoundaryPath}
use Rattle.rc_route.specs.declared.route.Hop.{Hop}
use Rattle.rc_route.specs.declared.route.Hop.TheVariants.{Via}
use Rattle.rc_route.specs.declared.route.Route.{Route}
use Rattle.rc_route.specs.declared.route.Source.{Source}
use Rattle.rc_route.specs.declared.route.Source.TheVariants.{OspfE1, OspfE2}
use Rattle.rc_external.specs.AsExternal.{AsExternal}
use Rattle.rc_external.specs.OriginationRows.{prefix}
use Rattle.rc_external.specs.Routes.{routes_over}

abbrev via : ℕ → Hop
via gateway = Via gateway (Some (record { router = 0; index = 1 }))

-- the boundary routers 1 to 4: 1 is the nearest, and 3 and 4 are equally far
abbrev paths : List BoundaryPath
paths =
    record { router = 1; cost = 5; hops = via 11 ∷ [] } ∷ record { router = 2; cost = 7; hops = via 12 ∷ [] } ∷ record { router = 3; cost = 9; hops = via 13 ∷ via 14 ∷ [] }
    ∷ record { router = 4; cost = 9; hops = via 11 ∷ via 13 ∷ [] } ∷ []

abbrev office : Cidr
office = prefix 172 16 5 24

-- router s sends the office's prefix
abbrev sends : ℕ → ℕ → MetricType → AsExternal
sends s metric type = record { boundary = s; prefix = office; metric = metric; metric_type = type }

-- the routes of a router with these paths, of what is sent for the office's prefix
abbrev routes : List AsExternal → List Route
routes sent = routes_over paths (record { prefix = office; externals = sent } ∷ [])

abbrev route : Source → ℕ → List Hop → Route
route source metric hops = record { prefix = office; source = source; distance = 110; metric = metric; hops = hops }

-- of type 2 the metric is shown alone, and of type 1 the distance with it
pub of_type_2 : routes (sends 3 20 Type2 ∷ []) ≡ route OspfE2 20 (via 13 ∷ via 14 ∷ []) ∷ []
of_type_2 = refl

pub of_type_1 : routes (sends 3 20 Type1 ∷ []) ≡ route OspfE1 29 (via 13 ∷ via 14 ∷ []) ∷ []
of_type_1 = refl

-- any type 1 before any type 2, whatever they cost and in whatever order they are sent
pub type_1_first : routes (sends 1 1 Type2 ∷ sends 2 16777214 Type1 ∷ []) ≡ route OspfE1 16777221 (via 12 ∷ []) ∷ []
type_1_first = refl

pub type_1_stays : routes (sends 1 16777214 Type1 ∷ sends 2 1 Type2 ∷ []) ≡ route OspfE1 16777219 (via 11 ∷ []) ∷ []
type_1_stays = refl

-- of type 2 the lower metric, also where it is farther, and then the lower distance
pub lower_metric : routes (sends 1 20 Type2 ∷ sends 2 19 Type2 ∷ []) ≡ route OspfE2 19 (via 12 ∷ []) ∷ []
lower_metric = refl

pub lower_distance : routes (sends 2 20 Type2 ∷ sends 1 20 Type2 ∷ sends 3 20 Type2 ∷ []) ≡ route OspfE2 20 (via 11 ∷ []) ∷ []
lower_distance = refl

-- of type 1 the lower sum, and equal sums are equal, whatever their distances
pub lower_sum : routes (sends 1 10 Type1 ∷ sends 2 7 Type1 ∷ []) ≡ route OspfE1 14 (via 12 ∷ []) ∷ []
lower_sum = refl

pub equal_sums : routes (sends 2 8 Type1 ∷ sends 1 10 Type1 ∷ []) ≡ route OspfE1 15 (via 11 ∷ via 12 ∷ []) ∷ []
equal_sums = refl

-- of equal ways all hops stand, in their order and each once
pub equal_ways : routes (sends 4 20 Type2 ∷ sends 3 20 Type2 ∷ []) ≡ route OspfE2 20 (via 11 ∷ via 13 ∷ via 14 ∷ []) ∷ []
equal_ways = refl

-- a way that is worse than the best leaves no hop, also where it came first
pub hops_of_the_best : routes (sends 4 21 Type2 ∷ sends 2 20 Type2 ∷ sends 3 22 Type2 ∷ []) ≡ route OspfE2 20 (via 12 ∷ []) ∷ []
hops_of_the_best = refl

-- a router to which no path leads gives no way
pub no_path : routes (sends 9 1 Type1 ∷ sends 2 20 Type2 ∷ []) ≡ route OspfE2 20 (via 12 ∷ []) ∷ []
no_path = refl

pub no_way : routes (sends 9 1 Type1 ∷ []) ≡ []
no_way = refl
