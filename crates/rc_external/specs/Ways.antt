-- Ways to a prefix outside of the AS: to an AS boundary router that sends it, and on at its metric (RFC 2328 s.16.4).
use Rattle.std.specs.Prelude.{ℕ, ◌==◌, List, Option}
use Rattle.std.specs.List.{filter_map, find}
use Rattle.std.specs.Option.{option_map}
use Rattle.rc_route.specs.Ways.{Way, best_of}
use Rattle.rc_ospf.specs.BoundaryPaths.{BoundaryPath}
use Rattle.rc_external.specs.AsExternal.{AsExternal}
use Rattle.rc_external.specs.Costs.{cost_cmp, cost_over}
use Rattle.rc_external.specs.declared.cost.ExternalCost.{ExternalCost}

-- the path to a router, among the paths to the boundary routers
abbrev pub path_to : List BoundaryPath → ℕ → Option BoundaryPath
path_to paths s = find (λ (b : BoundaryPath). b.router == s) paths

abbrev pub external_way_over : AsExternal → BoundaryPath → Way ExternalCost
external_way_over e b = record { cost = cost_over e b.cost; hops = b.hops }

abbrev pub external_way_to : List BoundaryPath → AsExternal → Option (Way ExternalCost)
external_way_to paths e = option_map (external_way_over e) (path_to paths e.boundary)

-- the best of the ways to what is sent
abbrev pub best_external_way : List BoundaryPath → List AsExternal → Option (Way ExternalCost)
best_external_way paths sent = best_of cost_cmp (filter_map (external_way_to paths) sent)
