-- The routes of a router to prefixes outside of the AS (RFC 2328 s.16.4).
use Rattle.std.specs.Prelude.{ℕ, List, Option}
use Rattle.std.specs.List.{filter_map}
use Rattle.std.specs.Option.{option_map}
use Rattle.rc_base.specs.Lists.{in_order}
use Rattle.rc_base.specs.Prefix.{Cidr}
use Rattle.rc_config.specs.declared.sets.MetricType.{MetricType}
use Rattle.rc_config.specs.declared.sets.MetricType.TheVariants.{Type1, Type2}
use Rattle.rc_ospf.specs.BoundaryPaths.{BoundaryPath}
use Rattle.rc_ospf.specs.Internal.{boundaries_of}
use Rattle.rc_ospf.specs.declared.model.Internal.{Internal}
use Rattle.rc_route.specs.Hops.{hop_cmp}
use Rattle.rc_route.specs.Ways.{Way}
use Rattle.rc_route.specs.declared.route.Route.{Route}
use Rattle.rc_route.specs.declared.route.Source.{Source}
use Rattle.rc_route.specs.declared.route.Source.TheVariants.{OspfE1, OspfE2}
use Rattle.rc_external.specs.Ways.{best_external_way}
use Rattle.rc_external.specs.declared.as_external.ExternalRow.{ExternalRow}
use Rattle.rc_external.specs.declared.cost.ExternalCost.{ExternalCost}

abbrev pub source_by_type : MetricType → Source
source_by_type Type1 = OspfE1
source_by_type Type2 = OspfE2

abbrev pub external_route_over : Cidr → Way ExternalCost → Route
external_route_over p w = record { prefix = p; source = source_by_type w.cost.metric_type; distance = 110; metric = w.cost.metric; hops = in_order hop_cmp w.hops }

abbrev pub external_route_to : List BoundaryPath → ExternalRow → Option Route
external_route_to paths row = option_map (external_route_over row.prefix) (best_external_way paths row.externals)

-- a route for each prefix of some rows to which a way leads
abbrev pub routes_over : List BoundaryPath → List ExternalRow → List Route
routes_over paths rows = filter_map (external_route_to paths) rows

-- the external routes of a router: of what other routers send, its own prefixes and internal ones included
abbrev pub external_routes : Internal → List ExternalRow → ℕ → List Route
external_routes internal rows r = routes_over (boundaries_of internal r) rows
