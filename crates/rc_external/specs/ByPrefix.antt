-- What is sent put under its prefix, and ways taken one after another, as the code does it.
use Rattle.std.specs.Prelude.{List, [], ◌∷◌, ◌++◌, Option, Some, None}
use Rattle.std.specs.Option.{option_map_or}
use Rattle.rc_base.specs.Prefix.{Cidr}
use Rattle.rc_route.specs.Ways.{Way, with_way}
use Rattle.rc_ospf.specs.BoundaryPaths.{BoundaryPath}
use Rattle.rc_external.specs.AsExternal.{AsExternal}
use Rattle.rc_external.specs.Costs.{cost_cmp}
use Rattle.rc_external.specs.Ways.{external_way_to}
use Rattle.rc_external.specs.declared.as_external.ExternalRow.{ExternalRow}
use Rattle.rc_external.specs.declared.cost.ExternalCost.{ExternalCost}
use Rattle.rc_external.specs.declared.way.ExternalWay.{ExternalWay}

abbrev pub with_external : Option (List AsExternal) → AsExternal → List AsExternal
with_external None e = e ∷ []
with_external (Some sent) e = sent ++ e ∷ []

abbrev pub row_of : Cidr × List AsExternal → ExternalRow
row_of row = record { prefix = row.0; externals = row.1 }

-- a way as it is kept
abbrev pub as_way : ExternalWay → Way ExternalCost
as_way w = record { cost = w.cost; hops = w.hops }

-- the best way so far, and one to what else is sent, where a path leads to its router
abbrev pub then_to : List BoundaryPath → Option (Way ExternalCost) → AsExternal → Option (Way ExternalCost)
then_to paths best e = option_map_or (λ w. Some (with_way cost_cmp best w)) (external_way_to paths e) best
