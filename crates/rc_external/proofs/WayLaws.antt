-- The best way to what is sent for a prefix is what the ways make, one after another.
use Rattle.std.proofs.Common.{◌≡◌, refl, ◌∙◌, List, [], ◌∷◌, Option, Some, None}
use Rattle.std.specs.List.{fold, filter_map, cons_option}
use Rattle.std.specs.Option.{option_map_or}
use Rattle.rc_route.specs.Ways.{Way, then_way, with_way}
use Rattle.rc_route.proofs.WayLaws.{best_is}
use Rattle.rc_ospf.specs.BoundaryPaths.{BoundaryPath}
use Rattle.rc_external.specs.AsExternal.{AsExternal}
use Rattle.rc_external.specs.ByPrefix.{then_to}
use Rattle.rc_external.specs.Costs.{cost_cmp}
use Rattle.rc_external.specs.Ways.{best_external_way, external_way_to}
use Rattle.rc_external.specs.declared.cost.ExternalCost.{ExternalCost}
use Rattle.rc_external.proofs.CostLaws.{cost_cmp_total}

-- what is sent by a router to which no path leads makes no way
over_externals : (paths : List BoundaryPath) (b : Option (Way ExternalCost)) (es : List AsExternal) → fold (then_to paths) b es ≡ fold (then_way cost_cmp) b (filter_map (external_way_to paths) es)
over_externals paths b [] = refl
over_externals paths b (e ∷ es) = by (external_way_to paths e) (λ c. over_externals paths c es)
  where
    by : (way : Option (Way ExternalCost)) → ((c : Option (Way ExternalCost)) → fold (then_to paths) c es ≡ fold (then_way cost_cmp) c (filter_map (external_way_to paths) es)) →
        fold (then_to paths) (option_map_or (λ w. Some (with_way cost_cmp b w)) way b) es ≡ fold (then_way cost_cmp) b (cons_option way (filter_map (external_way_to paths) es))
    by None rest = rest b
    by (Some w) rest = rest (Some (with_way cost_cmp b w))

pub best_way_is : (paths : List BoundaryPath) (es : List AsExternal) → fold (then_to paths) None es ≡ best_external_way paths es
best_way_is paths es = over_externals paths None es ∙ best_is cost_cmp cost_cmp_total (filter_map (external_way_to paths) es)
