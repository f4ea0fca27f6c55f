-- Hops where one step alone leads on.
use Rattle.std.proofs.Common.{◌≡◌, ap, ◌∙◌, ℕ, [], ◌∷◌, ◌++◌}
use Rattle.std.specs.List.{filter_map, flat_map}
use Rattle.rc_base.specs.Lists.{in_order}
use Rattle.rc_route.specs.Hops.{hop_cmp}
use Rattle.rc_route.specs.declared.route.Hop.{Hop}
use Rattle.rc_link_state.specs.declared.columns.Column.{Column}
use Rattle.rc_link_state.specs.declared.table.AreaWalks.{AreaWalks}
use Rattle.rc_link_state.specs.ByRouter.{of_router}
use Rattle.rc_link_state.specs.Columns.{cost_at}
use Rattle.rc_link_state.specs.HopsBy.{hop_on}
use Rattle.rc_link_state.specs.Tables.{hops_over_place, hops_towards}

pub sole_hops : (w : AreaWalks) (r : ℕ) (c : Column) (cost : ℕ) (h : Hop) → of_router w.attached r ≡ [] → filter_map (hop_on (cost_at c.costs) cost) (of_router w.steps r) ≡ h ∷ []
    → hops_towards w r c cost ≡ h ∷ []
sole_hops w r c cost h none only =
    ap (λ ks. in_order hop_cmp (filter_map (hop_on (cost_at c.costs) cost) (of_router w.steps r) ++ flat_map (hops_over_place w r c cost) ks)) none
    ∙ ap (λ hops. in_order hop_cmp (hops ++ [])) only
