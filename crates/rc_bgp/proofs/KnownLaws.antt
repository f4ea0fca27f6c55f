-- What a router knows in a state is in order.
use Rattle.std.proofs.Common.{◌≡◌, ℕ, zero, suc, sym, subst, List, [], ◌∷◌, All}
use Rattle.std.specs.List.{AllByRecursion}
use Rattle.std.specs.List.Sorted.{IsStrictlySortedBy}
use Rattle.std.proofs.lemmas.List.Elements.{recursion_from_All}
use Rattle.rc_base.specs.Prefix.{prefix_cmp}
use Rattle.rc_route.specs.Tables.{IsBestList, IsPathList, IsRouterState, IsTable}
use Rattle.rc_route.specs.declared.best.Best.{Best}
use Rattle.rc_route.specs.declared.path.BgpPath.{BgpPath}
use Rattle.rc_route.specs.declared.route.Route.{Route}
use Rattle.rc_route.specs.declared.state.RouterState.{RouterState}
use Rattle.rc_bgp.specs.RouterStates.{paths_of, table_of}

tables : (state : List RouterState) (r : ℕ) → AllByRecursion IsRouterState state → IsTable (table_of state r)
unfolding IsStrictlySortedBy
tables [] r all = tt
tables (s ∷ ss) zero all = all.0.table
tables (s ∷ ss) (suc r) all = tables ss r all.1

lists : (state : List RouterState) (r : ℕ) → AllByRecursion IsRouterState state → IsBestList (paths_of state r)
unfolding IsStrictlySortedBy
lists [] r all = tt
lists (s ∷ ss) zero all = all.0.paths
lists (s ∷ ss) (suc r) all = lists ss r all.1

pub table_in_order : (state : List RouterState) (r : ℕ) (table : List Route) → All IsRouterState state → table ≡ table_of state r → IsTable table
table_in_order state r table all is = subst IsTable (sym is) (tables state r (recursion_from_All IsRouterState state all))

pub paths_in_order : (state : List RouterState) (r : ℕ) (paths : List Best) → All IsRouterState state → paths ≡ paths_of state r → IsBestList paths
paths_in_order state r paths all is = subst IsBestList (sym is) (lists state r (recursion_from_All IsRouterState state all))

-- nothing is in order
pub nothing_in_order : IsStrictlySortedBy prefix_cmp []
unfolding IsStrictlySortedBy
nothing_in_order = tt

pub none_listed : (paths : List BgpPath) → paths ≡ [] → IsPathList paths
none_listed paths is = subst IsPathList (sym is) nothing_in_order
