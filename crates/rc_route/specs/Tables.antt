-- Tables, lists of best paths and states in their order, and what stands in them for a prefix.
use Rattle.std.specs.Prelude.{◌≡◌, ℕ, List, All, Option, length, map}
use Rattle.std.specs.List.{find}
use Rattle.std.specs.Option.{option_map}
use Rattle.std.specs.List.Sorted.{IsStrictlySortedBy}
use Rattle.rc_base.specs.Prefix.{Cidr, prefix_cmp, same_prefix}
use Rattle.rc_route.specs.declared.best.Best.{Best}
use Rattle.rc_route.specs.declared.path.BgpPath.{BgpPath}
use Rattle.rc_route.specs.declared.route.Route.{Route}
use Rattle.rc_route.specs.declared.state.RouterState.{RouterState}

-- one for each prefix, by address, then length
abbrev pub IsListed : {A : Type 0} → (A → Cidr) → List A → Type 0
IsListed prefix_of xs = IsStrictlySortedBy prefix_cmp (map prefix_of xs)

-- the one of just this prefix
abbrev pub listed_at : {A : Type 0} → (A → Cidr) → List A → Cidr → Option A
listed_at prefix_of xs p = find (λ x. same_prefix p (prefix_of x)) xs

-- one route for each prefix, by address, then length
abbrev pub IsTable : List Route → Type 0
IsTable table = IsListed (λ (r : Route). r.prefix) table

-- one path for each prefix, by address, then length
abbrev pub IsPathList : List BgpPath → Type 0
IsPathList paths = IsListed (λ (p : BgpPath). p.prefix) paths

-- one best path for each prefix, by address, then length
abbrev pub IsBestList : List Best → Type 0
IsBestList paths = IsListed (λ (b : Best). b.path.prefix) paths

-- what is best for a prefix
abbrev pub best_for : List Best → Cidr → Option Best
best_for paths p = listed_at (λ (b : Best). b.path.prefix) paths p

-- its path, which alone is told to others
abbrev pub best_path_for : List Best → Cidr → Option BgpPath
best_path_for paths p = option_map (λ (b : Best). b.path) (best_for paths p)

-- a router's table and its best paths are in order
pub record IsRouterState (s : RouterState) : Type 0 where
  pub table : IsTable s.table
  pub paths : IsBestList s.paths

-- a state of so many routers, each in its order
pub record IsStateOf (routers : ℕ) (state : List RouterState) : Type 0 where
  pub as_long : length state ≡ routers
  pub each : All IsRouterState state
