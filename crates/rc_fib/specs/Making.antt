-- A prepared table that is made route by route.
use Rattle.std.specs.Prelude.{◌≡◌, ◌<◌, List, [], ◌++◌, All, MatchOption, length, map}
use Rattle.std.specs.List.{AllByRecursion}
use Rattle.rc_base.specs.Prefix.{Cidr, IsCidr}
use Rattle.rc_route.specs.declared.route.Hop.{Hop}
use Rattle.rc_route.specs.declared.route.Route.{Route}
use Rattle.rc_fib.specs.Growing.{HasHops, IsLayer}
use Rattle.rc_fib.specs.declared.making.FibMaking.{FibMaking}

-- some routes side by side all have the hops of the run that is open, if one is
abbrev pub IsOpenRun : List Route → List Hop → Type 0
IsOpenRun run hops = (0 < length run) × AllByRecursion (HasHops hops) run

-- it was made of these routes: of those before the open run the runs are closed
pub record IsMadeOf (routes : List Route) (m : FibMaking) : Type 0 where
  pub before : List Route
  pub run : List Route
  pub parts : routes ≡ before ++ run
  pub closed : List Cidr
  pub layer : IsLayer [] before (record { prefixes = closed; stretches = m.stretches; is_plain = m.is_plain })
  pub behind : m.prefixes ≡ closed ++ map (λ (r : Route). r.prefix) run
  pub canonical : All IsCidr m.prefixes
  pub last : MatchOption m.hops (run ≡ []) (IsOpenRun run)
