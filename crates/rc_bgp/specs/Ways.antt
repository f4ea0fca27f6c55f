-- What is noted of addresses is what the table says of them.
use Rattle.std.specs.Prelude.{◌≡◌, ℕ, List}
use Rattle.std.specs.List.{AllByRecursion}
use Rattle.rc_route.specs.Tables.{IsTable}
use Rattle.rc_route.specs.declared.route.Route.{Route}
use Rattle.rc_bgp.specs.Reaching.{metric_to}
use Rattle.rc_bgp.specs.declared.resolver.Way.{Way}

abbrev pub way_addr : Way → ℕ
way_addr w = w.addr

abbrev pub AreWays : List Route → List Way → Type 0
AreWays table ways = AllByRecursion (λ (w : Way). w.metric ≡ metric_to table w.addr) ways

-- a table in order, and what is noted of it
pub record IsAsked (table : List Route) (ways : List Way) : Type 0 where
  pub in_order : IsTable table
  pub noted : AreWays table ways
