-- The prepared table of a router that reads nothing.
use Rattle.std.specs.Prelude.{◌≡◌, ℕ, List}
use Rattle.rc_config.specs.declared.network.Network.{Network}
use Rattle.rc_fib.specs.Entries.{IsFib}
use Rattle.rc_fib.specs.Entry.{Entry}
use Rattle.rc_fib.specs.Forwarding.{resolved}
use Rattle.rc_ospf.specs.Grounds.{AreMadeOfRoutes}
use Rattle.rc_ospf.specs.declared.model.Internal.{Internal}
use Rattle.rc_rib.specs.Lone.{lone_table}
use Rattle.rc_route.specs.declared.route.Route.{Route}

-- of a router's connected routes and these by OSPF
pub record IsPreparedOf (net : Network) (r : ℕ) (routes : List Route) (fib : List Entry) : Type 0 where
  pub value : fib ≡ resolved (lone_table net r routes)
  pub in_order : IsFib fib

-- so it is of each router with its routes by OSPF
abbrev pub ArePreparedOver : Network → Internal → List (List Entry) → Type 0
ArePreparedOver net i fibs = AreMadeOfRoutes (IsPreparedOf net) net i fibs
