-- Connected routes that lie over others, as these come.
use Rattle.std.specs.Prelude.{◌≡◌, ℕ, List, [], ◌∷◌, ◌++◌, Option, None, Some}
use Rattle.std.specs.declared.cmp.Ordering.{Ordering}
use Rattle.rc_base.specs.Prefix.{Cidr, prefix_cmp}
use Rattle.rc_fib.specs.Making.{IsMadeOf}
use Rattle.rc_route.specs.Tables.{IsTable}
use Rattle.rc_route.specs.declared.route.Hop.{Hop}
use Rattle.rc_route.specs.declared.route.Route.{Route}
use Rattle.rc_route.specs.declared.route.Source.{Source}
use Rattle.rc_rib.specs.Merging.{KeepsWhole}
use Rattle.rc_alone.specs.declared.laying.Laying.{Laying}

-- how the first of some routes stands to a prefix, if there is one
abbrev pub front_order : List Route → Cidr → Option Ordering
front_order [] p = None
front_order (x ∷ xs) p = Some (prefix_cmp x.prefix p)

-- a route of OSPF
abbrev pub ospf_route : Cidr → Source → ℕ → List Hop → Route
ospf_route p source metric hops = record { prefix = p; source = source; distance = 110; metric = metric; hops = hops }

-- with what is left and whatever comes, it is the same whole: what is made goes on
pub record GoesOn (old : Laying) (new : Laying) (ahead ahead-now : List Route) : Type 0 where
  pub goes_on : (made : List Route) → IsMadeOf made old.made → (more : List Route) × IsMadeOf more new.made × KeepsWhole old.connected.items made ahead new.connected.items more ahead-now

-- the first becomes the other one by taking these routes
abbrev pub Becomes : Laying → List Route → Laying → Type 0
Becomes start routes now = GoesOn start now routes []

-- a table is what was made, and behind it the connected routes that are left
abbrev pub IsLaidAs : List Route → Laying → Type 0
IsLaidAs table l = (made : List Route) × IsMadeOf made l.made × (table ≡ made ++ l.connected.items) × IsTable table

abbrev pub IsLaid : Laying → Type 0
IsLaid l = (table : List Route) × IsLaidAs table l
