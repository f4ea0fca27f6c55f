-- A prepared table while it is made.
use Rattle.std.specs.Prelude.{◌≡◌, true, List, All}
use Rattle.std.specs.List.{list_all}
use Rattle.rc_base.specs.Prefix.{IsCidr}
use Rattle.rc_route.specs.declared.route.Hop.{Hop}
use Rattle.rc_route.specs.declared.route.Route.{Route}
use Rattle.rc_fib.specs.Entry.{Entry}
use Rattle.rc_fib.specs.Entries.{entries_over}
use Rattle.rc_fib.specs.Forwarding.{is_resolved}
use Rattle.rc_fib.specs.Stretches.{Cover, spread}
use Rattle.rc_fib.specs.declared.growing.Growing.{Growing}

abbrev pub HasHops : List Hop → Route → Type 0
HasHops hops r = r.hops ≡ hops

-- what was made is the layer of these routes, where other entries give the hops of their gateways
pub record IsLayer (entries : List Entry) (routes : List Route) (made : Growing) : Type 0 where
  pub covers : Cover 0 made.prefixes made.stretches
  pub value : spread 0 made.prefixes made.stretches ≡ entries_over entries routes
  pub canonical : All IsCidr made.prefixes
  pub plain : made.is_plain ≡ true → list_all (λ (r : Route). list_all is_resolved r.hops) routes ≡ true
