use Rattle.std.proofs.Common.{◌≡◌, ◌++◌, All, map, take}
use Rattle.rc_base.specs.Prefix.{IsCidr}
use Rattle.rc_route.specs.declared.route.Route.{Route}
use Rattle.rc_fib.proofs.growing.push_prefixes.Given as goal

abbrev pub invariant-loop-route : goal.invariant-loop-route
invariant-loop-route l = record {
  value : l.prefixes ≡ l.fn.prefixes ++ map (λ (r : Route). r.prefix) (take l.route-index l.run);
  canonical : All IsCidr l.fn.prefixes → All IsCidr l.prefixes;
}
