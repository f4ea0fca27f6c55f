-- The list of hops that is kept while a route is resolved.
use Rattle.std.specs.Prelude.{List}
use Rattle.rc_route.specs.declared.route.Hop.{Hop}
use Rattle.rc_fib.specs.declared.hop_set.Found.{Found}
use Rattle.rc_fib.specs.declared.hop_set.Found.TheVariants.{Few, Many}

abbrev pub hops_found : Found → List Hop
hops_found (Few hops) = hops
hops_found (Many hops) = hops
