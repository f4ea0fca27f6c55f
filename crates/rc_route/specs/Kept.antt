-- The list of hops that is kept.
use Rattle.std.specs.Prelude.{List, [], ◌∷◌}
use Rattle.rc_route.specs.declared.hops.Kept.{Kept}
use Rattle.rc_route.specs.declared.hops.Kept.TheVariants.{Nothing, One, Several}
use Rattle.rc_route.specs.declared.route.Hop.{Hop}

abbrev pub hops_kept : Kept → List Hop
hops_kept Nothing = []
hops_kept (One hop) = hop ∷ []
hops_kept (Several hops) = hops
