use Rattle.std.proofs.Common.{◌≡◌, ◌++◌, map, drop}
use Rattle.rc_route.specs.declared.route.Hop.TheVariants.{Dev}
use Rattle.rc_rib.proofs.connected_routes.hops_over.Given as goal

abbrev pub invariant-loop-id : goal.invariant-loop-id
invariant-loop-id l = l.hops ++ map Dev (drop l.id-index l.members) ≡ map Dev l.members
