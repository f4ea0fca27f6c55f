use Rattle.std.proofs.Common.{drop}
use Rattle.rc_ospf.specs.Members.{known}
use Rattle.rc_ospf.specs.declared.member.StubAreas.TheVariants.{Kept}
use Rattle.rc_ospf.proofs.TakingLaws.{AreTaken}
use Rattle.rc_ospf.proofs.routes.take_routes.Given as goal

abbrev pub invariant-loop-destination : goal.invariant-loop-destination
invariant-loop-destination g l = AreTaken g.T.TakesRoutes.becomes (known Kept l.member) (drop l.destination-index l.destinations) l.destinations l.fn.taking l.taking
