use Rattle.std.proofs.Common.{All}
use Rattle.rc_ospf.specs.BoundaryForms.{boundary_paths}
use Rattle.rc_ospf.specs.BoundaryPaths.{IsNear}
use Rattle.rc_shares.proofs.MakingLaws.{is_given}
use Rattle.rc_ospf.proofs.tables.PathsToMakes.make.Goals as goal

pub returns : goal.returns
returns c = is_given (boundary_paths c.args.self.now.targets.now) (All IsNear) c.args.member.now c.paths_to.result c.paths_to.ensures.value c.paths_to.ensures.near
