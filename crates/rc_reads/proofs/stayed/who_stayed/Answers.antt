use Rattle.std.proofs.Common.{subst}
use Rattle.rc_reads.specs.Stayed.{BoundariesAreFlagged}
use Rattle.rc_reads.proofs.stayed.who_stayed.Goals as goal

pub returns : goal.returns
returns c old now are = record { routers = are; boundaries = λ set. subst (BoundariesAreFlagged c.args.net.now) c.as_slice.ensures (c.boundaries_are_flagged-boundaries.ensures set) }
