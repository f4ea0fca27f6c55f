use Rattle.std.proofs.Common.{length}
use Rattle.std.specs.Prelude.{All, IsSome}
use Rattle.rc_network.proofs.BuildLaws.{AreLeft}
use Rattle.rc_network.proofs.building.Gathered.put_models.Given as goal

abbrev pub invariant-loop-file : goal.invariant-loop-file
invariant-loop-file l = record {
  left : AreLeft l.fn.models.items l.left.items l.self;
  hosts : All (λ m. IsSome m.1.host) l.left.items;
}

abbrev pub decreases-loop-file : goal.decreases-loop-file
decreases-loop-file l = length l.left.items
