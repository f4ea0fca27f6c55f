use Rattle.std.proofs.Common.{◌≡◌}
use Rattle.std.specs.Prelude.{All, IsOk}
use Rattle.rc_system.specs.Edge.{names_in}
use Rattle.rc_system.proofs.listing.gathered.Given as goal

abbrev pub invariant-loop-found : goal.invariant-loop-found
invariant-loop-found g l = All IsOk l.yielded × (l.names ≡ names_in l.yielded)
