use Rattle.std.proofs.Common.{refl}
use Rattle.rc_fib.proofs.MakingLaws.{none_made}
use Rattle.rc_fib.proofs.making.FibMaking.with_room.Goals as goal

pub returns : goal.returns
returns c = none_made _ c.in_ok-prefixes.ensures c.new.ensures refl
