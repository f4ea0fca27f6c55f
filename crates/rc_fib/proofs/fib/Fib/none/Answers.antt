use Rattle.rc_fib.proofs.StretchLaws.{nothing}
use Rattle.rc_fib.proofs.fib.Fib.none.Goals as goal

pub invariant_of-result : goal.invariant_of-result
invariant_of-result c = nothing c.new.result c.new-2.result c.new.ensures c.new-2.ensures
