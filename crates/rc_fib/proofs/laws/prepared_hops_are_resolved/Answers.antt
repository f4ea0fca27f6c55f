use Rattle.rc_fib.proofs.EndLaws.{hops_of-resolved}
use Rattle.rc_fib.proofs.laws.prepared_hops_are_resolved.Goals as goal

pub returns : goal.returns
returns c = hops_of-resolved
