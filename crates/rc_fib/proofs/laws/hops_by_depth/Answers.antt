use Rattle.rc_fib.proofs.ForwardingLaws.{resolved_hops-resolved}
use Rattle.rc_fib.proofs.laws.hops_by_depth.Goals as goal

pub returns : goal.returns
returns c = resolved_hops-resolved
