use Rattle.std.proofs.Common.{refl}
use Rattle.rc_fib.proofs.GrowingLaws.{on_done}
use Rattle.rc_fib.proofs.MakingLaws.{one_again}
use Rattle.rc_fib.proofs.making.FibMaking.push.Goals as goal

pub returns-then-are : goal.returns-then-are
returns-then-are c =
    on_done c.push_prefix.result _ _ (λ put. one_again c.args.self.now _ c.args.prefix c.args.hops.now (c.are.ensures c.if-are.true) refl put.0 put.1 refl refl) c.push_prefix.ensures
