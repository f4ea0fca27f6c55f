use Rattle.std.proofs.Common.{ap, refl, Some}
use Rattle.rc_fib.proofs.GrowingLaws.{on_done}
use Rattle.rc_fib.proofs.MakingLaws.{one_begun}
use Rattle.rc_fib.proofs.making.FibMaking.begin.Goals as goal

pub returns : goal.returns
returns c =
    on_done c.push_prefix.result _ _ (λ put routes r made is_prefix has.
    one_begun c.close.new.self _ c.args.prefix c.args.hops.now c.in_ok-close.ensures.none (ap Some c.in_ok-share.ensures) put.0 put.1 refl refl routes r (c.in_ok-close.ensures.routes routes made) is_prefix has) c.push_prefix.ensures
