use Rattle.std.proofs.Common.{◌≡◌, subst, List, IfSome}
use Rattle.std.proofs.lemmas.Result.{IfOk-weaker}
use Rattle.rc_fib.specs.Forwarding.{resolved}
use Rattle.rc_fib.specs.Making.{IsMadeOf}
use Rattle.rc_route.specs.Tables.{IsTable}
use Rattle.rc_route.specs.declared.route.Route.{Route}
use Rattle.rc_alone.specs.Laying.{IsLaidAs}
use Rattle.rc_alone.proofs.LayingLaws.{AreLeft, of_tables, one_left_less, whole_table}
use Rattle.rc_alone.proofs.laying.Laying.finish.Goals as goal

pub loop-route-preserved : goal.loop-route-preserved
loop-route-preserved c table at_first =
    one_left_less table c.in-Some.route c.take_first.new.left.items c.loop-route.made c.push.new.self c.in_ok-push.ensures (subst (λ left. AreLeft table left c.loop-route.made) c.in-Some.ensures (c.loop-route.invariant table at_first))

pub finish-requires : goal.finish-requires
finish-requires c =
    let (table, laid) = c.requires in
    let (up, made) = whole_table c.args.self c.loop-route.left.items c.loop-route.made c.in_default.ensures c.loop-route.invariant table laid in
    (table, up, made)

pub returns-clause-value : goal.returns-clause-value
returns-clause-value c =
    IfOk-weaker c.finish.result _ (λ made. IfSome made (λ fib. (table : List Route) → IsLaidAs table c.args.self → fib ≡ resolved table))
    (λ made are. of_tables made (λ table. IsTable table) (λ table. IsMadeOf table c.loop-route.made) (λ table. IsLaidAs table c.args.self)
    (λ table laid. whole_table c.args.self c.loop-route.left.items c.loop-route.made c.in_default.ensures c.loop-route.invariant table laid) are) c.finish.ensures.value
