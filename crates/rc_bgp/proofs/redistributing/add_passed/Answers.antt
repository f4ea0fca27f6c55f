use Rattle.rc_bgp.specs.Redistributing.{redistributed}
use Rattle.rc_bgp.proofs.ListLaws.{one_made}
use Rattle.rc_bgp.proofs.redistributing.add_passed.Goals as goal

pub loop-route-preserved : goal.loop-route-preserved
loop-route-preserved c =
    one_made (redistributed c.args.router c.args.file.now c.args.source c.args.kinds.now c.args.prefixes.now c.args.line.now) c.args.routes.now c.loop-route.route-index c.route-item.result c.loop-route.paths c.push_some.new.paths _ c.in_ok-path.path
    c.loop-route-test.true c.route-item.is c.in_ok-path.ensures c.in_ok-push_some.ensures c.loop-route.invariant
