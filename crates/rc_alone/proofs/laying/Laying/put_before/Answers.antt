use Rattle.std.proofs.Common.{refl, ap, ◌∙◌}
use Rattle.rc_base.specs.Prefix.{prefix_cmp}
use Rattle.rc_alone.proofs.LayingLaws.{none_more, one_before_more}
use Rattle.rc_alone.proofs.laying.Laying.put_before.Goals as goal

pub loop-route-preserved : goal.loop-route-preserved
loop-route-preserved c r is =
    one_before_more c.args.self.now c.loop-route.self _ r c.in-Some.route (c.loop-route.invariant r is) (ap (prefix_cmp c.in-Some.route.prefix) is ∙ c.in-Some.ensures.0) c.in-Some.ensures.1 c.in_ok-push.ensures

pub returns-clause-whole : goal.returns-clause-whole
returns-clause-whole c r is = none_more c.args.self.now c.loop-route.self _ r (c.loop-route.invariant r is) c.in_default.ensures.1 refl
