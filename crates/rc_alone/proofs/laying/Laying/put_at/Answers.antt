use Rattle.std.proofs.Common.{◌∙◌, sym}
use Rattle.rc_alone.specs.Laying.{ospf_route}
use Rattle.rc_alone.proofs.LayingLaws.{on_done, put_front, put_over, put_past}
use Rattle.rc_alone.proofs.laying.Laying.put_at.Goals as goal

pub returns-in_default : goal.returns-in_default
returns-in_default c =
    on_done c.push.result _ _ (λ pushes metric.
    put_past c.args.self.now _ (ospf_route c.args.prefix c.args.source metric c.args.hops.now) c.requires c.in_default.ensures.0 c.in_default.ensures.1 pushes) c.push.ensures

pub returns-then-is_preferred : goal.returns-then-is_preferred
returns-then-is_preferred c =
    on_done c.push-then-is_preferred.result _ _ (λ pushes metric.
    put_over c.args.self.now _ (ospf_route c.args.prefix c.args.source metric c.args.hops.now) c.in-Some.route c.in-Some.ensures.0 c.in-Some.ensures.1 (sym c.is_preferred.ensures ∙ c.if-is_preferred.true) pushes) c.push-then-is_preferred.ensures

pub returns : goal.returns
returns c =
    on_done c.push-2.result _ _ (λ pushes metric.
    put_front c.args.self.now _ (ospf_route c.args.prefix c.args.source metric c.args.hops.now) c.in-Some.route c.in-Some.ensures.0 c.in-Some.ensures.1 (sym c.is_preferred.ensures ∙ c.if-is_preferred.false) pushes) c.push-2.ensures
