use Rattle.std.proofs.Common.{ap, sym, subst, ◌∙◌, ◌++◌, All, map}
use Rattle.std.proofs.lemmas.List.{take_all}
use Rattle.std.proofs.lemmas.List.Elements.{All-push}
use Rattle.rc_base.specs.Prefix.{IsCidr}
use Rattle.rc_route.specs.declared.route.Route.{Route}
use Rattle.rc_fib.proofs.GrowingLaws.{prefix_more}
use Rattle.rc_fib.proofs.growing.push_prefixes.Goals as goal

pub loop-route-preserved : goal.loop-route-preserved
loop-route-preserved c = record {
  value = prefix_more _ _ _ _ _ _ c.loop-route-test.true c.route-item.is c.loop-route.invariant.value c.in_ok-push.ensures.ok;
  canonical = λ h. subst (All IsCidr) (sym c.in_ok-push.ensures.ok) (All-push IsCidr c.loop-route.prefixes c.route-item.result.prefix (c.loop-route.invariant.canonical h) c.network-network.ensures.canonical);
}

pub returns-clause-value : goal.returns-clause-value
returns-clause-value c =
    c.loop-route.invariant.value ∙ ap (λ rs. c.args.prefixes.now ++ map (λ (r : Route). r.prefix) rs) (take_all c.loop-route.route-index c.args.run.now c.loop-route-test.false)
