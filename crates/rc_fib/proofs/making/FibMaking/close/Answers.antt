use Rattle.std.proofs.Common.{◌≡◌, ◌∙◌, ap, sym, subst, refl, List, true}
use Rattle.std.specs.List.{list_all}
use Rattle.rc_route.specs.declared.route.Hop.{Hop}
use Rattle.rc_fib.specs.Forwarding.{is_resolved, resolve_all, resolved_hops}
use Rattle.rc_fib.proofs.GrowingLaws.{on_done}
use Rattle.rc_fib.proofs.MakingLaws.{run_closed}
use Rattle.rc_fib.proofs.making.FibMaking.close.Goals as goal

pub returns-clause-routes : goal.returns-clause-routes
returns-clause-routes c =
    let self = c.args.self.now in
    let hops = c.in-Some.hops in
    let plain = subst (λ (xs : List Hop). c.is_plain_with-self.result ≡ true → (self.is_plain ≡ true) × (list_all is_resolved xs ≡ true)) c.as_slice.ensures c.is_plain_with-self.ensures in
    on_done c.push.result _ _ (λ put. run_closed self _ hops (record { end = c.len-end.result; hops = c.in_ok-hops.hops }) (sym c.replace.ensures.value ∙ c.in-Some.is) c.replace.ensures.after refl put
    c.len-end.ensures (c.in_ok-hops.ensures ∙ ap (λ f. resolve_all (resolved_hops f) hops) c.none.ensures) plain) c.push.ensures.ok
