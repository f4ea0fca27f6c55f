use Rattle.std.proofs.Common.{◌≡◌, List, true, subst}
use Rattle.std.specs.List.{list_all}
use Rattle.rc_route.specs.declared.route.Hop.{Hop}
use Rattle.rc_fib.specs.Forwarding.{is_resolved}
use Rattle.rc_fib.proofs.GrowingLaws.{on_done, run_pushed}
use Rattle.rc_fib.proofs.growing.push_run.Goals as goal

pub returns : goal.returns
returns c =
    let plain = subst (λ (hops : List Hop). c.is_plain_with-made.result ≡ true → (c.args.made.now.is_plain ≡ true) × (list_all is_resolved hops ≡ true)) c.as_slice.ensures c.is_plain_with-made.ensures in
    on_done c.push.result _ _ (λ put before layer.
    run_pushed c.args.fib.now c.args.hops.now c.args.run.now c.requires.some c.requires.alike _ _ (record { end = c.len-end.result; hops = c.in_ok-hops.hops }) c.in_ok-hops.ensures c.len-end.ensures
    c.in_ok-push_prefixes.ensures.value c.in_ok-push_prefixes.ensures.canonical put plain before layer) c.push.ensures.ok
