use Rattle.std.proofs.Common.{◌≡◌, IfOk, [], ap, subst, ◌∙◌}
use Rattle.std.specs.BTreeSet.{keys}
use Rattle.rc_sets.specs.Regions.{hops_in}
use Rattle.rc_sets.proofs.StretchLaws.{by_stretches, put, stretch_hops}
use Rattle.rc_sets.proofs.table_hops.hops_in.Goals as goal

pub returns : goal.returns
returns c =
    let fib = c.args.fib.now in
    let stretches = c.stretches.result.now in
    let put_in : keys c.insert_stretches.new.set ≡ hops_in fib = c.in_ok-insert_stretches.ensures ∙ ap (λ ks. put ks (stretch_hops stretches)) c.new-set.ensures.empty ∙ by_stretches stretches 0 fib c.stretches.ensures [] in
    subst (λ ks. IfOk c.in_order.result (λ hops. hops ≡ ks)) put_in c.in_order.ensures
