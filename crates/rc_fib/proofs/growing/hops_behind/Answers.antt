use Rattle.std.proofs.Common.{◌≡◌, ap, sym, ◌∙◌}
use Rattle.std.proofs.lemmas.Result.{IfOk-weaker}
use Rattle.rc_fib.specs.Entries.{is_settled}
use Rattle.rc_fib.specs.Forwarding.{resolve_all, resolved_hops}
use Rattle.rc_fib.proofs.LayerLaws.{settled_stay}
use Rattle.rc_fib.proofs.growing.hops_behind.Goals as goal

pub returns-then-is_settled : goal.returns-then-is_settled
returns-then-is_settled c =
    let f = resolved_hops c.args.fib.now in
    let hops = c.args.hops.now in
    IfOk-weaker _ _ (λ found. found ≡ resolve_all f hops)
    (λ found copied. copied ∙ settled_stay f hops (ap is_settled (sym c.as_slice.ensures) ∙ c.is_settled.ensures c.if-is_settled.true)) c.share.ensures
