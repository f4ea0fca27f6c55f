use Rattle.std.proofs.Common.{◌≡◌, ◌∙◌, ap}
use Rattle.std.proofs.lemmas.Result.{IfOk-weaker}
use Rattle.rc_fib.specs.Forwarding.{resolved}
use Rattle.rc_rib.specs.Static.{active_lines, static_routes}
use Rattle.rc_rib.proofs.next.routes_from.Goals as goal

pub returns : goal.returns
returns c =
    let file = c.args.file.now in
    let fib = c.in_ok-fib.ensures.value ∙ ap resolved c.in_ok-table.ensures in
    let lines = c.as_slice.ensures.value ∙ c.in_ok-lines.ensures ∙ ap (λ old. active_lines c.args.router file.interfaces old file.static_routes) fib in
    IfOk-weaker _ _ (λ routes. routes ≡ static_routes (active_lines c.args.router file.interfaces (resolved c.args.old.now) file.static_routes)) (λ routes is. is ∙ ap static_routes lines) c.static_routes.ensures
