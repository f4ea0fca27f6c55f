use Rattle.std.proofs.Common.{◌≡◌, ◌<◌, ◌++◌, ◌∷◌, [], length, sym, ◌∙◌, ap, arith}
use Rattle.rc_ospf.specs.Boundaries.{is_boundary}
use Rattle.rc_ospf_interfaces.proofs.RangeLaws.{passes_more, fails_more}
use Rattle.rc_ospf.proofs.boundary.boundary_routers.Goals.{then-is_boundary+in_ok-push, else-is_boundary}
use Rattle.rc_ospf.proofs.boundary.boundary_routers.Goals as goal

pub loop-index-preserved : goal.loop-index-preserved
loop-index-preserved c =
    let p = is_boundary c.args.net.now in
    let i = c.loop-index.index in
    let n = length c.args.net.now.routers in
    let lt : i < n = omega (arith, c.loop-index-test.true, c.loop-index.auto.index-end, c.len-index-end.ensures) in
    let here : c.is_boundary.result ≡ is_boundary c.args.net.now i = c.is_boundary.ensures ∙ ap (is_boundary c.args.net.now) c.at-router.ensures in
    elim c.if-is_boundary.branch [
      | then-is_boundary+in_ok-push w ↦ passes_more p c.loop-index.found c.if-is_boundary.found _ i n lt c.loop-index.invariant (sym here ∙ w.if-is_boundary.true) (w.found-is ∙ w.in_ok-push.ensures.ok ∙ ap (λ r. c.loop-index.found ++ r ∷ []) c.at-router.ensures)
      | else-is_boundary w ↦ fails_more p c.loop-index.found c.if-is_boundary.found _ i n lt c.loop-index.invariant (sym here ∙ w.if-is_boundary.false) w.found-is
    ]
