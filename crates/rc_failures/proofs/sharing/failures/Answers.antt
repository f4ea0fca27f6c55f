use Rattle.std.proofs.Common.{◌≡◌, ◌∙◌, ap, subst, arith}
use Rattle.std.proofs.lemmas.Result.{IfOk-weaker}
use Rattle.rc_shares.specs.Making.{AreMade}
use Rattle.rc_topology.specs.Links.{pairs}
use Rattle.rc_topology.specs.Ports.{links_of}
use Rattle.rc_failures.specs.Failures.{IsFailRow}
use Rattle.rc_failures.proofs.RowLaws.{rows_of_shares}
use Rattle.rc_failures.proofs.sharing.failures.Goals as goal

pub returns : goal.returns
returns g c =
    let a = c.args in
    let all = c.as_slice.result.now in
    let are : all ≡ pairs (links_of a.net.now) = c.as_slice.ensures ∙ c.in_ok-pairs.ensures ∙ ap pairs c.in_ok-links.ensures in
    let made = rows_of_shares a.net.now a.limit (record { place = a.place; header = a.header.now; ends = a.ends }) all a.workers (omega arith) in
    IfOk-weaker c.rows_at_once-passed.result.1 _ _ (λ rows is. subst (λ ps. AreMade (IsFailRow a.net.now a.limit a.place a.header.now a.ends) ps rows) are (made rows is)) c.rows_at_once-passed.ensures.rows
