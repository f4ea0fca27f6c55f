use Rattle.std.proofs.Common.{ap, sym, subst, Some}
use Rattle.std.specs.Prelude.{IfSome}
use Rattle.std.proofs.lemmas.Result.{IfOk-weaker}
use Rattle.rc_link_state.specs.Adjacency.{adjacencies}
use Rattle.rc_ospf.specs.Asked.{AreEndsAt, AnswerOver}
use Rattle.rc_ospf.specs.Internal.{steps_of}
use Rattle.rc_ospf.proofs.AskedLaws.{both_ok, over_all, over_ends}
use Rattle.rc_ospf.proofs.FitLaws.{all_fit}
use Rattle.rc_ospf.proofs.asked.walks_at.Goals as goal

pub to_ends-requires-clause-fit : goal.to_ends-requires-clause-fit
to_ends-requires-clause-fit g c κs within = all_fit c.args.net.now _ _ c.len-routers.ensures c.requires.interfaces

pub to_all-requires-clause-fit : goal.to_all-requires-clause-fit
to_all-requires-clause-fit g c κs within = all_fit c.args.net.now _ _ c.len-routers.ensures c.requires.interfaces

pub returns-in-Some : goal.returns-in-Some
returns-in-Some g c =
    let net = c.args.net.now in
    let links = c.args.links.now in
    let address = c.args.address in
    let at = subst (AreEndsAt net address) (sym c.as_slice-ends.ensures) (subst (λ o. IfSome o (AreEndsAt net address)) c.in-Some.is c.in_ok-found.ensures) in
    both_ok c.to_ends.result _ _ (AnswerOver net (steps_of net links) (Some address))
    (λ walks some to. over_ends net (steps_of net links) _ address c.as_slice-ends.result.now walks c.len-routers.result c.len-routers.ensures (ap (adjacencies links) c.requires.interfaces) at some to)
    c.to_ends.ensures.some c.to_ends.ensures.walks

pub returns-in-None : goal.returns-in-None
returns-in-None g c =
    let net = c.args.net.now in
    let links = c.args.links.now in
    IfOk-weaker c.to_all.result _ (AnswerOver net (steps_of net links) (Some c.args.address))
    (λ walks of. over_all net links _ (Some c.args.address) walks c.len-routers.result c.len-routers.ensures (ap (adjacencies links) c.requires.interfaces) of) c.to_all.ensures
