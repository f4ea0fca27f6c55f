use Rattle.std.proofs.Common.{ap}
use Rattle.std.proofs.lemmas.Result.{IfOk-weaker}
use Rattle.rc_link_state.specs.Adjacency.{adjacencies}
use Rattle.rc_ospf.specs.Asked.{AnswerOver}
use Rattle.rc_ospf.specs.Internal.{steps_of}
use Rattle.rc_ospf.proofs.AskedLaws.{over_all}
use Rattle.rc_ospf.proofs.FitLaws.{all_fit}
use Rattle.rc_ospf.proofs.asked.walks.Goals as goal

pub to_all-requires-clause-fit : goal.to_all-requires-clause-fit
to_all-requires-clause-fit g c κs within = all_fit c.args.net.now _ _ c.len.ensures c.requires.interfaces

pub returns-in-None : goal.returns-in-None
returns-in-None g c =
    let net = c.args.net.now in
    let links = c.args.links.now in
    IfOk-weaker c.to_all.result _ (AnswerOver net (steps_of net links) c.args.asked.now)
    (λ walks of. over_all net links _ c.args.asked.now walks c.len.result c.len.ensures (ap (adjacencies links) c.requires.interfaces) of) c.to_all.ensures
