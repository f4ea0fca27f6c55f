use Rattle.std.proofs.Common.{rules, ◌≡◌, ◌∙◌, ap}
use Rattle.std.proofs.lemmas.Result.{IfOk-weaker}
use Rattle.rc_ospf_interfaces.specs.Interfaces.{interfaces_at}
use Rattle.rc_bgp.specs.Redistributing.{prefixes_among}
use Rattle.rc_bgp.proofs.InterfaceLaws.{own_alone}
use Rattle.rc_bgp.proofs.redistributing.ospf_prefixes.Goals as goal

pub returns : goal.returns
returns c =
    let net = c.args.net.now in
    let own : c.as_slice.result.now ≡ interfaces_at net c.args.router = search rules in
    IfOk-weaker c.prefixes_among.result _ _ (λ all is. own_alone net c.args.router all (is ∙ ap (prefixes_among net c.args.router) own)) c.prefixes_among.ensures
