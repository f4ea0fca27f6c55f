use Rattle.std.proofs.Common.{◌≡◌, ◌∙◌, sym, subst, true, IfSome}
use Rattle.std.specs.List.{list_all}
use Rattle.rc_rounds.specs.AtAddress.{IsKnownAt}
use Rattle.rc_rounds.specs.declared.at_address.KnownAt.{KnownAt}
use Rattle.rc_failures.specs.AtAddress.{knows_plain}
use Rattle.rc_failures.proofs.AnalysisLaws.{analysed}
use Rattle.rc_failures.proofs.analysing.analysis_at.Goals as goal

pub arrives_over-requires-clause-state : goal.arrives_over-requires-clause-state
arrives_over-requires-clause-state g c =
    let is = subst (λ o. IfSome o (λ (k : KnownAt). IsKnownAt c.args.net.now c.args.packet.now.header.dst k.links k.state)) c.in-Some.is c.in_ok-found.ensures in
    is.in_order

pub arrives_over-requires-clause-links : goal.arrives_over-requires-clause-links
arrives_over-requires-clause-links g c =
    let is = subst (λ o. IfSome o (λ (k : KnownAt). IsKnownAt c.args.net.now c.args.packet.now.header.dst k.links k.state)) c.in-Some.is c.in_ok-found.ensures in
    is.own

pub returns : goal.returns
returns g c =
    let net = c.args.net.now in
    let packet = c.args.packet.now in
    let known = c.in-Some.known in
    let is = subst (λ o. IfSome o (λ (k : KnownAt). IsKnownAt net packet.header.dst k.links k.state)) c.in-Some.is c.in_ok-found.ensures in
    let plain : list_all knows_plain known.state ≡ true = sym c.know_plain.ensures ∙ c.if-not-know_plain.false in
    analysed net c.args.limit c.requires.two_rounds packet.place packet.header packet.ends known.links known.state is plain c.in_ok-arrives.arrives c.in_ok-arrives.ensures
