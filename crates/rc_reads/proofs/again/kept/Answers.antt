use Rattle.std.proofs.Common.{subst, IfSome}
use Rattle.rc_reads.proofs.StayedLaws.{once_more, some_weaker}
use Rattle.rc_reads.specs.Stayed.{HaveStayed}
use Rattle.rc_rib.specs.Inputs.{IsEarlier}
use Rattle.rc_rib.specs.declared.inputs.Earlier.{Earlier}
use Rattle.rc_reads.proofs.again.kept.Goals as goal

pub returns-in-Some : goal.returns-in-Some
returns-in-Some c =
    let i = c.args.inputs.now in
    let net = i.network.now in
    let state = i.previous.now in
    let stayed = c.args.stayed.now in
    let earlier = subst (λ o. IfSome o (λ (e : Earlier). IsEarlier net i.internal.now state e.state.now e.changes.now e.inside.now)) c.in-Some.is c.requires.inputs.earlier in
    let have = subst (λ o. IfSome o (λ (e : Earlier). HaveStayed net stayed e.state.now state)) c.in-Some.is c.requires.stayed in
    some_weaker _ _ c.unmoved.result
    (λ s both. (both.1, once_more net i.internal.now i.sessions.now c.args.router stayed c.in-Some._earlier.state.now state s.now c.requires.inputs.sessions c.requires.router have earlier.made both.0 both.1, both.0.itself)) c.unmoved.ensures
