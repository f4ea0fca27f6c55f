use Rattle.std.proofs.Common.{◌≡◌, subst, IfSome, true}
use Rattle.std.proofs.lemmas.Result.{IfOk-weaker}
use Rattle.rc_rib.specs.Inputs.{IsEarlier}
use Rattle.rc_rib.specs.Next.{next_state}
use Rattle.rc_rib.specs.declared.inputs.Earlier.{Earlier}
use Rattle.rc_rib.proofs.AgainLaws.{settled}
use Rattle.rc_rib.proofs.settled.is_settled.Goals as goal

pub returns-in-Some : goal.returns-in-Some
returns-in-Some c =
    let inputs = c.args.inputs.now in
    let net = inputs.network.now in
    let internal = inputs.internal.now in
    let state = inputs.previous.now in
    let is = subst (λ o. IfSome o (λ (e : Earlier). IsEarlier net internal state e.state.now e.changes.now e.inside.now)) c.in-Some.is c.requires.earlier in
    IfOk-weaker _ _ (λ told. told ≡ true → next_state net internal state ≡ state)
    (λ told are yes. settled net internal inputs.sessions.now state c.in-Some.earlier.state.now c.requires.sessions is.made c.requires.state.as_long (are yes)) c.are_unchanged.ensures
