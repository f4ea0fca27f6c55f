use Rattle.std.proofs.Common.{subst, IfSome}
use Rattle.rc_rib.specs.Inputs.{IsEarlier}
use Rattle.rc_rib.specs.declared.inputs.Earlier.{Earlier}
use Rattle.rc_rib.proofs.AgainLaws.{known_paths}
use Rattle.rc_rib.proofs.next.paths_after.Goals as goal

pub renewed_paths-requires-clause-known : goal.renewed_paths-requires-clause-known
renewed_paths-requires-clause-known c =
    let inputs = c.args.inputs.now in
    let net = inputs.network.now in
    let internal = inputs.internal.now in
    let state = inputs.previous.now in
    let is = subst (λ o. IfSome o (λ (e : Earlier). IsEarlier net internal state e.state.now e.changes.now e.inside.now)) c.in-Some.is c.requires.inputs.earlier in
    known_paths net internal inputs.sessions.now c.args.router c.requires.router c.requires.inputs.sessions state c.in-Some.earlier.state.now is.made
