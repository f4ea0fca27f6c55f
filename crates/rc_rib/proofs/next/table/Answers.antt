use Rattle.std.proofs.Common.{◌≡◌, ◌∙◌, ap, sym, subst, IfSome}
use Rattle.std.proofs.lemmas.Result.{IfOk-weaker}
use Rattle.rc_bgp.specs.Changes.{CoversChange}
use Rattle.rc_bgp.specs.RouterStates.{paths_of}
use Rattle.rc_route.specs.Tables.{IsRouterState}
use Rattle.rc_route.specs.declared.state.RouterState.{RouterState}
use Rattle.rc_rib.specs.Inputs.{IsEarlier}
use Rattle.rc_rib.specs.Next.{next_router}
use Rattle.rc_rib.specs.declared.inputs.Earlier.{Earlier}
use Rattle.rc_rib.specs.declared.made.Made.{Made}
use Rattle.rc_rib.proofs.AgainLaws.{again, known_in_order, nothing_changed}
use Rattle.rc_rib.proofs.next.table.Goals as goal

pub returns-in-Some-known-clause-next : goal.returns-in-Some-known-clause-next
returns-in-Some-known-clause-next c =
    let inputs = c.args.inputs.now in
    let net = inputs.network.now in
    let internal = inputs.internal.now in
    let state = inputs.previous.now in
    let is = subst (λ o. IfSome o (λ (e : Earlier). IsEarlier net internal state e.state.now e.changes.now e.inside.now)) c.in-Some.is c.requires.inputs.earlier in
    let same = again net internal inputs.sessions.now c.args.router c.requires.router c.requires.inputs.sessions state c.in-Some.earlier.state.now c.in-Some-known.known.now is.made c.in-Some-known.ensures.1 (c.in_ok-is_unchanged-in-Some.ensures c.in-Some-known.ensures.0) in
    IfOk-weaker _ _ (λ (m : Made). m.state ≡ next_router net internal state c.args.router) (λ m copied. copied ∙ same) c.again.ensures.state

pub returns-in-Some-known-clause-in_order : goal.returns-in-Some-known-clause-in_order
returns-in-Some-known-clause-in_order c =
    let known = c.in-Some-known.ensures in
    let ordered = known_in_order c.args.inputs.now.previous.now c.args.router c.in-Some-known.known.now c.requires.inputs.state.each known.1 in
    IfOk-weaker _ _ (λ (m : Made). IsRouterState m.state) (λ m copied. subst IsRouterState (sym copied) ordered) c.again.ensures.state

pub returns-in-Some-known-clause-changed : goal.returns-in-Some-known-clause-changed
returns-in-Some-known-clause-changed c =
    let state = c.args.inputs.now.previous.now in
    IfOk-weaker _ _ (λ (m : Made). CoversChange m.changed (paths_of state c.args.router) m.state.paths)
    (λ m copied. nothing_changed state c.args.router c.in-Some-known.known.now m.state.paths m.changed c.in-Some-known.ensures.1 (ap (λ (s : RouterState). s.paths) copied)) c.again.ensures.state
