use Rattle.std.proofs.Common.{◌≡◌, ◌∙◌, refl, sym, subst, IfSome}
use Rattle.std.proofs.lemmas.Result.{IfOk-weaker}
use Rattle.rc_bgp.specs.RouterStates.{paths_of, table_of}
use Rattle.rc_route.specs.Tables.{IsTable}
use Rattle.rc_rib.specs.Inputs.{IsEarlier}
use Rattle.rc_rib.specs.Next.{candidates, learned_routes, ospf_routes, table_after}
use Rattle.rc_rib.specs.declared.inputs.Earlier.{Earlier}
use Rattle.rc_rib.proofs.BestLaws.{best_is_table}
use Rattle.rc_rib.proofs.MendingLaws.{changes_give_next, paths_in_order}
use Rattle.rc_rib.proofs.mending.next_table.Goals as goal

pub returns-then-is_mendable-clause-value : goal.returns-then-is_mendable-clause-value
returns-then-is_mendable-clause-value c =
    let inputs = c.args.inputs.now in
    let net = inputs.network.now in
    let internal = inputs.internal.now in
    let state = inputs.previous.now in
    let r = c.args.router in
    let paths = c.args.paths.now in
    let is = subst (λ o. IfSome o (λ (e : Earlier). IsEarlier net internal state e.state.now e.changes.now e.inside.now)) c.in-Some.is c.requires.inputs.earlier in
    let next =
    changes_give_next net internal inputs.sessions.now r c.requires.router c.requires.inputs.sessions c.requires.inputs.routes state c.in-Some._earlier.state.now c.args.file.now inputs.externals.now is.made c.requires.file (c.is_mendable.ensures c.if-is_mendable.true)
    (paths_of state r) paths c.requires.paths refl (paths_in_order state r c.requires.inputs.state.each) c.args.changed.now c.requires.changed_in_order c.requires.changed in
    IfOk-weaker _ _ (λ t. t.0 ≡ table_after r c.args.file.now (learned_routes paths) (ospf_routes internal inputs.externals.now r) (table_of state r)) (λ t made. made ∙ next) c.mended_table.ensures.value

pub returns-then-is_mendable-clause-in_order : goal.returns-then-is_mendable-clause-in_order
returns-then-is_mendable-clause-in_order c =
    let inputs = c.args.inputs.now in
    let r = c.args.router in
    IfOk-weaker _ _ (λ t. IsTable t.0)
    (λ t is. subst IsTable (sym is) (best_is_table (candidates r c.args.file.now (learned_routes c.args.paths.now) (ospf_routes inputs.internal.now inputs.externals.now r) (table_of inputs.previous.now r)))) (returns-then-is_mendable-clause-value c)
