use Rattle.std.proofs.Common.{Ok, subst, flat_map, arith}
use Rattle.rc_config.specs.Members.{router_ids}
use Rattle.rc_outside.specs.Put.{IsPut}
use Rattle.rc_outside.proofs.PutLaws.{each_put, each_stopped}
use Rattle.rc_report.specs.declared.put.SinkFault.{SinkFault}
use Rattle.rc_report.specs.StateText.{routes_in, all_routes}
use Rattle.rc_report.proofs.StateLaws.{within, at_index, all_taken}
use Rattle.rc_report.proofs.tables.put_all_routes.Goals as goal

pub returns-in_err-put_routes_at : goal.returns-in_err-put_routes_at
unfolding all_routes
returns-in_err-put_routes_at g c =
    let net = c.args.net.now in
    let r = c.loop-index.index in
    each_stopped (routes_in net c.args.state.now) (router_ids net) r r c.from_residual.ensures.0 (within net r (omega arith)) (at_index net r (omega arith)) c.loop-index.invariant c.in_err-put_routes_at.ensures

pub loop-index-preserved : goal.loop-index-preserved
loop-index-preserved g c =
    let net = c.args.net.now in
    let r = c.loop-index.index in
    each_put (routes_in net c.args.state.now) (router_ids net) r r (within net r (omega arith)) (at_index net r (omega arith)) c.loop-index.invariant c.in_ok-put_routes_at.ensures

pub returns : goal.returns
unfolding all_routes
returns g c =
    let net = c.args.net.now in
    subst (λ ids. IsPut g.S.Sink {E = SinkFault} c.args.out.now c.loop-index.out (Ok tt) (flat_map (routes_in net c.args.state.now) ids)) (all_taken net c.loop-index.index (omega arith)) c.loop-index.invariant
