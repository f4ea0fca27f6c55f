use Rattle.std.proofs.Common.{ap, ◌∙◌, ◌++◌, map}
use Rattle.rc_base.specs.Prefix.{prefix_at}
use Rattle.rc_router_sets.specs.Made.{hosts_by_port}
use Rattle.rc_router_sets.proofs.PieceLaws.{hosts_more}
use Rattle.rc_topology.specs.declared.port.PortAddr.{PortAddr}
use Rattle.rc_router_sets.proofs.destinations.router_hosts.Goals as goal

pub loop-port-preserved : goal.loop-port-preserved
loop-port-preserved c =
    c.in_ok-push_hosts.ensures
    ∙ ap (λ xs. c.loop-port.hosts.items ++ map (λ (a : PortAddr). prefix_at a.addr 32) xs) c.as_slice.ensures
    ∙ ap (λ xs. xs ++ hosts_by_port c.port-item.result) c.loop-port.invariant
    ∙ hosts_more c.args.ports.now c.loop-port.port-index c.port-item.result c.port-item.is c.loop-port-test.true
