use Rattle.std.proofs.Common.{rules, ◌≡◌, sym, subst}
use Rattle.rc_topology.specs.Links.{on_prefix, port_is}
use Rattle.rc_topology.specs.Order.{AreInPositionOrder}
use Rattle.rc_topology.specs.Ports.{is_on}
use Rattle.rc_topology.proofs.InterfaceLaws.{some_in_order}
use Rattle.rc_topology.proofs.links.Links.on_prefix.Goals as goal

pub returns-clause-in_order : goal.returns-clause-in_order
returns-clause-in_order c =
    let value : c.members.result.now ≡ on_prefix c.args.self.now c.args.prefix.now = search rules in
    subst AreInPositionOrder (sym value) (some_in_order c.args.self.now (port_is c.args.self.now (is_on c.args.prefix.now)))
