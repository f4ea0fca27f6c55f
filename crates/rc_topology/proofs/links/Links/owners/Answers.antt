use Rattle.std.proofs.Common.{rules, ◌≡◌, sym, subst}
use Rattle.rc_topology.specs.Links.{owners, port_is}
use Rattle.rc_topology.specs.Order.{AreInPositionOrder}
use Rattle.rc_topology.specs.Ports.{owns}
use Rattle.rc_topology.proofs.InterfaceLaws.{some_in_order}
use Rattle.rc_topology.proofs.links.Links.owners.Goals as goal

pub returns-clause-in_order : goal.returns-clause-in_order
returns-clause-in_order c =
    let value : c.members.result.now ≡ owners c.args.self.now c.args.addr = search rules in
    subst AreInPositionOrder (sym value) (some_in_order c.args.self.now (port_is c.args.self.now (owns c.args.addr)))
