use Rattle.std.proofs.Common.{sym, subst, rules}
use Rattle.rc_route.specs.Tables.{IsTable}
use Rattle.rc_bgp.proofs.KnownLaws.{nothing_in_order, table_in_order}
use Rattle.rc_bgp.proofs.router_state.table_of.Goals as goal

pub returns-in_default-clause-in_order : goal.returns-in_default-clause-in_order
returns-in_default-clause-in_order c = subst IsTable (sym c.none.ensures) nothing_in_order

pub returns-clause-in_order : goal.returns-clause-in_order
returns-clause-in_order c = table_in_order c.args.state.now c.args.router c.table.result c.requires (search rules)
