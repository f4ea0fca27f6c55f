use Rattle.std.proofs.Common.{sym, subst, rules}
use Rattle.rc_route.specs.Tables.{IsTable}
use Rattle.rc_rib.proofs.MendingLaws.{table_in_order}
use Rattle.rc_rib.proofs.OrderLaws.{none_is_table}
use Rattle.rc_rib.proofs.mending.known_table.Goals as goal

pub returns-in_default-clause-in_order : goal.returns-in_default-clause-in_order
returns-in_default-clause-in_order c = subst IsTable (sym c.none.ensures) none_is_table

pub returns-clause-in_order : goal.returns-clause-in_order
returns-clause-in_order c = subst IsTable (sym (search rules)) (table_in_order c.args.inputs.now.previous.now c.args.router c.requires.state.each)
