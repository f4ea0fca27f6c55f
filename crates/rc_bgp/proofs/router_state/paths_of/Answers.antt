use Rattle.std.proofs.Common.{sym, subst, rules}
use Rattle.rc_route.specs.Tables.{IsBestList}
use Rattle.rc_bgp.proofs.KnownLaws.{nothing_in_order, paths_in_order}
use Rattle.rc_bgp.proofs.router_state.paths_of.Goals as goal

pub returns-in_default-clause-in_order : goal.returns-in_default-clause-in_order
returns-in_default-clause-in_order c = subst IsBestList (sym c.none.ensures) nothing_in_order

pub returns-clause-in_order : goal.returns-clause-in_order
returns-clause-in_order c = paths_in_order c.args.state.now c.args.router c.paths.result c.requires (search rules)
