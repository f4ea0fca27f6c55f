use Rattle.std.proofs.Common.{sym, subst}
use Rattle.rc_link_state.specs.Columns.{AreSmall}
use Rattle.rc_link_state.proofs.InwardLaws.{short_walks, small_costs, made_of_parts}
use Rattle.rc_link_state.proofs.columns.Inward.column.Goals as goal

pub costs_by-requires-clause-short : goal.costs_by-requires-clause-short
costs_by-requires-clause-short c = short_walks c.args.self.now c.requires.ready

pub parted-requires-clause-small : goal.parted-requires-clause-small
parted-requires-clause-small c = subst AreSmall (sym c.deref.ensures.value) (small_costs c.args.self.now c.in_ok-costs.costs.items c.requires.ready c.in_ok-costs.ensures.small)

pub returns : goal.returns
returns c =
    made_of_parts c.args.self.now c.args.router c.in_ok-costs.costs.items c.deref.result.now c.deref.ensures.value
    (subst AreSmall (sym c.deref.ensures.value) (small_costs c.args.self.now c.in_ok-costs.costs.items c.requires.ready c.in_ok-costs.ensures.small))
    c.in_ok-costs.ensures.cost c.parted.result c.parted.ensures.costs c.parted.ensures.left
