use Rattle.std.proofs.Common.{sym, ◌∙◌, ap}
use Rattle.std.specs.Option.{option_copied}
use Rattle.rc_link_state.proofs.InsideLaws.{over_none, over_some}
use Rattle.rc_link_state.proofs.table.AreaWalks.add_hops_over.Goals as goal

pub returns-in-None : goal.returns-in-None
returns-in-None c = over_none c.args.self.now c.args.from c.args.column.now c.args.cost c.args.number c.args.hops.now (sym c.network_at-network.ensures ∙ ap option_copied c.in-None.is)

pub returns-in-Some : goal.returns-in-Some
returns-in-Some c =
    over_some c.args.self.now c.args.from c.args.column.now c.args.cost c.args.number c.args.hops.now c.in-Some.network.now c.at-left.result c.add_hops_left.new.hops c.add_hops_left.result
    (sym c.network_at-network.ensures ∙ ap option_copied c.in-Some.is) c.at-left.ensures c.add_hops_left.ensures
