use Rattle.std.proofs.Common.{ap, sym, ◌∙◌}
use Rattle.std.specs.List.{find}
use Rattle.rc_topology.specs.Order.{is_behind}
use Rattle.rc_topology.proofs.OrderLaws.{first_of_all}
use Rattle.rc_topology.proofs.order.first_behind.Goals as goal

pub returns-in-None : goal.returns-in-None
returns-in-None c = c.at.ensures ∙ first_of_all c.args.interfaces.now ∙ ap (λ last. find (is_behind last) c.args.interfaces.now) (sym c.in-None.is)
