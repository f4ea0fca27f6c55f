use Rattle.std.proofs.Common.{ap, sym, ◌∙◌}
use Rattle.rc_topology.proofs.OrderLaws.{is_of, some_of_router}
use Rattle.rc_topology.proofs.order.some_of_router.Goals as goal

pub returns-in-Some : goal.returns-in-Some
returns-in-Some c = c.eq.ensures ∙ ap (is_of c.args.router) c.in-Some.ensures ∙ sym (some_of_router c.args.router c.args.interfaces.now c.requires)

pub returns-in-None : goal.returns-in-None
returns-in-None c = ap (is_of c.args.router) c.in-None.ensures ∙ sym (some_of_router c.args.router c.args.interfaces.now c.requires)
