use Rattle.std.proofs.Common.{◌==◌, not, ap, sym, ◌∙◌}
use Rattle.rc_topology.specs.Order.{is_behind}
use Rattle.rc_topology.proofs.ListLaws.{find_and, find_none_and}
use Rattle.rc_topology.proofs.OrderLaws.{first_of_later, same_number}
use Rattle.rc_topology.proofs.sharing.next_of.Goals as goal

-- behind the last one there is none
pub returns-in-None : goal.returns-in-None
returns-in-None c = sym (find_none_and (is_behind c.args.last.now) (λ i. not (c.args.router == i.router)) c.args.interfaces.now (sym c.in-None.ensures))

-- the first there is of the router itself
pub returns-then-eq : goal.returns-then-eq
returns-then-eq c =
    c.first_past_router.ensures
    ∙ first_of_later c.args.last.now c.args.router c.args.interfaces.now c.in-Some.first c.requires (sym c.in-Some.ensures) (same_number c.args.router c.in-Some.first.router (sym c.eq.ensures ∙ c.if-eq.true))

-- the first there is of another router
pub returns-else-eq : goal.returns-else-eq
returns-else-eq c =
    sym (find_and (is_behind c.args.last.now) (λ i. not (c.args.router == i.router)) c.args.interfaces.now c.in-Some.first (sym c.in-Some.ensures) (ap not (sym c.eq.ensures ∙ c.if-eq.false)))
