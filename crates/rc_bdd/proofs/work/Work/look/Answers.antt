use Rattle.std.proofs.Common.{sym, subst}
use Rattle.rc_nodes.specs.Seats.{SeatView, SeatKnows}
use Rattle.rc_bdd.proofs.WorkLaws.{looked_constant, looked_node}
use Rattle.rc_bdd.proofs.work.Work.look.Goals as goal

pub returns-then-r-lt2-clause-looked : goal.returns-then-r-lt2-clause-looked
returns-then-r-lt2-clause-looked g c = looked_constant c.args.self.now c.requires.seat.sound c.args.r.index c.if-r-lt2.true

pub returns-clause-looked : goal.returns-clause-looked
returns-clause-looked g c = λ t k.
    looked_node c.self.inside.seat c.open.new.seat c.args.r.index c.open.result c.if-r-lt2.false c.open.ensures.node t (subst (λ (s : SeatView). SeatKnows s c.args.r.index t) (sym c.self.view_is) k)
