use Rattle.std.proofs.Common.{sym, subst, IfOk}
use Rattle.rc_nodes.specs.Seats.{SeatView, IsSeatOf, SeatKnows}
use Rattle.rc_trees.specs.Combine.{combined}
use Rattle.rc_trees.specs.Trees.{Tree}
use Rattle.rc_bdd.specs.Work.{MayCombine, truth}
use Rattle.rc_bdd.proofs.ErrorLaws.{room_is_cause}
use Rattle.rc_bdd.proofs.work.Work.operate.Goals as goal

pub combine_all-requires-clause-seat : goal.combine_all-requires-clause-seat
combine_all-requires-clause-seat g c = subst (λ (s : SeatView). IsSeatOf c.args.nodes.now s) (sym c.prepare.ensures) c.requires.seat

pub combine_all-requires-clause-may : goal.combine_all-requires-clause-may
combine_all-requires-clause-may g c = subst (λ (s : SeatView). MayCombine c.args.nodes.now s (combined (truth c.args.operation)) c.args.left.index c.args.right.index) (sym c.prepare.ensures) c.requires.may

pub returns-clause-keeps : goal.returns-clause-keeps
returns-clause-keeps g c = λ r t k. c.combine_all.ensures.keeps r t (subst (λ (s : SeatView). SeatKnows s r t) (sym c.prepare.ensures) k)

pub returns-clause-combined : goal.returns-clause-combined
returns-clause-combined g c =
    subst (λ (seat : SeatView). IfOk c.combine_all.result (λ r. (s t : Tree) → SeatKnows seat c.args.left.index s → SeatKnows seat c.args.right.index t → SeatKnows c.combine_all.new.self r.index (combined (truth c.args.operation) s t)))
    c.prepare.ensures c.combine_all.ensures.combined

pub returns-clause-cause : goal.returns-clause-cause
returns-clause-cause g c = room_is_cause c.args.nodes.now c.combine_all.new.self c.combine_all.result c.combine_all.ensures.room
