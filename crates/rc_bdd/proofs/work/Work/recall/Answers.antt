use Rattle.std.proofs.Common.{sym, subst, arith}
use Rattle.rc_nodes.specs.Seats.{SeatView}
use Rattle.rc_bdd.specs.Work.{IsRight}
use Rattle.rc_bdd.specs.declared.memo.Noted.{Noted}
use Rattle.rc_bdd.proofs.WorkLaws.{recalled}
use Rattle.rc_bdd.proofs.work.Work.recall.Goals as goal

pub returns-then-place-len : goal.returns-then-place-len
returns-then-place-len g c =
    let note = c.index.result.now in
    let there = c.self.invariant c.args.place note (omega arith) in
    recalled c.args.self.now c.requires note c.args.operation c.args.left.index c.args.right.index
    (subst (λ (s : SeatView). IsRight s note) c.self.view_is (subst (λ (n : Noted). IsRight c.self.inside.seat n) (sym c.index.ensures) there)) c.result_of.result c.result_of.ensures
