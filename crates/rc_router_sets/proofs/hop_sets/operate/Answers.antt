use Rattle.std.proofs.Common.{sym, subst, IfOk}
use Rattle.rc_bdd.specs.Work.{MayCombine}
use Rattle.rc_router_sets.specs.Steps.{operation}
use Rattle.rc_nodes.specs.Seats.{SeatKnows}
use Rattle.rc_nodes.specs.declared.words.Ref.{Ref}
use Rattle.rc_trees.specs.Trees.{Tree}
use Rattle.rc_router_sets.proofs.hop_sets.operate.Goals as goal

pub minus-requires-clause-may : goal.minus-requires-clause-may
minus-requires-clause-may g c = subst (λ b. MayCombine c.args.nodes.now c.args.work.now (operation b) c.args.left.index c.args.right.index) c.if-takes_away.true c.requires.may

pub and-requires-clause-may : goal.and-requires-clause-may
and-requires-clause-may g c = subst (λ b. MayCombine c.args.nodes.now c.args.work.now (operation b) c.args.left.index c.args.right.index) c.if-takes_away.false c.requires.may

pub returns-then-takes_away-clause-set : goal.returns-then-takes_away-clause-set
returns-then-takes_away-clause-set g c =
    subst (λ b. IfOk c.minus.result (λ (r : Ref). (s t : Tree) → SeatKnows c.args.work.now c.args.left.index s → SeatKnows c.args.work.now c.args.right.index t → SeatKnows c.minus.new.self r.index (operation b s t)))
    (sym c.if-takes_away.true) c.minus.ensures.minus

pub returns-clause-set : goal.returns-clause-set
returns-clause-set g c =
    subst (λ b. IfOk c.and.result (λ (r : Ref). (s t : Tree) → SeatKnows c.args.work.now c.args.left.index s → SeatKnows c.args.work.now c.args.right.index t → SeatKnows c.and.new.self r.index (operation b s t)))
    (sym c.if-takes_away.false) c.and.ensures.and
