use Rattle.std.proofs.Common.{sym, subst, ◌∙◌, eqb-true, IfOk, IfErr}
use Rattle.rc_nodes.specs.Seats.{SeatView, SeatKnows, MayMake, IsCrowded}
use Rattle.rc_trees.specs.Trees.{Tree, node}
use Rattle.rc_bdd.proofs.WorkLaws.{same_sides, may_make, joined_result, full_result, differ}
use Rattle.rc_bdd.proofs.work.Work.branch.Goals as goal

pub returns-then-eq-clause-joined : goal.returns-then-eq-clause-joined
returns-then-eq-clause-joined g c = λ l h kl kh.
    same_sides c.args.self.now c.requires.seat.sound c.args.var c.args.low.index l h kl (subst (λ n. SeatKnows c.args.self.now n h) (sym (eqb-true c.args.low.index c.args.high.index (sym c.eq.ensures ∙ c.if-eq.true))) kh)

pub make-requires-clause-may : goal.make-requires-clause-may
make-requires-clause-may g c =
    subst (λ (s : SeatView). MayMake c.args.nodes.now s c.args.var c.args.low.index c.args.high.index) (sym c.self.view_is)
    (may_make c.args.nodes.now c.args.self.now c.requires.seat.sound c.args.var c.args.low.index c.args.high.index (differ c.args.low.index c.args.high.index c.eq.result c.eq.ensures c.if-eq.false) c.requires.may)

pub returns-clause-joined : goal.returns-clause-joined
returns-clause-joined g c =
    joined_result c.args.self.now c.make.new.seat c.requires.seat.sound c.args.var c.args.low.index c.args.high.index (differ c.args.low.index c.args.high.index c.eq.result c.eq.ensures c.if-eq.false) c.make.result
    (subst (λ (s : SeatView). IfOk c.make.result (λ r. (l h : Tree) → SeatKnows s c.args.low.index l → SeatKnows s c.args.high.index h → SeatKnows c.make.new.seat r.index (node c.args.var l h))) c.self.view_is c.make.ensures.made)

pub returns-clause-full : goal.returns-clause-full
returns-clause-full g c =
    full_result c.args.nodes.now c.args.self.now c.make.new.seat c.args.var c.args.low.index c.args.high.index c.requires.may c.make.result
    (subst (λ (s : SeatView). IfErr c.make.result (λ _. (l h : Tree) → SeatKnows s c.args.low.index l → SeatKnows s c.args.high.index h → IsCrowded c.args.nodes.now c.make.new.seat (node c.args.var l h))) c.self.view_is c.make.ensures.full)
