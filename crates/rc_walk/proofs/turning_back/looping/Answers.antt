use Rattle.std.proofs.Common.{List, sym, subst, ◌∙◌}
use Rattle.rc_base.specs.declared.position.Pos.{Pos}
use Rattle.rc_moves.specs.declared.walk.Stop.TheVariants.{Loop}
use Rattle.rc_walk.specs.Loops.{IsShortestLoop}
use Rattle.rc_walk.proofs.AllLaws.{reaches_all}
use Rattle.rc_walk.proofs.LassoLaws.{first_of_lassos, no_lasso}
use Rattle.rc_walk.proofs.turning_back.looping.Goals as goal

pub returns-in_default : goal.returns-in_default
returns-in_default c =
    let none = rw c.in_default.is at c.in_ok-best.ensures in
    no_lasso c.args.plane.now c.args.header.now c.args.position (λ others l. none.none others l (reaches_all c.in_ok-all.ensures l.path l.turn l.out))

pub returns : goal.returns
returns c =
    let plane = c.args.plane.now in
    let h = c.args.header.now in
    let best = rw c.in-Some.is at c.in_ok-best.ensures in
    let loop = first_of_lassos plane h c.args.position best.steps c.in-Some.way.choices.items best.round (λ others l. best.first others l (reaches_all c.in_ok-all.ensures l.path l.turn l.out)) in
    subst (λ (ps : List Pos). IsShortestLoop plane h c.args.position (record { positions = ps; stop = Loop })) (sym (c.from_vec.ensures ∙ best.positions)) loop
