use Rattle.std.proofs.Common.{List, sym, subst, ◌∙◌}
use Rattle.rc_base.specs.declared.position.Pos.{Pos}
use Rattle.rc_moves.specs.declared.walk.Stop.TheVariants.{At}
use Rattle.rc_walk.specs.ShortestWalks.{IsShortestWalk}
use Rattle.rc_walk.proofs.ShortestLaws.{found_walk, none_found}
use Rattle.rc_walk.proofs.finding.shortest.Goals as goal

pub returns-in_default : goal.returns-in_default
returns-in_default c = none_found c.args.plane.now c.args.header.now c.args.ends c.args.position (rw c.in_default.is at c.in_ok-search.ensures)

pub returns : goal.returns
returns c =
    let end = rw c.in-Some.is at c.in_ok-search.ensures in
    let last = rw c.in-End.is at end in
    let (back, choices, ways, items, chosen) = c.in_ok-positions.ensures in
    let walk = found_walk c.args.plane.now c.args.header.now c.args.ends c.args.position c.in-End.kind last back choices ways in
    subst (λ (ps : List Pos). IsShortestWalk c.args.plane.now c.args.header.now c.args.ends c.args.position (record { positions = ps; stop = At c.in-End.kind })) (sym (c.from_vec.ensures ∙ items)) walk
