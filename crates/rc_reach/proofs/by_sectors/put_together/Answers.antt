use Rattle.std.proofs.Common.{ap, length, subst, sym, ◌≡◌, Bool, List}
use Rattle.std.proofs.lemmas.Result.{IfOk-at_ok}
use Rattle.rc_nodes.specs.Seats.{SeatKnows, SeatView}
use Rattle.rc_nodes.specs.declared.words.Ref.{Ref}
use Rattle.rc_reach.specs.Sectored.{Sectored, answer_in}
use Rattle.rc_reach.proofs.SectoredLaws.{answer_reduced, are_within_sectors, may_put_together}
use Rattle.rc_router_sets.specs.Query.{reaching}
use Rattle.rc_sectors.specs.Cuts.{AreWithin, MayPutTogether}
use Rattle.rc_spread.specs.Known.{KnowsShare}
use Rattle.rc_trees.specs.Recipes.{tree}
use Rattle.rc_reach.proofs.by_sectors.put_together.Goals as goal

pub whole-made-requires-clause-may : goal.whole-made-requires-clause-may
whole-made-requires-clause-may g c =
    let asked = c.args.asked.now in
    let nodes = c.args.nodes.now in
    let known : KnowsShare c.args.seat c.in-Ok.sets.items (answer_in asked) 0 (length asked.sectors) = IfOk-at_ok (λ v. KnowsShare c.args.seat v.items (answer_in asked) 0 (length asked.sectors)) c.in-Ok.is c.requires.sets in
    let may : MayPutTogether nodes c.args.seat asked.sectors c.in-Ok.sets.items = may_put_together nodes c.args.seat asked c.in-Ok.sets.items c.requires.ready known c.requires.cut in
    let sectors : c.asked.inside.sectors.now ≡ asked.sectors = ap (λ (s : Sectored). s.sectors) c.asked.view_is in
    subst (λ (s : SeatView). MayPutTogether nodes s c.asked.inside.sectors.now c.as_slice.result.now) (sym c.new-work.ensures)
    (subst (λ (ss : List (List Bool)). MayPutTogether nodes c.args.seat ss c.as_slice.result.now) (sym sectors)
    (subst (λ (rs : List Ref). MayPutTogether nodes c.args.seat asked.sectors rs) (sym c.as_slice.ensures.value) may))

pub returns-in-Ok-made-clause-set : goal.returns-in-Ok-made-clause-set
returns-in-Ok-made-clause-set g c =
    let asked = c.args.asked.now in
    let nodes = c.args.nodes.now in
    let known : KnowsShare c.args.seat c.in-Ok.sets.items (answer_in asked) 0 (length asked.sectors) = IfOk-at_ok (λ v. KnowsShare c.args.seat v.items (answer_in asked) 0 (length asked.sectors)) c.in-Ok.is c.requires.sets in
    let sectors : c.asked.inside.sectors.now ≡ asked.sectors = ap (λ (s : Sectored). s.sectors) c.asked.view_is in
    let are : AreWithin c.args.seat asked.sectors c.in-Ok.sets.items (tree (reaching asked.plane asked.place asked.ends)) = are_within_sectors nodes c.args.seat asked c.in-Ok.sets.items c.requires.ready known in
    let there : AreWithin c.new-work.result c.asked.inside.sectors.now c.as_slice.result.now (tree (reaching asked.plane asked.place asked.ends)) =
    subst (λ (s : SeatView). AreWithin s c.asked.inside.sectors.now c.as_slice.result.now (tree (reaching asked.plane asked.place asked.ends))) (sym c.new-work.ensures)
    (subst (λ (ss : List (List Bool)). AreWithin c.args.seat ss c.as_slice.result.now (tree (reaching asked.plane asked.place asked.ends))) (sym sectors)
    (subst (λ (rs : List Ref). AreWithin c.args.seat asked.sectors rs (tree (reaching asked.plane asked.place asked.ends))) (sym c.as_slice.ensures.value) are)) in
    subst (λ (s : SeatView). SeatKnows s c.in-Ok-made.set.index (tree (reaching asked.plane asked.place asked.ends))) (sym c.into_seat-seat.ensures)
    (c.in-Ok-made.ensures.set (tree (reaching asked.plane asked.place asked.ends)) (answer_reduced nodes c.args.seat asked c.in-Ok.sets.items c.requires.ready known) there)
