use Rattle.std.proofs.Common.{rules, ◌≡◌, true, ◌++◌, [], ◌∷◌, filter, sym, subst}
use Rattle.rc_base.specs.Positions.{is_among}
use Rattle.rc_edges.proofs.AskedLaws.{is_asked}
use Rattle.rc_edges.proofs.MakingLaws.{on_done}
use Rattle.rc_edges.specs.Prepare.{end_trees}
use Rattle.rc_edges.specs.Stops.{AreKnown, sets_of}
use Rattle.rc_edges.proofs.asked_endings.add_ending.Goals as goal

pub returns-clause-stops : goal.returns-clause-stops
returns-clause-stops g c =
    let plane = c.args.site.now.plane.now in
    let q = c.args.site.now.position in
    let is : is_among c.args.ends c.args.kind ≡ true = search rules in
    on_done c.put_stop.result _ _ (λ e these done are. subst (λ ss. AreKnown c.end_set.new.work (sets_of these ss) (done ++ end_trees plane q (filter these (filter (is_among c.args.ends) (c.args.kind ∷ []))))) (sym e)
    (is_asked plane q c.args.ends these c.args.work.now c.end_set.new.work c.args.stops.now.items c.args.kind done are is c.in_ok-set.ensures.keeps c.in_ok-set.set c.in_ok-set.ensures.set)) c.put_stop.ensures.put
