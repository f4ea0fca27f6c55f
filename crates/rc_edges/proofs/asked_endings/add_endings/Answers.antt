use Rattle.std.proofs.Common.{◌++◌, [], ◌∷◌, filter, ap, sym, ◌∙◌, subst, append_assoc, take}
use Rattle.rc_edges.proofs.AskedLaws.{asked-more}
use Rattle.rc_base.specs.Endings.{all_kinds}
use Rattle.rc_base.specs.Positions.{is_among}
use Rattle.rc_edges.specs.Prepare.{end_trees}
use Rattle.rc_edges.specs.Stops.{AreKnown, sets_of}
use Rattle.rc_edges.proofs.asked_endings.add_endings.Goals as goal

pub loop-index-preserved : goal.loop-index-preserved
loop-index-preserved g c =
    let plane = c.args.site.now.plane.now in
    let q = c.args.site.now.position in
    let i = c.loop-index.invariant in
    let kind = c.at-kind.result in
    record {
      made = c.in_ok-add_ending.ensures.made;
      keeps = λ r t k. c.in_ok-add_ending.ensures.keeps r t (i.keeps r t k);
      stops = λ these done are.
          let before = end_trees plane q (filter these (filter (is_among c.args.ends) (take c.loop-index.index all_kinds))) in
          subst (AreKnown c.add_ending.new.work (sets_of these c.add_ending.new.stops.items))
          (append_assoc done before (end_trees plane q (filter these (filter (is_among c.args.ends) (kind ∷ [])))) ∙ ap (λ ts. done ++ ts) (sym (asked-more plane q c.args.ends these all_kinds c.loop-index.index kind c.at-kind.ensures)))
          (c.in_ok-add_ending.ensures.stops these (done ++ before) (i.stops these done are));
    }
