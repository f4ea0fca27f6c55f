use Rattle.std.proofs.Common.{◌∙◌, ap, subst, true, false, List, Bool, [], ◌∷◌, ◌++◌}
use Rattle.std.proofs.lemmas.Result.{on_ok_weaker}
use Rattle.rc_sectors.specs.Cuts.{AreBelow}
use Rattle.rc_sectors.proofs.CutLaws.{two_below}
use Rattle.rc_sectors.proofs.cut.+put_below.Goals as goal

pub returns : goal.returns
returns t c =
    let before = c.args.cut.now in
    let middle = c.put_below.new.cut in
    let after = c.put_below-2.new.cut in
    let low = subst (λ (s : List Bool). AreBelow s before middle) (c.in_ok-low.ensures ∙ ap (λ (s : List Bool). s ++ false ∷ []) c.as_slice.ensures) c.in_ok-put_below.ensures in
    let longer = c.in_ok-high.ensures ∙ ap (λ (s : List Bool). s ++ true ∷ []) c.as_slice-2.ensures in
    on_ok_weaker c.put_below-2.result (λ high. two_below c.args.sector before middle after low (subst (λ (s : List Bool). AreBelow s middle after) longer high)) c.put_below-2.ensures
