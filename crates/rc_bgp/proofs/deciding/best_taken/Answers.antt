use Rattle.std.proofs.Common.{◌∙◌, ◌<◌, List, ap, length, subst}
use Rattle.rc_bgp_decide.specs.Decision.{best_place}
use Rattle.rc_route.specs.declared.path.BgpPath.{BgpPath}
use Rattle.rc_bgp.specs.Candidates.{further}
use Rattle.rc_bgp.specs.Maximum.{number_for}
use Rattle.rc_bgp.proofs.BestLaws.{best_taken}
use Rattle.rc_bgp.proofs.deciding.best_taken.Goals as goal

pub returns : goal.returns
returns c =
    best_taken c.args.most c.args.paths.now.items c.in-Some.place c.swap_remove-path.result c.index.result.now c.in_ok-also.also
    (subst (λ (xs : List BgpPath). c.in-Some.place < length xs) c.as_slice.ensures.value c.in-Some.ensures.place)
    (c.in-Some.ensures.best ∙ ap best_place c.as_slice.ensures.value)
    c.swap_remove-path.ensures.value
    c.index.ensures
    (c.in_ok-also.ensures ∙ (λ i. further (c.number_for-number.ensures i) (c.as_slice-2.ensures.value i)) ∙ ap (λ s. further (number_for c.args.most s) c.args.paths.now.items) c.source.ensures)
