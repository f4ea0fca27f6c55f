use Rattle.std.proofs.Common.{◌∙◌, sym}
use Rattle.rc_bgp.proofs.ChangeLaws.{lists_decide}
use Rattle.rc_bgp.proofs.same_inputs.are_same.Goals as goal

pub returns : goal.returns
returns c =
    let decides = lists_decide c.args.lists.now c.args.others.now in
    (λ is. decides.0 (sym c.eq.ensures ∙ is), λ same. c.eq.ensures ∙ decides.1 same)
