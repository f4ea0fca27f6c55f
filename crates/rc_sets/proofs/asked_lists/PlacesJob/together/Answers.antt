use Rattle.std.proofs.Common.{ℕ, List, sym, subst}
use Rattle.std.proofs.lemmas.Result.{IfOk-weaker}
use Rattle.rc_nodes.specs.Seats.{SeatView}
use Rattle.rc_shares.specs.Stretches.{IsStretch}
use Rattle.rc_shares.proofs.StretchLaws.{stretches_join}
use Rattle.rc_sets.specs.AskedLists.{IsIdleAt}
use Rattle.rc_sets.specs.declared.idle_line.IdleLine.{IdleLine}
use Rattle.rc_sets.proofs.asked_lists.PlacesJob.together.Goals as goal

pub returns : goal.returns
returns c =
    let p = c.args.self.now in
    let made = IsIdleAt p.network.now p.places.now in
    IfOk-weaker c.appended.result _ (λ (whole : List (List IdleLine)). (seat : SeatView) (a b d : ℕ) → IsStretch made a b c.args.left → IsStretch made b d c.args.right → IsStretch made a d whole)
    (λ whole is seat a b d left right. subst (IsStretch made a d) (sym is) (stretches_join made a b d c.args.left c.args.right left right)) c.appended.ensures
