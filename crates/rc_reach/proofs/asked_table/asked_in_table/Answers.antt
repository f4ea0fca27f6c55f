use Rattle.std.proofs.Common.{◌≡◌, ◌≤◌, subst, sym, IfOk, IfErr, IfSome, arith}
use Rattle.std.proofs.lemmas.Result.{IfOk-weaker}
use Rattle.rc_reach.proofs.TryLaws.{last_ok, last_full}
use Rattle.rc_reach.specs.FirstTry.{IsFirstRoom}
use Rattle.rc_reach.specs.Held.{AreTooFew, HoldsAsked, IsFullAtMost}
use Rattle.rc_reach.specs.declared.asked_table.AskedSet.{AskedSet}
use Rattle.rc_reach.proofs.asked_table.asked_in_table.Goals as goal

pub returns-clause-set : goal.returns-clause-set
returns-clause-set g c =
    let holds = HoldsAsked c.args.plane.now c.args.asked.now in
    subst (λ r. IfOk r holds) (sym c.last_of.ensures) (last_ok holds c.asked_within-first.result c.second_try-second.result c.asked_within-first.ensures.set c.second_try-second.ensures.set)

pub returns-clause-full : goal.returns-clause-full
returns-clause-full g c =
    subst (λ r. IfErr r (IsFullAtMost c.args.most c.args.plane.now c.args.asked.now)) (sym c.last_of.ensures)
    (last_full (AreTooFew c.args.most c.args.plane.now c.args.asked.now) c.asked_within-first.result c.second_try-second.result c.second_try-second.ensures.again c.second_try-second.ensures.full)

pub returns-clause-room : goal.returns-clause-room
returns-clause-room g c =
    let most = c.args.most in
    let fits = λ (r : AskedSet). r.nodes.capacity ≤ most in
    let few : IsFirstRoom most c.in-Some.few = subst (λ o. IfSome o (IsFirstRoom most)) c.in-Some.is c.requires.few in
    let one : IfOk c.asked_within-first.result fits =
    IfOk-weaker c.asked_within-first.result (λ (r : AskedSet). r.nodes.capacity ≡ c.in-Some.few) fits (λ r is. omega (arith, is, few.below)) c.asked_within-first.ensures.room in
    subst (λ r. IfOk r fits) (sym c.last_of.ensures) (last_ok fits c.asked_within-first.result c.second_try-second.result one c.second_try-second.ensures.room)
