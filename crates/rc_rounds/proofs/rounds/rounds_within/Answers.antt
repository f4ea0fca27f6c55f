use Rattle.std.proofs.Common.{◌≡◌, ◌+◌, ap, sym, subst, ◌∙◌, length, arith}
use Rattle.std.specs.Prelude.{MatchOption}
use Rattle.std.proofs.lemmas.Result.{IfOk-weaker}
use Rattle.rc_bgp.specs.Changes.{AreChanges}
use Rattle.rc_reads.specs.Stayed.{AreFlagged}
use Rattle.rc_rib.specs.Next.{next_state}
use Rattle.rc_route.specs.Outcomes.{IsInOrder}
use Rattle.rc_route.specs.Tables.{IsStateOf}
use Rattle.rc_rounds.specs.Progress.{IsRound}
use Rattle.rc_rounds.specs.Renewing.{AreMadeAnew}
use Rattle.rc_rounds.specs.Rounds.{EndsAs}
use Rattle.rc_rounds.proofs.ProgressLaws.{ends_there, goes_on, repeats}
use Rattle.rc_rounds.proofs.rounds.rounds_within.Goals as goal

pub loop-done-init : goal.loop-done-init
loop-done-init g c = record {
  at = c.in_ok-progress.ensures.done;
  made = c.in_ok-progress.ensures.made c.args.internal.now;
}

pub same-same-requires-clause-few : goal.same-same-requires-clause-few
same-same-requires-clause-few g c = omega (arith, c.loop-done.invariant.made.under_way.within, c.loop-done.invariant.at, c.requires.few_rounds)

pub same-same-requires-clause-long : goal.same-same-requires-clause-long
same-same-requires-clause-long g c =
    let net = c.args.net.now in
    let internal = c.args.internal.now in
    let p = c.loop-done.progress in
    let are = subst (λ o. MatchOption o (next_state net internal p.last ≡ p.last) (AreMadeAnew net internal p.last)) c.in-Some.is c.in_ok-_passed.ensures.value in
    let r : IsRound net internal p.last c.in_ok-round.round = c.in_ok-round.ensures net internal c.loop-done.invariant.made are in
    c.loop-done.invariant.made.under_way.in_order.as_long ∙ sym (ap length c.into_parts-next.ensures.state ∙ r.in_order.as_long)

pub same-same-requires-clause-stayed : goal.same-same-requires-clause-stayed
same-same-requires-clause-stayed g c =
    let net = c.args.net.now in
    let internal = c.args.internal.now in
    let p = c.loop-done.progress in
    let are = subst (λ o. MatchOption o (next_state net internal p.last ≡ p.last) (AreMadeAnew net internal p.last)) c.in-Some.is c.in_ok-_passed.ensures.value in
    let r : IsRound net internal p.last c.in_ok-round.round = c.in_ok-round.ensures net internal c.loop-done.invariant.made are in
    subst (λ s. AreFlagged c.as_slice.result.now p.last s) (sym c.into_parts-next.ensures.state)
    (subst (λ flags. AreFlagged flags p.last c.in_ok-round.round.state) (sym (c.as_slice.ensures ∙ c.into_parts-next.ensures.stayed)) r.stayed)

pub returns-in-Last-clause-outcome : goal.returns-in-Last-clause-outcome
returns-in-Last-clause-outcome g c =
    let net = c.args.net.now in
    let internal = c.args.internal.now in
    let p = c.loop-done.progress in
    let are = subst (λ o. MatchOption o (next_state net internal p.last ≡ p.last) (AreMadeAnew net internal p.last)) c.in-Some.is c.in_ok-_passed.ensures.value in
    let r : IsRound net internal p.last c.in_ok-round.round = c.in_ok-round.ensures net internal c.loop-done.invariant.made are in
    let ends =
    ends_there net internal p c.loop-done.invariant.made.under_way c.into_parts-next.result.0 (c.into_parts-next.ensures.state ∙ r.state) c.in-Last.ensures c.args.limit (c.loop-done.done + 1) (ap (λ n. n + 1) (sym c.loop-done.invariant.at)) (omega arith) in
    IfOk-weaker _ _ (EndsAs net internal c.args.limit) (λ o is. subst (EndsAs net internal c.args.limit) (sym is) ends) c.fixed-in-Last.ensures

pub returns-in-Last-clause-in_order : goal.returns-in-Last-clause-in_order
returns-in-Last-clause-in_order g c =
    let net = c.args.net.now in
    let internal = c.args.internal.now in
    let p = c.loop-done.progress in
    let are = subst (λ o. MatchOption o (next_state net internal p.last ≡ p.last) (AreMadeAnew net internal p.last)) c.in-Some.is c.in_ok-_passed.ensures.value in
    let r : IsRound net internal p.last c.in_ok-round.round = c.in_ok-round.ensures net internal c.loop-done.invariant.made are in
    let ordered = subst (IsStateOf (length net.routers)) (sym c.into_parts-next.ensures.state) r.in_order in
    IfOk-weaker _ _ (IsInOrder (length net.routers)) (λ o is. subst (IsInOrder (length net.routers)) (sym is) ordered) c.fixed-in-Last.ensures

pub returns-in-Checkpoint-clause-outcome : goal.returns-in-Checkpoint-clause-outcome
returns-in-Checkpoint-clause-outcome g c =
    let net = c.args.net.now in
    let internal = c.args.internal.now in
    let p = c.loop-done.progress in
    let are = subst (λ o. MatchOption o (next_state net internal p.last ≡ p.last) (AreMadeAnew net internal p.last)) c.in-Some.is c.in_ok-_passed.ensures.value in
    let r : IsRound net internal p.last c.in_ok-round.round = c.in_ok-round.ensures net internal c.loop-done.invariant.made are in
    let same = c.in-Checkpoint.ensures in
    repeats net internal p c.loop-done.invariant.made.under_way c.into_parts-next.result.0 (c.into_parts-next.ensures.state ∙ r.state) same.0 same.1 c.args.limit (c.loop-done.done + 1) (ap (λ n. n + 1) (sym c.loop-done.invariant.at)) (omega arith)

pub loop-done-preserved : goal.loop-done-preserved
loop-done-preserved g c =
    let net = c.args.net.now in
    let internal = c.args.internal.now in
    let p = c.loop-done.progress in
    let are = subst (λ o. MatchOption o (next_state net internal p.last ≡ p.last) (AreMadeAnew net internal p.last)) c.in-Some.is c.in_ok-_passed.ensures.value in
    let r : IsRound net internal p.last c.in_ok-round.round = c.in_ok-round.ensures net internal c.loop-done.invariant.made are in
    let next = c.into_parts-next.result.0 in
    let made : next ≡ next_state net internal p.last = c.into_parts-next.ensures.state ∙ r.state in
    let in_order : IsStateOf (length net.routers) next = subst (IsStateOf (length net.routers)) (sym c.into_parts-next.ensures.state) r.in_order in
    let changes : AreChanges c.into_parts-next.result.1 p.last next =
    subst (λ s. AreChanges c.into_parts-next.result.1 p.last s) (sym c.into_parts-next.ensures.state)
    (subst (λ told. AreChanges told p.last c.in_ok-round.round.state) (sym c.into_parts-next.ensures.changes) r.changes) in
    let stayed : AreFlagged c.into_parts-next.result.2 p.last next =
    subst (λ s. AreFlagged c.into_parts-next.result.2 p.last s) (sym c.into_parts-next.ensures.state)
    (subst (λ flags. AreFlagged flags p.last c.in_ok-round.round.state) (sym c.into_parts-next.ensures.stayed) r.stayed) in
    let neither = c.in-Neither.ensures in
    record {
      at = c.after-further.ensures.done ∙ ap (λ n. n + 1) c.loop-done.invariant.at;
      made = c.after-further.ensures.made net internal c.loop-done.invariant.made.under_way in_order made changes stayed (goes_on net internal p c.loop-done.invariant.made.under_way next made neither.0 neither.1);
    }
