use Rattle.std.proofs.Common.{◌≡◌, ◌∙◌, ap, sym, subst, length}
use Rattle.std.specs.Prelude.{MatchOption}
use Rattle.rc_rib.specs.Next.{next_state}
use Rattle.rc_route.specs.Tables.{IsStateOf}
use Rattle.rc_rounds.specs.Progress.{IsRound}
use Rattle.rc_rounds.specs.Renewing.{AreMadeAnew}
use Rattle.rc_rounds.specs.Rounds.{empty_state, state_after}
use Rattle.rc_rounds.proofs.RoundLaws.{apart_by}
use Rattle.rc_rounds.proofs.at_address.first_state.Goals as goal

pub next-requires-clause-made : goal.next-requires-clause-made
next-requires-clause-made g c κs within = c.in_ok-progress.ensures.made c.args.internal.now

pub returns : goal.returns
returns g c =
    let net = c.args.net.now in
    let internal = c.args.internal.now in
    let p = c.in_ok-progress.progress in
    let at = c.in_ok-progress.ensures.made internal in
    let are = subst (λ o. MatchOption o (next_state net internal p.last ≡ p.last) (AreMadeAnew net internal p.last)) c.in-Some.is c.in_ok-_passed.ensures.value in
    let r : IsRound net internal p.last c.in_ok-round.round = c.in_ok-round.ensures net internal at are in
    let next = c.into_parts-next.result.0 in
    let same : c.in_ok-state.state ≡ next = c.in_ok-state.ensures in
    let last : p.last ≡ empty_state net = at.under_way.last ∙ ap (state_after net internal) c.in_ok-progress.ensures.done in
    let made : next ≡ next_state net internal p.last = c.into_parts-next.ensures.state ∙ r.state in
    record {
      value = same ∙ made ∙ ap (next_state net internal) last;
      some_known = λ e. apart_by c.equal.result next p.last c.equal.ensures c.if-equal.false (sym same ∙ e ∙ sym last);
      in_order = subst (IsStateOf (length net.routers)) (sym (same ∙ c.into_parts-next.ensures.state)) r.in_order;
    }
