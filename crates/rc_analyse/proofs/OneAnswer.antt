-- The files of a folder give one answer.
use Rattle.std.proofs.Common.{◌≡◌, ◌∙◌, sym, ap, subst, List}
use Rattle.rc_config.specs.declared.network.Network.{Network}
use Rattle.rc_failures.proofs.OneList.{one_list}
use Rattle.rc_loading.proofs.OneNet.{one_net}
use Rattle.rc_report.specs.declared.failures.FailRow.{FailRow}
use Rattle.rc_rounds.proofs.OutcomeLaws.{one_outcome}
use Rattle.rc_route.specs.Outcomes.{end_of}
use Rattle.rc_route.specs.declared.outcome.RoundsEnd.{RoundsEnd}
use Rattle.rc_route.specs.declared.outcome.RoundsEnd.TheVariants.{Fixed, Repeats, Limit}
use Rattle.rc_words.specs.declared.request.Limits.{Limits}
use Rattle.rc_answers.proofs.OneShown.{given_by}
use Rattle.rc_answers.specs.Written.{IsGivenBy}
use Rattle.rc_analyse.specs.Answer.{HasOneAnswer, HasOneFinding, dir_of}
use Rattle.rc_analyse.specs.Sound.{AreRowsAfter, HasEnd, IsFoundAs}
use Rattle.rc_answers.specs.Subject.{before_rounds}
use Rattle.rc_answers.specs.declared.findings.BeforeRounds.{BeforeRounds}
use Rattle.rc_answers.specs.declared.findings.BeforeRounds.TheVariants as before
use Rattle.rc_answers.specs.declared.findings.Findings.{Findings}
use Rattle.rc_answers.specs.declared.findings.Findings.TheVariants.{Ended, Failures}
use Rattle.rc_answers.specs.declared.subject.Arrival.{Arrival}

one_end : (net : Network) (limits : Limits) (this that : RoundsEnd) → HasEnd net limits this → HasEnd net limits that → this ≡ that
one_end net limits this that (o, is, ended) (p, is_too, ended_too) = is ∙ ap end_of (one_outcome net limits.rounds o p ended ended_too) ∙ sym is_too

one_row_list : (net : Network) (limits : Limits) (arrival : Arrival) (end : RoundsEnd) (these those : List FailRow) → AreRowsAfter net limits arrival end these → AreRowsAfter net limits arrival end those → these ≡ those
one_row_list net limits arrival (Fixed k) these those h g = one_list net limits.rounds arrival.place arrival.header arrival.ends these those h g
one_row_list net limits arrival (Repeats i k) these those h g = h ∙ sym g
one_row_list net limits arrival (Limit n) these those h g = h ∙ sym g

found_as : (limits : Limits) (known : BeforeRounds) (this that : Findings) → IsFoundAs limits known this → IsFoundAs limits known that → this ≡ that
found_as limits (before.OfFiles found) this that h g = h ∙ sym g
found_as limits (before.OfRounds net subject) this that (o, is, ended) (p, is_too, ended_too) =
    is ∙ ap (λ x. Ended net x subject) (one_outcome net limits.rounds o p ended ended_too) ∙ sym is_too
found_as limits (before.OfFailures net arrival) this that (end, rows, is, ended, are) (other, others, is_too, ended_too, are_too) =
    let ends : end ≡ other = one_end net limits end other ended ended_too in
    let same : rows ≡ others = one_row_list net limits arrival other rows others (subst (λ e. AreRowsAfter net limits arrival e rows) ends are) are_too in
    is ∙ (λ i. Failures net (ends i) (same i)) ∙ sym is_too

pub one_finding : HasOneFinding
one_finding files r this that (net, is, found) (other, is_too, found_too) =
    let nets : net ≡ other = one_net (dir_of r.source) files net other is is_too in
    found_as r.limits (before_rounds other r.ask) this that (subst (λ n. IsFoundAs r.limits (before_rounds n r.ask) this) nets found) found_too

pub one_answer : HasOneAnswer
one_answer files r this that h g =
    let same : h.found ≡ g.found = one_finding files r h.found g.found h.are g.are in
    given_by g.found this that (subst (λ f. IsGivenBy f this) same h.gives) g.gives
