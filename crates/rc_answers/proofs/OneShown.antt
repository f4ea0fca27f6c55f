-- What is shown of findings is one.
use Rattle.std.proofs.Common.{refl, ◌≡◌, ◌∙◌, sym, ap, subst, ℕ, List, [], ◌∷◌, ◌++◌, take, Option, Some, None}
use Rattle.std.specs.Prelude.{MatchOption, option_to_list}
use Rattle.rc_config.specs.declared.network.Network.{Network}
use Rattle.rc_base.specs.declared.ending.Ends.{Ends}
use Rattle.rc_base.specs.declared.header.Header.{Header}
use Rattle.rc_base.specs.declared.position.Pos.{Pos}
use Rattle.rc_cubes.specs.Cubes.{cubes}
use Rattle.rc_cubes.specs.declared.cube.Cube.{Cube}
use Rattle.rc_idle.proofs.OneTold.{one_telling}
use Rattle.rc_route.specs.declared.state.RouterState.{RouterState}
use Rattle.rc_route.specs.declared.outcome.Outcome.{Outcome}
use Rattle.rc_route.specs.declared.outcome.Outcome.TheVariants as outcome
use Rattle.rc_reach.proofs.ReachingLaws.{one_set}
use Rattle.rc_reach.specs.Uneven.{arrivals, failures}
use Rattle.rc_reach.specs.declared.asked.Asked.{Asked}
use Rattle.rc_reach.specs.declared.asked.Asked.TheVariants.{Reaching, Looping, Uneven}
use Rattle.rc_walk.proofs.FoundLaws.{one_shortest_loop}
use Rattle.rc_walk.proofs.ShortestLaws.{one_shortest_walk}
use Rattle.rc_walk.proofs.WalkLaws.{one_first_walk}
use Rattle.rc_moves.specs.Moves.{DataPlane, plane_of}
use Rattle.rc_moves.specs.declared.walk.Walk.{Walk}
use Rattle.rc_route.specs.Outcomes.{end_of}
use Rattle.rc_report.specs.StateText.{route_count}
use Rattle.rc_answers.specs.Written.{AreExamples, AreExamplesOf, AreShortest, AreShortestBack, AreWalksOf, IsDetail, IsGivenBy, IsShown, IsShownAtFixed}
use Rattle.rc_answers.specs.Given.{Given, idle, ended, Shown, walk_of, cubes_of, first_cube_of}
use Rattle.rc_answers.specs.declared.findings.FileFindings.TheVariants as file
use Rattle.rc_answers.specs.declared.findings.Findings.{Findings}
use Rattle.rc_answers.specs.declared.findings.Findings.TheVariants as found
use Rattle.rc_answers.specs.declared.subject.Subject.{Subject}
use Rattle.rc_answers.specs.declared.subject.Subject.TheVariants.{AllRouters, OneRouter, Packet, Packets}
use Rattle.rc_answers.specs.declared.subject.Detail.{Detail}
use Rattle.rc_answers.specs.declared.subject.Detail.TheVariants.{Examples, First}

-- a search finds one thing
one_found : {Best : Walk → Type 0} {None_is_there : Type 0} → ((w v : Walk) → Best w → Best v → w ≡ v) → ((w : Walk) → None_is_there → ¬ (Best w))
    → (these those : Option Walk) → MatchOption these None_is_there Best → MatchOption those None_is_there Best → these ≡ those
one_found one never None None h g = refl
one_found one never None (Some v) h g = absurd (never v h g)
one_found one never (Some w) None h g = absurd (never w g h)
one_found one never (Some w) (Some v) h g = ap Some (one w v h g)

one_shortest : (plane : DataPlane) (q : Pos) (ends : Ends) (h : Header) (these those : List Walk) → AreShortest plane q ends h these → AreShortest plane q ends h those → these ≡ those
one_shortest plane q ends h these those (found, best, is) (other, best_too, is_too) =
    is ∙ ap option_to_list (one_found (one_shortest_walk plane h ends q) (λ w none short. none w short.choices short.walk) found other best best_too) ∙ sym is_too

one_back : (plane : DataPlane) (q : Pos) (h : Header) (these those : List Walk) → AreShortestBack plane q h these → AreShortestBack plane q h those → these ≡ those
one_back plane q h these those (found, best, is) (other, best_too, is_too) =
    is ∙ ap option_to_list (one_found (one_shortest_loop plane h q) (λ w none short. none w short.choices short.loop) found other best best_too) ∙ sym is_too

one_example : (plane : DataPlane) (asked : Asked) (h : Header) (these those : List Walk) → AreWalksOf plane asked h these → AreWalksOf plane asked h those → these ≡ those
one_example plane (Reaching q ends) h these those is is_too = one_shortest plane q ends h these those is is_too
one_example plane (Looping q) h these those is is_too = one_back plane q h these those is is_too
one_example plane (Uneven q) h these those (arriving, failing, arrive, fail, is) (arriving_too, failing_too, arrive_too, fail_too, is_too) =
    let arrivals_are : arriving ≡ arriving_too = one_shortest plane q arrivals h arriving arriving_too arrive arrive_too in
    let failures_are : failing ≡ failing_too = one_shortest plane q failures h failing failing_too fail fail_too in
    is ∙ (λ i. arrivals_are i ++ failures_are i) ∙ sym is_too

all_examples : (plane : DataPlane) (asked : Asked) (cs : List Cube) (these those : List (List Walk)) → AreExamples plane asked cs these → AreExamples plane asked cs those → these ≡ those
all_examples plane asked [] these those h g = h ∙ sym g
all_examples plane asked (c ∷ cs) these those (walks, rest, is, own, others) (walks_too, rest_too, is_too, own_too, others_too) =
    let same : walks ≡ walks_too = one_example plane asked c.value walks walks_too own own_too in
    let same_rest : rest ≡ rest_too = all_examples plane asked cs rest rest_too others others_too in
    is ∙ (λ i. same i ∷ same_rest i) ∙ sym is_too

one_detail : (plane : DataPlane) (routes : ℕ) (asked : Asked) (detail : Detail) (this that : Shown) → IsDetail plane routes asked detail this → IsDetail plane routes asked detail that → this ≡ that
one_detail plane routes asked (Examples most) this that h g =
    let sets : h.set ≡ g.set = one_set h.set g.set h.exact g.exact in
    let here : AreExamplesOf plane asked most g.set h.walks = subst (λ set. AreExamplesOf plane asked most set h.walks) sets h.examples in
    let walks : h.walks ≡ g.walks = all_examples plane asked (take most (cubes g.set)) h.walks g.walks here g.examples in
    h.are ∙ (λ i. cubes_of (sets i) (walks i)) ∙ sym g.are
one_detail plane routes asked First this that h g = h.is ∙ ap (first_cube_of routes) (one_set h.set g.set h.exact g.exact) ∙ sym g.is

module _ (net : Network) where
  shown_at_fixed : (state : List RouterState) (subject : Subject) (this that : Shown) → IsShownAtFixed net state subject this → IsShownAtFixed net state subject that → this ≡ that
  shown_at_fixed state AllRouters this that h g = h ∙ sym g
  shown_at_fixed state (OneRouter r) this that h g = h ∙ sym g
  shown_at_fixed state (Packet position header) this that (walk, first, is) (other, first_too, is_too) = is ∙ ap walk_of (one_first_walk (plane_of net state) header position walk other first first_too) ∙ sym is_too
  shown_at_fixed state (Packets set) this that h g = one_detail (plane_of net state) (route_count state) set.asked set.detail this that h g

  shown_after : (o : Outcome) (subject : Subject) (this that : Shown) → IsShown net o subject this → IsShown net o subject that → this ≡ that
  shown_after (outcome.Fixed k state) subject this that h g = shown_at_fixed state subject this that h g
  shown_after (outcome.Repeats i k) subject this that h g = h ∙ sym g
  shown_after (outcome.Limit n) subject this that h g = h ∙ sym g

-- findings give one thing
pub given_by : (f : Findings) (this that : Given) → IsGivenBy f this → IsGivenBy f that → this ≡ that
given_by (found.OfFiles (file.Refused refusal)) this that h g = h ∙ sym g
given_by (found.OfFiles file.NoPlace) this that h g = h ∙ sym g
given_by (found.OfFiles (file.Lists net router)) this that (told, are, is) (other, are_too, is_too) =
    is ∙ ap idle (one_telling net router told other are are_too) ∙ sym is_too
given_by (found.Failures net end rows) this that h g = h ∙ sym g
given_by (found.Ended net o subject) this that (shown, is_shown, is) (other, is_shown_too, is_too) =
    is ∙ ap (ended net (end_of o)) (shown_after net o subject shown other is_shown is_shown_too) ∙ sym is_too
