-- What is written of a fixed point, and of what was found.
use Rattle.std.proofs.Common.{refl, ◌≡◌, ◌∙◌, ap, inl, inr, sym, subst, ℕ, ◌++◌, List, [], true, Option}
use Rattle.rc_config.specs.declared.network.Network.{Network}
use Rattle.rc_cubes.specs.Cubes.{cubes}
use Rattle.rc_network.specs.declared.refusal.NetRefusal.{NetRefusal}
use Rattle.rc_bdd.specs.declared.work.SetError.{SetError}
use Rattle.rc_bdd.specs.declared.work.SetError.TheVariants as set_error
use Rattle.rc_reach.specs.Asked.{IsAskedSet}
use Rattle.rc_reach.specs.Held.{IsFullAtMost}
use Rattle.rc_report.specs.CubeText.{cubes_text, shown as only}
use Rattle.rc_report.specs.IdleText.{routers_text}
use Rattle.rc_report.specs.OutcomeText.{outcome_line}
use Rattle.rc_report.specs.StateText.{routes_line}
use Rattle.rc_report.specs.declared.failures.FailRow.{FailRow}
use Rattle.rc_report.specs.declared.idle.RouterIdle.{RouterIdle}
use Rattle.rc_route.specs.Outcomes.{end_of}
use Rattle.rc_route.specs.declared.state.RouterState.{RouterState}
use Rattle.rc_route.specs.declared.outcome.Outcome.{Outcome}
use Rattle.rc_route.specs.declared.outcome.Outcome.TheVariants as outcome
use Rattle.rc_route.specs.declared.outcome.RoundsEnd.{RoundsEnd}
use Rattle.rc_trees.specs.Trees.{Tree}
use Rattle.rc_fib.specs.Entry.{Entry}
use Rattle.rc_moves.specs.Moves.{DataPlane, plane_of, plane_with, tables_of, route_count}
use Rattle.rc_moves.proofs.PlaneLaws.{routes_counted}
use Rattle.rc_moves.specs.declared.walk.Walk.{Walk}
use Rattle.rc_words.specs.declared.request.Request.{Request}
use Rattle.rc_idle.specs.Told.{AreIdleIn, AreTooFewForLists}
use Rattle.rc_writing.specs.Places.{place_text}
use Rattle.rc_writing.specs.Texts.{head_text, no_place_line, refused_line}
use Rattle.rc_writing.specs.Written.{IsWrittenOrMemory, status_after}
use Rattle.rc_writing.specs.declared.status.Status.TheVariants.{Done, Refused, Memory, NoPlace}
use Rattle.rc_writing.specs.declared.status.Status.{Status}
use Rattle.rc_answers.specs.Given.{Shown, refused, no_place, idle, ended, nothing, cubes_of, first_cube_of, failures_of}
use Rattle.rc_answers.specs.Texts.{ended_text}
use Rattle.rc_answers.specs.Written.{AreExamplesOf, AreCubesAsked, IsDetail, IsFirstCubeAsked, IsLackingFor, IsPutAtFixed, IsPutBehind, IsPutOf, IsPutOver, IsShown, IsShownAtFixed, NeedsMore, examples_in, lacking_of}
use Rattle.rc_answers.specs.declared.findings.FileFindings.{FileFindings}
use Rattle.rc_answers.specs.declared.findings.FileFindings.TheVariants as file
use Rattle.rc_answers.specs.declared.findings.Findings.{Findings}
use Rattle.rc_answers.specs.declared.findings.Findings.TheVariants as found
use Rattle.rc_answers.specs.declared.subject.Detail.TheVariants.{Examples, First}
use Rattle.rc_answers.specs.declared.subject.PacketSet.{PacketSet}
use Rattle.rc_answers.specs.declared.subject.Subject.{Subject}
use Rattle.rc_answers.specs.declared.subject.Subject.TheVariants.{Packets}

-- what is shown was written, or memory ran out before
put_behind : (r : Request) (net : Network) (end : RoundsEnd) (IsToShow : Shown → Type 0) (IsMoreNeeded : Type 0) (shown : Shown) {answer : Status} {old new : Option (List ℕ)}
    → IsToShow shown → IsWrittenOrMemory (status_after end) (ended_text r.source net end shown) answer old new → IsPutBehind r net end IsToShow IsMoreNeeded answer old new
put_behind r net end IsToShow IsMoreNeeded shown is (inl written) = inl (shown, is, written)
put_behind r net end IsToShow IsMoreNeeded shown is (inr none) = inr (inl none)

pub put_at_fixed : (r : Request) (net : Network) (end : RoundsEnd) (state : List RouterState) (subject : Subject) (shown : Shown) {answer : Status} {old new : Option (List ℕ)}
    → IsShownAtFixed net state subject shown → IsWrittenOrMemory (status_after end) (ended_text r.source net end shown) answer old new → IsPutAtFixed r net end state subject answer old new
put_at_fixed r net end state subject shown is put = put_behind r net end (IsShownAtFixed net state subject) (NeedsMore r.limits.nodes net state subject) shown is put

-- want of memory before anything is written
pub memory_at_fixed : (r : Request) (net : Network) (end : RoundsEnd) (state : List RouterState) (subject : Subject) {old : Option (List ℕ)} → IsPutAtFixed r net end state subject Memory old old
memory_at_fixed r net end state subject = inr (inl (refl, refl))

-- want of memory, or of what a set lacks
pub memory_over : (r : Request) (plane : DataPlane) (end : RoundsEnd) (routes : ℕ) (packets : PacketSet) {old : Option (List ℕ)} → IsPutOver r plane end routes packets Memory old old
memory_over r plane end routes packets = inr (inl (refl, refl))

pub lacking_over : (r : Request) (plane : DataPlane) (end : RoundsEnd) (routes : ℕ) (packets : PacketSet) (e : SetError) {answer : Status} {old : Option (List ℕ)}
    → answer ≡ lacking_of e → IsFullAtMost r.limits.nodes plane packets.asked e → IsPutOver r plane end routes packets answer old old
lacking_over r plane end routes packets set_error.Full is full = inr (inr (is, full refl, refl))
lacking_over r plane end routes packets set_error.Memory is full = inr (inl (is, refl))

-- ---- what is asked of a fixed point

pub asked_put : (r : Request) (net : Network) (end : RoundsEnd) (state : List RouterState) (subject is_subject : Subject) {answer : Status} {old new : Option (List ℕ)}
    → subject ≡ is_subject → IsPutAtFixed r net end state is_subject answer old new → IsPutAtFixed r net end state subject answer old new
asked_put r net end state subject is_subject {answer} {old} {new} is put = subst (λ s. IsPutAtFixed r net end state s answer old new) (sym is) put

-- what is put over a plane is put over an equal one
pub plane_put : (r : Request) (plane is_plane : DataPlane) (end : RoundsEnd) (routes is_routes : ℕ) (packets : PacketSet) {answer : Status} {old new : Option (List ℕ)}
    → plane ≡ is_plane → routes ≡ is_routes → IsPutOver r plane end routes packets answer old new → IsPutOver r is_plane end is_routes packets answer old new
plane_put r plane is_plane end routes is_routes packets {answer} {old} {new} is many put =
    subst (λ n. IsPutOver r is_plane end n packets answer old new) many (subst (λ p. IsPutOver r p end routes packets answer old new) is put)

-- the packets of a network with the tables of a state are those of its network and state
pub packets_put : (r : Request) (net : Network) (end : RoundsEnd) (state : List RouterState) (tables : List (List Entry)) (packets : PacketSet) {answer : Status} {old new : Option (List ℕ)}
    → tables ≡ tables_of state → IsPutOver r (plane_with net tables) end (route_count tables) packets answer old new → IsPutAtFixed r net end state (Packets packets) answer old new
packets_put r net end state tables packets are put =
    plane_put r (plane_with net tables) (plane_of net state) end (route_count tables) _ packets (ap (plane_with net) are) (ap route_count are ∙ routes_counted state) put

-- a set and the walks of its examples are shown so: all cubes, or the number of routes and the first cube
module _ (r : Request) (plane : DataPlane) (end : RoundsEnd) (routes : ℕ) (packets : PacketSet) (set : Tree) (walks : List (List Walk)) where
  pub cubes_put : {most : ℕ} {answer : Status} {old new : Option (List ℕ)} (net : Network) → packets.detail ≡ Examples most → net ≡ plane.network → IsAskedSet plane packets.asked set
      → AreExamplesOf plane packets.asked (examples_in packets.detail) set walks
      → IsWrittenOrMemory (status_after end) (ended_text r.source net end (cubes_of set walks)) answer old new → IsPutOver r plane end routes packets answer old new
  cubes_put {most} {answer} {old} {new} net is same exact are put =
      let detailed : AreCubesAsked plane packets.asked most (cubes_of set walks) =
      record { set = set; exact = exact; walks = walks; examples = subst (λ d. AreExamplesOf plane packets.asked (examples_in d) set walks) is are; are = refl } in
      put_behind r plane.network end (IsDetail plane routes packets.asked packets.detail) _ (cubes_of set walks)
      (subst (λ d. IsDetail plane routes packets.asked d (cubes_of set walks)) (sym is) detailed)
      (subst (λ n. IsWrittenOrMemory (status_after end) (ended_text r.source n end (cubes_of set walks)) answer old new) same put)

  pub first_cube_put : {answer : Status} {old new : Option (List ℕ)} (net : Network) → packets.detail ≡ First → net ≡ plane.network → IsAskedSet plane packets.asked set
      → AreExamplesOf plane packets.asked (examples_in packets.detail) set walks
      → IsWrittenOrMemory (status_after end) ((head_text r.source ++ outcome_line end) ++ (routes_line routes ++ cubes_text net (only true (cubes set)) walks)) answer old new
      → IsPutOver r plane end routes packets answer old new
  first_cube_put {answer} {old} {new} net is same exact are put =
      let none : walks ≡ [] = subst (λ d. AreExamplesOf plane packets.asked (examples_in d) set walks) is are in
      let first : IsFirstCubeAsked plane packets.asked routes (first_cube_of routes set) = record { set = set; exact = exact; is = refl } in
      let text : Network → List (List Walk) → List ℕ = λ n ws. (head_text r.source ++ outcome_line end) ++ (routes_line routes ++ cubes_text n (only true (cubes set)) ws) in
      put_behind r plane.network end (IsDetail plane routes packets.asked packets.detail) _ (first_cube_of routes set)
      (subst (λ d. IsDetail plane routes packets.asked d (first_cube_of routes set)) (sym is) first)
      (subst (λ ws. IsWrittenOrMemory (status_after end) (text plane.network ws) answer old new) none
      (subst (λ n. IsWrittenOrMemory (status_after end) (text n walks) answer old new) same put))

-- ---- what was found

-- what is put of a fixed point is put of what was found
pub fixed_put : (r : Request) (net : Network) (o : Outcome) (end : RoundsEnd) (subject : Subject) {k : ℕ} {state : List RouterState} {answer : Status} {old new : Option (List ℕ)}
    → o ≡ outcome.Fixed k state → end ≡ end_of o → IsPutAtFixed r net end state subject answer old new → IsPutOf r (found.Ended net o subject) answer old new
fixed_put r net o end subject {k} {state} {answer} {old} {new} is ends put =
    subst (λ p. IsPutOf r (found.Ended net p subject) answer old new) (sym is)
    (at_end (subst (λ e. IsPutAtFixed r net e state subject answer old new) (ends ∙ ap end_of is) put))
  where
    at_end : IsPutAtFixed r net (end_of (outcome.Fixed k state)) state subject answer old new → IsPutOf r (found.Ended net (outcome.Fixed k state) subject) answer old new
    at_end (inl (shown, shows, written)) = inl (ended net (end_of (outcome.Fixed k state)) shown, (shown, shows, refl), written)
    at_end (inr (inl (memory, same))) = inr (subst (IsLackingFor r.limits.nodes (found.Ended net (outcome.Fixed k state) subject)) (sym memory) tt, same)
    at_end (inr (inr (nodes, more, same))) = inr (subst (IsLackingFor r.limits.nodes (found.Ended net (outcome.Fixed k state) subject)) (sym nodes) more, same)

-- what is put of packets over tables is put of what was found at a fixed point that has these tables
pub prepared_put : (r : Request) (net : Network) (k : ℕ) (state : List RouterState) (tables : List (List Entry)) (packets : PacketSet) {answer : Status} {old new : Option (List ℕ)}
    → tables ≡ tables_of state → IsPutOver r (plane_with net tables) (end_of (outcome.Fixed k state)) (route_count tables) packets answer old new
    → IsPutOf r (found.Ended net (outcome.Fixed k state) (Packets packets)) answer old new
prepared_put r net k state tables packets are put =
    let end : RoundsEnd = end_of (outcome.Fixed k state) in
    fixed_put r net (outcome.Fixed k state) end (Packets packets) refl refl (packets_put r net end state tables packets are put)

-- without a fixed point nothing is shown
other_put : (r : Request) (net : Network) (o : Outcome) (end : RoundsEnd) (subject : Subject) {answer : Status} {old new : Option (List ℕ)} → end ≡ end_of o → IsShown net o subject nothing
    → IsWrittenOrMemory (status_after end) (ended_text r.source net end nothing) answer old new → IsPutOf r (found.Ended net o subject) answer old new
other_put r net o end subject {answer} {old} {new} ends shows put =
    by (subst (λ e. IsWrittenOrMemory (status_after e) (ended_text r.source net e nothing) answer old new) ends put)
  where
    by : IsWrittenOrMemory (status_after (end_of o)) (ended_text r.source net (end_of o) nothing) answer old new → IsPutOf r (found.Ended net o subject) answer old new
    by (inl written) = inl (ended net (end_of o) nothing, (nothing, shows, refl), written)
    by (inr (memory, same)) = inr (subst (IsLackingFor r.limits.nodes (found.Ended net o subject)) (sym memory) tt, same)

pub repeats_put : (r : Request) (net : Network) (o : Outcome) (end : RoundsEnd) (subject : Subject) {i k : ℕ} {answer : Status} {old new : Option (List ℕ)}
    → o ≡ outcome.Repeats i k → end ≡ end_of o → IsWrittenOrMemory (status_after end) (ended_text r.source net end nothing) answer old new → IsPutOf r (found.Ended net o subject) answer old new
repeats_put r net o end subject is ends put = other_put r net o end subject ends (subst (λ p. IsShown net p subject nothing) (sym is) refl) put

pub limit_put : (r : Request) (net : Network) (o : Outcome) (end : RoundsEnd) (subject : Subject) {n : ℕ} {answer : Status} {old new : Option (List ℕ)}
    → o ≡ outcome.Limit n → end ≡ end_of o → IsWrittenOrMemory (status_after end) (ended_text r.source net end nothing) answer old new → IsPutOf r (found.Ended net o subject) answer old new
limit_put r net o end subject is ends put = other_put r net o end subject ends (subst (λ p. IsShown net p subject nothing) (sym is) refl) put

pub refused_put : (r : Request) (f : FileFindings) {refusal : NetRefusal} {answer : Status} {old new : Option (List ℕ)}
    → f ≡ file.Refused refusal → IsWrittenOrMemory Refused (refused_line refusal) answer old new → IsPutOf r (found.OfFiles f) answer old new
refused_put r f {refusal} {answer} {old} {new} is put = subst (λ x. IsPutOf r (found.OfFiles x) answer old new) (sym is) (by put)
  where
    by : IsWrittenOrMemory Refused (refused_line refusal) answer old new → IsPutOf r (found.OfFiles (file.Refused refusal)) answer old new
    by (inl written) = inl (refused refusal, refl, written)
    by (inr (memory, same)) = inr (subst (IsLackingFor r.limits.nodes (found.OfFiles (file.Refused refusal))) (sym memory) tt, same)

pub no_place_put : (r : Request) (f : FileFindings) {answer : Status} {old new : Option (List ℕ)}
    → f ≡ file.NoPlace → IsWrittenOrMemory NoPlace (no_place_line (place_text r.ask)) answer old new → IsPutOf r (found.OfFiles f) answer old new
no_place_put r f {answer} {old} {new} is put = subst (λ x. IsPutOf r (found.OfFiles x) answer old new) (sym is) (by put)
  where
    by : IsWrittenOrMemory NoPlace (no_place_line (place_text r.ask)) answer old new → IsPutOf r (found.OfFiles file.NoPlace) answer old new
    by (inl written) = inl (no_place, refl, written)
    by (inr (memory, same)) = inr (subst (IsLackingFor r.limits.nodes (found.OfFiles file.NoPlace)) (sym memory) tt, same)

-- ---- access lists

abbrev OfLists : Network → Option ℕ → Findings
OfLists net router = found.OfFiles (file.Lists net router)

pub lists_put : (r : Request) (net : Network) (router : Option ℕ) (told : List RouterIdle) {answer : Status} {old new : Option (List ℕ)}
    → AreIdleIn net router told → IsWrittenOrMemory Done (routers_text told) answer old new → IsPutOf r (OfLists net router) answer old new
lists_put r net router told are (inl written) = inl (idle told, (told, are, refl), written)
lists_put r net router told are (inr (memory, same)) = inr (subst (IsLackingFor r.limits.nodes (OfLists net router)) (sym memory) tt, same)

pub lacking_for_lists : (r : Request) (net : Network) (router : Option ℕ) (e : SetError) {answer : Status} {old : Option (List ℕ)}
    → answer ≡ lacking_of e → (e ≡ set_error.Full → AreTooFewForLists r.limits.nodes net router) → IsPutOf r (OfLists net router) answer old old
lacking_for_lists r net router set_error.Full is full = inr (subst (IsLackingFor r.limits.nodes (OfLists net router)) (sym is) (full refl), refl)
lacking_for_lists r net router set_error.Memory is full = inr (subst (IsLackingFor r.limits.nodes (OfLists net router)) (sym is) tt, refl)

-- what is put of one of the findings of files is put of them
pub file_put : (r : Request) (f is_f : FileFindings) {answer : Status} {old new : Option (List ℕ)} → f ≡ is_f → IsPutOf r (found.OfFiles is_f) answer old new → IsPutOf r (found.OfFiles f) answer old new
file_put r f is_f {answer} {old} {new} is put = subst (λ x. IsPutOf r (found.OfFiles x) answer old new) (sym is) put

-- ---- failures

pub failures_put : (r : Request) (net : Network) (end : RoundsEnd) (rows : List FailRow) {answer : Status} {old new : Option (List ℕ)}
    → IsWrittenOrMemory (status_after end) (ended_text r.source net end (failures_of rows)) answer old new → IsPutOf r (found.Failures net end rows) answer old new
failures_put r net end rows (inl written) = inl (ended net end (failures_of rows), refl, written)
failures_put r net end rows (inr (memory, same)) = inr (subst (IsLackingFor r.limits.nodes (found.Failures net end rows)) (sym memory) tt, same)
