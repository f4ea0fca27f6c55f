-- What is shown of what files were found to be, and what is written of it: a status and a text.
use Rattle.std.specs.Prelude.{◌≡◌, ◌⊎◌, ℕ, List, [], ◌∷◌, ◌++◌, take, MatchOption, Option, option_to_list}
use Rattle.rc_base.specs.declared.ending.Ends.{Ends}
use Rattle.rc_base.specs.declared.header.Header.{Header}
use Rattle.rc_base.specs.declared.position.Pos.{Pos}
use Rattle.rc_bdd.specs.declared.work.SetError.{SetError}
use Rattle.rc_bdd.specs.declared.work.SetError.TheVariants as set_error
use Rattle.rc_bdd.specs.declared.work.SetError.TheVariants.{Full}
use Rattle.rc_config.specs.declared.network.Network.{Network}
use Rattle.rc_cubes.specs.Cubes.{cubes}
use Rattle.rc_cubes.specs.declared.cube.Cube.{Cube}
use Rattle.rc_idle.specs.Told.{AreIdleIn, AreTooFewForLists}
use Rattle.rc_reach.specs.Asked.{IsAskedSet}
use Rattle.rc_reach.specs.Held.{AreTooFew}
use Rattle.rc_reach.specs.Uneven.{arrivals, failures}
use Rattle.rc_reach.specs.declared.asked.Asked.{Asked}
use Rattle.rc_reach.specs.declared.asked.Asked.TheVariants.{Reaching, Looping, Uneven}
use Rattle.rc_report.specs.StateText.{route_count}
use Rattle.rc_report.specs.declared.idle.RouterIdle.{RouterIdle}
use Rattle.rc_route.specs.Outcomes.{end_of}
use Rattle.rc_route.specs.declared.state.RouterState.{RouterState}
use Rattle.rc_route.specs.declared.outcome.Outcome.{Outcome}
use Rattle.rc_route.specs.declared.outcome.Outcome.TheVariants as outcome
use Rattle.rc_route.specs.declared.outcome.RoundsEnd.{RoundsEnd}
use Rattle.rc_trees.specs.Trees.{Tree}
use Rattle.rc_walk.specs.Loops.{IsShortestLoop, NoLoop}
use Rattle.rc_moves.specs.Moves.{DataPlane, plane_of}
use Rattle.rc_walk.specs.ShortestWalks.{IsShortestWalk, NoWalkEnds}
use Rattle.rc_walk.specs.FirstWalks.{IsFirstWalk}
use Rattle.rc_moves.specs.declared.walk.Walk.{Walk}
use Rattle.rc_words.specs.declared.request.Request.{Request}
use Rattle.rc_writing.specs.Written.{IsWritten, status_after}
use Rattle.rc_writing.specs.declared.status.Status.{Status}
use Rattle.rc_writing.specs.declared.status.Status.TheVariants.{Done, Refused, Nodes, Memory, NoPlace}
use Rattle.rc_answers.specs.Given.{Given, refused, no_place, idle, ended, Shown, nothing, routes_of_all, routes_of, walk_of, cubes_of, first_cube_of, failures_of}
use Rattle.rc_answers.specs.Texts.{ended_text, text_of}
use Rattle.rc_answers.specs.declared.findings.FileFindings.TheVariants as file
use Rattle.rc_answers.specs.declared.findings.Findings.{Findings}
use Rattle.rc_answers.specs.declared.findings.Findings.TheVariants as found
use Rattle.rc_answers.specs.declared.subject.Detail.{Detail}
use Rattle.rc_answers.specs.declared.subject.Detail.TheVariants.{Examples, First}
use Rattle.rc_answers.specs.declared.subject.PacketSet.{PacketSet}
use Rattle.rc_answers.specs.declared.subject.Subject.{Subject}
use Rattle.rc_answers.specs.declared.subject.Subject.TheVariants.{AllRouters, OneRouter, Packet, Packets}

-- ---- what is shown

-- the shortest walk of a packet to one of some endings, if there is one
abbrev pub AreShortest : DataPlane → Pos → Ends → Header → List Walk → Type 0
AreShortest plane q ends h walks = (found : Option Walk) × MatchOption found (NoWalkEnds plane h ends q) (IsShortestWalk plane h ends q) × (walks ≡ option_to_list found)

-- the shortest walk of a packet that comes back to a position of its own, if there is one
abbrev pub AreShortestBack : DataPlane → Pos → Header → List Walk → Type 0
AreShortestBack plane q h walks = (found : Option Walk) × MatchOption found (NoLoop plane h q) (IsShortestLoop plane h q) × (walks ≡ option_to_list found)

-- The walks of an example: of packets that reach, the shortest one to an ending asked for; of packets that loop, the shortest one that
-- comes back; of packets with uneven ways, the shortest one that arrives, then the shortest one that fails.
abbrev pub AreWalksOf : DataPlane → Asked → Header → List Walk → Type 0
AreWalksOf plane (Reaching q ends) h walks = AreShortest plane q ends h walks
AreWalksOf plane (Looping q) h walks = AreShortestBack plane q h walks
AreWalksOf plane (Uneven q) h walks = (arriving : List Walk) × (failing : List Walk) × AreShortest plane q arrivals h arriving × AreShortest plane q failures h failing × (walks ≡ arriving ++ failing)

-- the walks of the examples of some cubes: an example has 0 in the bits that its cube leaves free
abbrev pub AreExamples : DataPlane → Asked → List Cube → List (List Walk) → Type 0
AreExamples plane asked [] examples = examples ≡ []
AreExamples plane asked (c ∷ cs) examples = (walks : List Walk) × (rest : List (List Walk)) × (examples ≡ walks ∷ rest) × AreWalksOf plane asked c.value walks × AreExamples plane asked cs rest

-- those of the first cubes of a set, so many
abbrev pub AreExamplesOf : DataPlane → Asked → ℕ → Tree → List (List Walk) → Type 0
AreExamplesOf plane asked most set examples = AreExamples plane asked (take most (cubes set)) examples

-- the cubes of the headers that are asked about, and the walks of the examples of the first ones
pub record AreCubesAsked (plane : DataPlane) (asked : Asked) (most : ℕ) (shown : Shown) : Type 0 where
  pub set : Tree
  pub exact : IsAskedSet plane asked set
  pub walks : List (List Walk)
  pub examples : AreExamplesOf plane asked most set walks
  pub are : shown ≡ cubes_of set walks

-- how many routes there are, and the first cube of the headers that are asked about
pub record IsFirstCubeAsked (plane : DataPlane) (asked : Asked) (routes : ℕ) (shown : Shown) : Type 0 where
  pub set : Tree
  pub exact : IsAskedSet plane asked set
  pub is : shown ≡ first_cube_of routes set

-- how many examples are shown
abbrev pub examples_in : Detail → ℕ
examples_in (Examples most) = most
examples_in First = 0

-- of these cubes, all with so many examples, or the first alone behind the number of routes
abbrev pub IsDetail : DataPlane → ℕ → Asked → Detail → Shown → Type 0
IsDetail plane routes asked (Examples most) shown = AreCubesAsked plane asked most shown
IsDetail plane routes asked First shown = IsFirstCubeAsked plane asked routes shown

abbrev pub ArePacketsShown : DataPlane → ℕ → PacketSet → Shown → Type 0
ArePacketsShown plane routes set shown = IsDetail plane routes set.asked set.detail shown

-- what is shown of a fixed point, where this is asked: routes, a packet's first walk, or the cubes of a set of headers
abbrev pub IsShownAtFixed : Network → List RouterState → Subject → Shown → Type 0
IsShownAtFixed net state AllRouters shown = shown ≡ routes_of_all state
IsShownAtFixed net state (OneRouter r) shown = shown ≡ routes_of state r
IsShownAtFixed net state (Packet position header) shown = (walk : Walk) × IsFirstWalk (plane_of net state) header position walk × (shown ≡ walk_of walk)
IsShownAtFixed net state (Packets set) shown = ArePacketsShown (plane_of net state) (route_count state) set shown

-- What is shown after the outcome of the rounds, where this is asked. Only a fixed point has routes, walks and sets to show.
abbrev pub IsShown : Network → Outcome → Subject → Shown → Type 0
IsShown net (outcome.Fixed k state) subject shown = IsShownAtFixed net state subject shown
IsShown net (outcome.Repeats i k) subject shown = shown ≡ nothing
IsShown net (outcome.Limit n) subject shown = shown ≡ nothing

-- what was found gives: the first refusal, or that there is no such place, or the lines that never decide, or how the rounds ended and what is shown after it, as what each single link's failure does
abbrev pub IsGivenBy : Findings → Given → Type 0
IsGivenBy (found.OfFiles (file.Refused refusal)) g = g ≡ refused refusal
IsGivenBy (found.OfFiles file.NoPlace) g = g ≡ no_place
IsGivenBy (found.OfFiles (file.Lists net routers)) g = (told : List RouterIdle) × AreIdleIn net routers told × (g ≡ idle told)
IsGivenBy (found.Ended net outcome subject) g = (shown : Shown) × IsShown net outcome subject shown × (g ≡ ended net (end_of outcome) shown)
IsGivenBy (found.Failures net end rows) g = g ≡ ended net end (failures_of rows)

-- ---- the status and the text

-- the status of what was found
abbrev pub status_of : Given → Status
status_of (refused refusal) = Refused
status_of no_place = NoPlace
status_of (idle routers) = Done
status_of (ended net end shown) = status_after end

-- so many nodes are too few for what is asked of a fixed point
abbrev pub NeedsMore : ℕ → Network → List RouterState → Subject → Type 0
NeedsMore most net state (Packets set) = AreTooFew most (plane_of net state) set.asked
NeedsMore most net state _ = ⊥

-- the query over what was found needs more different nodes than the table may have
abbrev pub NeedsMoreNodes : ℕ → Findings → Type 0
NeedsMoreNodes most (found.Ended net (outcome.Fixed k state) subject) = NeedsMore most net state subject
NeedsMoreNodes most (found.OfFiles (file.Lists net routers)) = AreTooFewForLists most net routers
NeedsMoreNodes most _ = ⊥

-- What may be lacking for what was found, so that nothing is written though no call failed: memory, or nodes.
abbrev pub IsLackingFor : ℕ → Findings → Status → Type 0
IsLackingFor most f Memory = Unit {0}
IsLackingFor most f Nodes = NeedsMoreNodes most f
IsLackingFor most f _ = ⊥

-- what is lacking where a set can't be made
abbrev pub lacking_of : SetError → Status
lacking_of Full = Nodes
lacking_of set_error.Memory = Memory

-- One thing that is to be shown is written behind how the rounds ended; or nothing is, where memory ran out, or where more nodes are needed.
abbrev pub IsPutBehind : Request → Network → RoundsEnd → (Shown → Type 0) → Type 0 → Status → Option (List ℕ) → Option (List ℕ) → Type 0
IsPutBehind r net end IsToShow IsMoreNeeded answer old new =
    ((shown : Shown) × IsToShow shown × IsWritten (status_after end) (ended_text r.source net end shown) answer old new)
    ⊎ ((answer ≡ Memory) × (new ≡ old)) ⊎ ((answer ≡ Nodes) × IsMoreNeeded × (new ≡ old))

-- so it is with what is asked of a fixed point
abbrev pub IsPutAtFixed : Request → Network → RoundsEnd → List RouterState → Subject → Status → Option (List ℕ) → Option (List ℕ) → Type 0
IsPutAtFixed r net end state subject answer old new = IsPutBehind r net end (IsShownAtFixed net state subject) (NeedsMore r.limits.nodes net state subject) answer old new

-- so it is with the packets that are asked about over a plane, whose tables have so many routes
abbrev pub IsPutOver : Request → DataPlane → RoundsEnd → ℕ → PacketSet → Status → Option (List ℕ) → Option (List ℕ) → Type 0
IsPutOver r plane end routes set answer old new = IsPutBehind r plane.network end (ArePacketsShown plane routes set) (AreTooFew r.limits.nodes plane set.asked) answer old new

-- What was found is written as it gives; or nothing is, where something is lacking.
abbrev pub IsPutOf : Request → Findings → Status → Option (List ℕ) → Option (List ℕ) → Type 0
IsPutOf r f answer old new = ((g : Given) × IsGivenBy f g × IsWritten (status_of g) (text_of r g) answer old new) ⊎ (IsLackingFor r.limits.nodes f answer × (new ≡ old))
