-- Passages: sets of headers, each with another one through which it goes.
use Rattle.std.specs.Prelude.{◌≡◌, ℕ, ◌<◌, ◌&&◌, ◌++◌, Bool, List, [], ◌∷◌, length, map, filter, All}
use Rattle.rc_bdd.specs.Work.{IsFrom, side}
use Rattle.rc_jobs.specs.Flows.{KnowsFlows, is_something}
use Rattle.rc_jobs.specs.declared.flow.Flow.{Flow}
use Rattle.rc_nodes.specs.Seats.{TableView, SeatView, IsKnown, SeatKnows}
use Rattle.rc_nodes.specs.declared.words.Ref.{Ref}
use Rattle.rc_sectors.specs.Sectors.{within, flows_within}
use Rattle.rc_spread.specs.Gathered.{MayGather}
use Rattle.rc_spread.specs.Known.{KnowsSets}
use Rattle.rc_spread.specs.declared.united.Passage.{Passage}
use Rattle.rc_trees.specs.Trees.{Tree, never, IsReduced}

-- of what positions send, each through a set, that of which something may come through: both sets hold something
abbrev pub passing : (ℕ → Tree) → List (ℕ × Tree) → List (ℕ × Tree)
passing sets flows = filter (λ f. is_something (sets f.0) && is_something f.1) flows

-- the seat knows passages as what positions send, each through a set, in order
abbrev pub KnowsPassages : SeatView → (ℕ → Tree) → List Passage → List (ℕ × Tree) → Type 0
KnowsPassages seat sets [] [] = Unit {0}
KnowsPassages seat sets [] (f ∷ fs) = ⊥
KnowsPassages seat sets (p ∷ ps) [] = ⊥
KnowsPassages seat sets (p ∷ ps) (f ∷ fs) = SeatKnows seat p.set.index (sets f.0) × SeatKnows seat p.through.index f.1 × KnowsPassages seat sets ps fs

-- in a sector of so many bits, passages are what may come through of what positions send
pub record ArePassages (seat : SeatView) (passages : List Passage) (bits : ℕ) (sector : List Bool) (sets : ℕ → Tree) (flows : List (ℕ × Tree)) : Type 0 where
  pub long : length sector ≡ bits
  pub reduced : All (λ f. IsReduced (sets f.0) × IsReduced f.1) flows
  pub known : KnowsPassages seat (λ q. within sector (sets q)) passages (passing (λ q. within sector (sets q)) (flows_within sector flows))

-- and the operations of gathering that in all headers may be done
pub record MayUnite (nodes : TableView) (seat : SeatView) (passages : List Passage) (bits : ℕ) : Type 0 where
  pub sector : List Bool
  pub sets : ℕ → Tree
  pub flows : List (ℕ × Tree)
  pub are : ArePassages seat passages bits sector sets flows
  pub allowed : MayGather nodes.may sets never flows

-- the seat knows what stands at positions in a sector, and sets through which they send it
pub record AreThere (seat : SeatView) (refs : List Ref) (flows : List Flow) (sector : List Bool) (sets : ℕ → Tree) (whole : List (ℕ × Tree)) : Type 0 where
  pub knows_sets : KnowsSets seat refs (λ q. within sector (sets q)) 0
  pub knows_flows : KnowsFlows seat flows whole
  pub from : All (λ f. f.0 < length refs) whole
  pub reduced : (q : ℕ) → IsReduced (sets q)

-- it knows them of some sets
pub record AreSomeThere (seat : SeatView) (refs : List Ref) (flows : List Flow) (sector : List Bool) : Type 0 where
  pub sets : ℕ → Tree
  pub whole : List (ℕ × Tree)
  pub are : AreThere seat refs flows sector sets whole

-- ---- inside

-- passages are known, and the operations of gathering what comes through may be done
pub record MayUniteInTurn (nodes : TableView) (seat : SeatView) (passages : List Passage) : Type 0 where
  pub sets : ℕ → Tree
  pub flows : List (ℕ × Tree)
  pub known : KnowsPassages seat sets passages flows
  pub allowed : MayGather nodes.may sets never flows

-- both sets of a passage are known, and test no bit below this one
pub record TestsFrom (seat : SeatView) (bit : ℕ) (passage : Passage) : Type 0 where
  pub set_known : IsKnown seat passage.set.index
  pub set_from : IsFrom seat bit passage.set.index
  pub through_known : IsKnown seat passage.through.index
  pub through_from : IsFrom seat bit passage.through.index

-- a set and what it goes through come behind passages, where something may come through
abbrev pub Takes : List Passage → List Passage → ℕ → ℕ → Type 0
Takes before after set through =
    (seat : SeatView) (sets : ℕ → Tree) (flows : List (ℕ × Tree)) (flow : ℕ × Tree) → KnowsPassages seat sets before flows → SeatKnows seat set (sets flow.0) → SeatKnows seat through flow.1
    → KnowsPassages seat sets after (flows ++ passing sets (flow ∷ []))

-- so do the sides of a passage at a bit
abbrev pub TakesSide : SeatView → SeatView → List Passage → List Passage → Passage → ℕ → Bool → Type 0
TakesSide seat later before after passage bit high =
    (sets : ℕ → Tree) (flows : List (ℕ × Tree)) (flow : ℕ × Tree) (s t : Tree) → KnowsPassages seat sets before flows → SeatKnows seat passage.set.index s → SeatKnows seat passage.through.index t
    → sets flow.0 ≡ side high bit s → flow.1 ≡ side high bit t → KnowsPassages later sets after (flows ++ passing sets (flow ∷ []))

-- and so do a set and what another one is in a sector
abbrev pub TakesThere : SeatView → SeatView → List Passage → List Passage → ℕ → ℕ → List Bool → Type 0
TakesThere seat later before after set through sector =
    (sets : ℕ → Tree) (flows : List (ℕ × Tree)) (flow : ℕ × Tree) (t : Tree) → KnowsPassages seat sets before flows → SeatKnows seat set (sets flow.0) → SeatKnows seat through t → flow.1 ≡ within sector t
    → KnowsPassages later sets after (flows ++ passing sets (flow ∷ []))

-- what positions send, at the sides of all sets
abbrev pub sided : Bool → ℕ → (ℕ → Tree) → ℕ → Tree
sided high bit sets q = side high bit (sets q)

abbrev pub flow_sided : Bool → ℕ → ℕ × Tree → ℕ × Tree
flow_sided high bit f = (f.0, side high bit f.1)

-- others are the sides of passages at a bit, where something may come through
abbrev pub AreSidesOf : SeatView → SeatView → List Passage → List Passage → ℕ → Bool → Type 0
AreSidesOf seat later passages sides bit high =
    (sets : ℕ → Tree) (flows : List (ℕ × Tree)) → KnowsPassages seat sets passages flows → KnowsPassages later (sided high bit sets) sides (passing (sided high bit sets) (map (flow_sided high bit) flows))
