-- What a seat knows of sets that are made in rounds.
use Rattle.std.specs.Prelude.{◌≡◌, ℕ, suc, ◌+◌, ◌<◌, Bool, true, false, List, length, replicate, slice_index_or, All}
use Rattle.rc_nodes.specs.Seats.{TableView, SeatView, SeatKnows}
use Rattle.rc_nodes.specs.declared.words.Ref.{Ref}
use Rattle.rc_trees.specs.Trees.{Tree}
use Rattle.rc_trees.specs.Combine.{and}
use Rattle.rc_jobs.specs.Flows.{KnowsFlows, KnowsEdges}
use Rattle.rc_jobs.specs.declared.flow.Flow.{Flow}
use Rattle.rc_sectors.specs.Sectors.{flows_within}
use Rattle.rc_spread.specs.Onward.{turned, MayGoOn}
use Rattle.rc_spread.specs.Gathered.{before, IsInside, MayGather}

-- the seat knows the references as the sets of the positions from a on
pub record KnowsSets (seat : SeatView) (refs : List Ref) (sets : ℕ → Tree) (a : ℕ) : Type 0 where
  pub at : (i : ℕ) (d : Ref) → i < length refs → SeatKnows seat (slice_index_or refs i d).index (sets (a + i))

-- and these are those of the positions from a up to b
pub record KnowsShare (seat : SeatView) (refs : List Ref) (sets : ℕ → Tree) (a b : ℕ) : Type 0 where
  pub count : a + length refs ≡ b
  pub each : KnowsSets seat refs sets a

-- ---- what comes together at a position

-- the seat knows what stands somewhere and what is sent there, each flow as it is in a sector, where positions with nothing fresh send
-- nothing new
pub record AreSent (seat : SeatView) (refs : List Ref) (fresh : List Bool) (flows : List Flow) (sector : List Bool) (here : ℕ) (sets : ℕ → Tree) (start : Tree) (through : List (ℕ × Tree)) : Type 0 where
  pub knows_sets : KnowsSets seat refs sets 0
  pub whole : List (ℕ × Tree)
  pub knows_flows : KnowsFlows seat flows whole
  pub in_sector : through ≡ flows_within sector whole
  pub knows_start : SeatKnows seat here start
  pub as_many : length fresh ≡ length refs
  pub from : All (λ f. f.0 < length refs) through
  pub stale : All (λ f. slice_index_or fresh f.0 false ≡ false → IsInside (and (sets f.0) f.1) start) through

-- and the operations of gathering it may be done
pub record MayGatherRefs (nodes : TableView) (seat : SeatView) (refs : List Ref) (fresh : List Bool) (flows : List Flow) (sector : List Bool) (here : ℕ) : Type 0 where
  pub sets : ℕ → Tree
  pub start : Tree
  pub through : List (ℕ × Tree)
  pub sent : AreSent seat refs fresh flows sector here sets start through
  pub allowed : MayGather nodes.may sets start through

-- ---- rounds

-- the seat knows the sets of the positions after k rounds, and where the last one changed them
pub record IsAfter (seat : SeatView) (refs : List Ref) (fresh : List Bool) (sets : ℕ → ℕ → Tree) (count k : ℕ) : Type 0 where
  pub as_many : length refs ≡ count
  pub known : KnowsSets seat refs (sets k) 0
  pub marks : length fresh ≡ count
  pub stale : (p : ℕ) → p < count → slice_index_or fresh p false ≡ false → sets k p ≡ before sets k p

-- a round that changes nothing is followed by none that does
pub record StaysStill (sets : ℕ → ℕ → Tree) (count : ℕ) : Type 0 where
  pub next : (k : ℕ) → ((q : ℕ) → q < count → sets (suc k) q ≡ sets k q) → (q : ℕ) → q < count → sets (suc (suc k)) q ≡ sets (suc k) q

-- a round is at hand
pub record IsAtHand (Ready : Type 0) (seat : SeatView) (refs : List Ref) (fresh : List Bool) (sets : ℕ → ℕ → Tree) (count k : ℕ) : Type 0 where
  pub ready : Ready
  pub after : IsAfter seat refs fresh sets count k
  pub further : k < count

-- what goes on from each position may be made: the seat knows the edges out of it, and the operations of all rounds may be done
pub record MayOnward (nodes : TableView) (seat : SeatView) (edge : ℕ → ℕ → Tree) (out : List (List Flow)) (everywhere : List Bool) : Type 0 where
  pub edges : KnowsEdges seat out (turned edge)
  pub may : MayGoOn nodes.may edge (length out)
  pub all : everywhere ≡ replicate (length out) true
