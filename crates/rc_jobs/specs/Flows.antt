-- What positions send to one another and what may end at them, as trees, and what a seat knows of it. Positions are numbers from 0 on.
use Rattle.std.specs.Prelude.{◌≡◌, ℕ, ◌<◌, Bool, true, false, List, [], ◌∷◌, length, map, filter, flat_map, slice_index_or}
use Rattle.std.specs.List.{range_with_len}
use Rattle.rc_base.specs.declared.ending.Kind.{Kind}
use Rattle.rc_nodes.specs.Seats.{SeatView, SeatKnows}
use Rattle.rc_nodes.specs.declared.words.Ref.{Ref}
use Rattle.rc_trees.specs.Trees.{Tree, never, always, node}
use Rattle.rc_jobs.specs.declared.flow.Ending.{Ending}
use Rattle.rc_jobs.specs.declared.flow.Flow.{Flow}
use Rattle.rc_jobs.specs.declared.flow.Prepared.{Prepared}

-- so many positions
abbrev pub positions : ℕ → List ℕ
positions count = range_with_len 0 count

-- the edges from some positions to one, each with where it comes from
abbrev pub edges_to : (ℕ → ℕ → Tree) → List ℕ → ℕ → List (ℕ × Tree)
edges_to edge ps q = map (λ p. (p, edge p q)) ps

-- the endings at some positions, each with where it is
abbrev pub endings_of : (ℕ → List Tree) → List ℕ → List (ℕ × Tree)
endings_of ends ps = flat_map (λ q. map (λ e. (q, e)) (ends q)) ps

-- the set has some header
abbrev pub is_something : Tree → Bool
is_something never = false
is_something always = true
is_something (node v low high) = true

-- those that let some header pass
abbrev pub real : List (ℕ × Tree) → List (ℕ × Tree)
real flows = filter (λ f. is_something f.1) flows

-- the edges to a position that let some header pass
abbrev pub real_edges_to : (ℕ → ℕ → Tree) → ℕ → ℕ → List (ℕ × Tree)
real_edges_to edge count q = real (edges_to edge (positions count) q)

-- the endings that some header may have
abbrev pub real_endings : (ℕ → List Tree) → ℕ → List (ℕ × Tree)
real_endings ends count = real (endings_of ends (positions count))

-- of some endings the flows of those of some kinds
abbrev pub flows_of : (Kind → Bool) → List Ending → List Flow
flows_of these endings = map (λ (e : Ending). e.flow) (filter (λ (e : Ending). these e.kind) endings)

-- ---- what a seat knows

-- the references of no header and of every header
abbrev pub no_header : Ref
no_header = record { index = 0 }

abbrev pub any_header : Ref
any_header = record { index = 1 }

-- the seat knows the flows as sets of these trees, from these positions, in order
abbrev pub KnowsFlows : SeatView → List Flow → List (ℕ × Tree) → Type 0
KnowsFlows seat [] [] = Unit {0}
KnowsFlows seat [] (p ∷ ps) = ⊥
KnowsFlows seat (f ∷ fs) [] = ⊥
KnowsFlows seat (f ∷ fs) (p ∷ ps) = (f.from ≡ p.0) × SeatKnows seat f.set.index p.1 × KnowsFlows seat fs ps

-- it knows the edges to each position that let some header pass
pub record KnowsEdges (seat : SeatView) (into : List (List Flow)) (edge : ℕ → ℕ → Tree) : Type 0 where
  pub each : (q : ℕ) (d : List Flow) → q < length into → KnowsFlows seat (slice_index_or into q d) (real_edges_to edge (length into) q)

-- a seat knows the sets of a query: the edges, and of each choice of kinds the endings that some header may have
pub record IsPrepared (seat : SeatView) (edge : ℕ → ℕ → Tree) (ends : (Kind → Bool) → ℕ → List Tree) (count : ℕ) (prepared : Prepared) : Type 0 where
  pub as_many : length prepared.into ≡ count
  pub edges : KnowsEdges seat prepared.into edge
  pub endings : (these : Kind → Bool) → KnowsFlows seat (flows_of these prepared.ends) (real_endings (ends these) count)
