-- Flows that are collected from positions in a row.
use Rattle.std.specs.Prelude.{◌≡◌, ℕ, ◌-◌, ◌<◌, ◌≤◌, ◌==◌, ◌++◌, Bool, List, [], ◌∷◌, length, slice_index_or, if◌then◌else◌}
use Rattle.std.specs.List.{range_with_len}
use Rattle.rc_base.specs.declared.ending.Kind.{Kind}
use Rattle.rc_jobs.specs.Flows.{KnowsFlows, edges_to, endings_of, flows_of, real}
use Rattle.rc_jobs.specs.declared.collected.Collected.{Collected}
use Rattle.rc_jobs.specs.declared.flow.Ending.{Ending}
use Rattle.rc_jobs.specs.declared.flow.Flow.{Flow}
use Rattle.rc_nodes.specs.Seats.{SeatView}
use Rattle.rc_nodes.specs.declared.words.Ref.{Ref}
use Rattle.rc_trees.specs.Trees.{Tree}

-- a set that may hold some header stands behind the others
abbrev pub with_flow : List Flow → ℕ → Ref → List Flow
with_flow flows from set = if set.index == 0 then flows else flows ++ record { from = from; set = set } ∷ []

-- an ending whose set may hold some header stands behind the others
abbrev pub with_ending : List Ending → ℕ → Kind → Ref → List Ending
with_ending endings from kind set = if set.index == 0 then endings else endings ++ record { kind = kind; flow = record { from = from; set = set } } ∷ []

-- the numbers from one up to another
abbrev pub numbers : ℕ → ℕ → List ℕ
numbers start end = range_with_len start (end - start)

-- to each position the edges from the positions of some numbers are known, where they let some header pass
pub record AreRows (seat : SeatView) (into : List (List Flow)) (edge : ℕ → ℕ → Tree) (start end : ℕ) : Type 0 where
  pub each : (t : ℕ) (d : List Flow) → t < length into → KnowsFlows seat (slice_index_or into t d) (real (edges_to edge (numbers start end) t))

-- the seat knows what the positions of some numbers send to each position, and of each choice of kinds which endings some header may
-- have there
pub record IsCollected (seat : SeatView) (edge : ℕ → ℕ → Tree) (ends : (Kind → Bool) → ℕ → List Tree) (count a b : ℕ) (flows : Collected) : Type 0 where
  pub order : a ≤ b
  pub as_many : length flows.into.items ≡ count
  pub rows : AreRows seat flows.into.items edge a b
  pub endings : (these : Kind → Bool) → KnowsFlows seat (flows_of these flows.ends) (real (endings_of (ends these) (numbers a b)))

-- behind each list stands what another list has at its place
pub record AreAppended (into more after : List (List Flow)) : Type 0 where
  pub as_many : length after ≡ length into
  pub each : (t : ℕ) (d : List Flow) → t < length into → slice_index_or after t d ≡ slice_index_or into t [] ++ slice_index_or more t []
