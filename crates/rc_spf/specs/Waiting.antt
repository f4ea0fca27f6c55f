-- Nodes that wait to be settled.
use Rattle.std.specs.Prelude.{◌≡◌, ℕ, ◌≤◌, List, [], Bool, true, false, Option, Some, None, Contains, All, map, length, slice_set}
use Rattle.std.specs.declared.cmp.Ordering.{Ordering}
use Rattle.std.specs.declared.cmp.Reverse.{Reverse}
use Rattle.std.specs.List.{slice_index_or, AllPairs}
use Rattle.std.specs.Ordering.{nat_cmp, ordering_then}
use Rattle.rc_spf.specs.Steps.{HasCost, IsNearest}

-- the order of a heap that gives the least cost first
abbrev pub is_after : Reverse (ℕ × ℕ) → Reverse (ℕ × ℕ) → Ordering
is_after x y = ordering_then (nat_cmp y.0.0 x.0.0) (nat_cmp y.0.1 x.0.1)

-- costs and nodes
abbrev pub waiting : List (Reverse (ℕ × ℕ)) → List (ℕ × ℕ)
waiting entries = map (λ (w : Reverse (ℕ × ℕ)). w.0) entries

-- the first waits at no more than the second
abbrev pub IsNearerThan : ℕ × ℕ → ℕ × ℕ → Type 0
IsNearerThan p q = p.0 ≤ q.0

-- none of these waits at more
abbrev pub AreBefore : ℕ → List (ℕ × ℕ) → Type 0
AreBefore cost queue = All (λ (q : ℕ × ℕ). q.0 ≤ cost) queue

-- each entry waits at no less than those before it, and so many of them wait no longer
pub record IsRising (entries : List (ℕ × ℕ)) (gone : ℕ) : Type 0 where
  pub rises : AllPairs IsNearerThan entries
  pub within : gone ≤ length entries

-- the least cost at which one waits, if any does
abbrev pub IsLeastOf : Option ℕ → List (ℕ × ℕ) → Type 0
IsLeastOf None queue = queue ≡ []
IsLeastOf (Some cost) queue = ((node : ℕ) × Contains queue (cost, node)) × All (λ (q : ℕ × ℕ). cost ≤ q.0) queue

-- the first of two costs is no more than the second, where there is a second one
abbrev pub IsFirst : Option ℕ → Option ℕ → Type 0
IsFirst cost None = Unit {0}
IsFirst None (Some other) = ⊥
IsFirst (Some cost) (Some other) = cost ≤ other

-- each open node that has a cost waits at it, and none waits at less than its cost
pub record IsQueue (queue : List (ℕ × ℕ)) (costs : List (Option ℕ)) (settled : List Bool) : Type 0 where
  pub open_waits : (k x : ℕ) → slice_index_or settled k true ≡ false → HasCost costs k x → Contains queue (x, k)
  pub no_lower : (k y : ℕ) → Contains queue (y, k) → (x : ℕ) × HasCost costs k x × (x ≤ y)

-- the queue goes on as one for the new costs
pub record IsStillQueue (queue queue' : List (ℕ × ℕ)) (costs costs' : List (Option ℕ)) : Type 0 where
  pub still : (settled : List Bool) → IsQueue queue costs settled → IsQueue queue' costs' settled

-- the nearest node was taken out, and the queue is one for what is open once it is settled
pub record IsNext (left : List (ℕ × ℕ)) (costs : List (Option ℕ)) (settled : List Bool) (node cost : ℕ) : Type 0 where
  pub nearest : IsNearest costs settled (length settled) node cost
  pub queue : IsQueue left costs (slice_set settled node true)
