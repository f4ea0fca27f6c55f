-- The headers that go on from positions, round by round, as trees. Positions are numbers from 0 on.
use Rattle.std.specs.Prelude.{ℕ, zero, suc, ◌<◌, List}
use Rattle.rc_trees.specs.Trees.{Tree, never, always}
use Rattle.rc_jobs.specs.Flows.{edges_to, positions}
use Rattle.rc_spread.specs.Gathered.{gathered, MayGather}

-- an edge, from where it leads to
abbrev pub turned : (ℕ → ℕ → Tree) → ℕ → ℕ → Tree
turned edge t q = edge q t

module _ (edge : ℕ → ℕ → Tree) (count : ℕ) where
  -- the headers that have so many moves one after another from a position: at first all, and in each round those of which an edge leads to
  -- a position from which they had one move less
  unfoldable pub onward : ℕ → ℕ → Tree
  onward zero q = always
  onward (suc k) q = gathered (onward k) never (edges_to (turned edge) (positions count) q)

-- the operations of all these rounds may be done
abbrev pub MayGoOn : List Tree → (ℕ → ℕ → Tree) → ℕ → Type 0
MayGoOn may edge count = (k q : ℕ) → k < count → q < count → MayGather may (onward edge count k) never (edges_to (turned edge) (positions count) q)
