-- Sets of headers at each position, as trees, made in rounds, each round's of those of the one before. Positions are numbers from 0 on.
use Rattle.std.specs.Prelude.{◌≡◌, ℕ, zero, suc, Bool, true, List, [], ◌∷◌}
use Rattle.std.specs.List.{fold}
use Rattle.rc_trees.specs.Combine.{and, or}
use Rattle.rc_trees.specs.Trees.{Tree, never, value, HasNodesOf}

-- what stands somewhere, and what some positions send there, each through a set, one after another
abbrev pub gathered : (ℕ → Tree) → Tree → List (ℕ × Tree) → Tree
gathered sets here flows = fold (λ s f. or s (and (sets f.0) f.1)) here flows

-- what stood at a position a round before; before the first one nothing
abbrev pub before : (ℕ → ℕ → Tree) → ℕ → ℕ → Tree
before sets zero q = never
before sets (suc k) q = sets k q

-- each header of one set is in another
abbrev pub IsInside : Tree → Tree → Type 0
IsInside s t = (bits : ℕ → Bool) → value s bits ≡ true → value t bits ≡ true

-- ---- which operations may be done

-- those of gathering what some positions send, one after another
unfoldable pub MayGather : List Tree → (ℕ → Tree) → Tree → List (ℕ × Tree) → Type 0
MayGather may sets here [] = Unit {0}
MayGather may sets here (f ∷ fs) = HasNodesOf may (and (sets f.0) f.1) × HasNodesOf may (or here (and (sets f.0) f.1)) × MayGather may sets (or here (and (sets f.0) f.1)) fs
