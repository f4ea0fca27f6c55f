-- Sectors: the headers that begin with some bits.
use Rattle.std.specs.Prelude.{◌≡◌, ℕ, suc, ◌<◌, Bool, List, [], ◌∷◌, length, map, slice_index_or}
use Rattle.rc_trees.specs.Trees.{Tree}
use Rattle.rc_bdd.specs.Work.{side}

-- a tree whose bits from v on are told: its side at each of them, one behind the other
abbrev pub within_from : ℕ → List Bool → Tree → Tree
within_from v [] t = t
within_from v (b ∷ bs) t = within_from (suc v) bs (side b v t)

-- what a set is in a sector: the set of what may stand behind these bits
abbrev pub within : List Bool → Tree → Tree
within = within_from 0

-- flows as they are in a sector
abbrev pub flows_within : List Bool → List (ℕ × Tree) → List (ℕ × Tree)
flows_within sector flows = map (λ f. (f.0, within sector f.1)) flows

-- edges as they are in a sector
abbrev pub edges_within : List Bool → (ℕ → ℕ → Tree) → ℕ → ℕ → Tree
edges_within sector edge p q = within sector (edge p q)

-- the bits begin with those of a sector
abbrev pub BeginsWith : List Bool → (ℕ → Bool) → Type 0
BeginsWith sector bits = (i : ℕ) (d : Bool) → i < length sector → bits i ≡ slice_index_or sector i d
