-- The cubes of a set of headers: the ways through its tree to true.
use Rattle.std.specs.Prelude.{◌≡◌, ℕ, ◌<◌, ◌⊎◌, Bool, true, false, cond, List, [], ◌∷◌, ◌++◌, map, Option, Some, None}
use Rattle.rc_base.specs.Fields.{zeros}
use Rattle.rc_base.specs.Header.{bit, bit_count, set_bit}
use Rattle.rc_nodes.specs.declared.words.Node.{Node}
use Rattle.rc_nodes.specs.Seats.{SeatView, SeatKnows}
use Rattle.rc_trees.specs.Trees.{Tree, never, always, node}
use Rattle.rc_cubes.specs.declared.cube.Cube.{Cube}

-- the cube of all headers tests no bit
abbrev pub all : Cube
all = record { value = zeros; mask = zeros }

-- a cube that tests one bit more
unfoldable pub with_test : ℕ → Bool → Cube → Cube
with_test v x c = record { value = cond x (set_bit c.value v) c.value; mask = set_bit c.mask v }

-- the cubes of a tree, which are its ways to true, low sides first
abbrev pub cubes : Tree → List Cube
cubes never = []
cubes always = all ∷ []
cubes (node v l h) = map (with_test v false) (cubes l) ++ map (with_test v true) (cubes h)

-- Those behind a cube: of a cube of the tree they are the ones that stand behind it in the list (`what_is_left_stands_behind`). It goes to the
-- high side where its bit is 1, else to the low side, and the high side's are behind.
abbrev pub later : Cube → Tree → List Cube
later c never = []
later c always = []
later c (node v l h) = cond (bit c.value v) (map (with_test v true) (later c h)) (map (with_test v false) (later c l) ++ map (with_test v true) (cubes h))

-- the cubes that are left of a tree behind a place in it
abbrev pub left : Option Cube → Tree → List Cube
left None t = cubes t
left (Some c) t = later c t

-- which cube stands first, and what is left without it
abbrev pub Goes : List Cube → Option Cube → List Cube → Type 0
Goes before None after = (before ≡ []) × (after ≡ [])
Goes before (Some c) after = before ≡ c ∷ after

-- the seat knows the node's sides as the tree's
pub record IsOpened (seat : SeatView) (n : Node) (t : Tree) : Type 0 where
  pub low : Tree
  pub high : Tree
  pub is_node : t ≡ node n.var low high
  pub knows_low : SeatKnows seat n.lo.index low
  pub knows_high : SeatKnows seat n.hi.index high

-- the value has 0 in each bit that isn't under the mask
abbrev pub IsTight : Cube → Type 0
IsTight c = (k : ℕ) → k < bit_count → bit c.mask k ≡ false → bit c.value k ≡ false

-- the bits under the mask are those of the value
abbrev pub IsIn : Cube → (ℕ → Bool) → Type 0
IsIn c bits = (k : ℕ) → k < bit_count → bit c.mask k ≡ true → bits k ≡ bit c.value k

-- a header is in none of the cubes
abbrev pub IsInNone : List Cube → (ℕ → Bool) → Type 0
IsInNone [] bits = Unit {0}
IsInNone (c ∷ cs) bits = (¬ (IsIn c bits)) × IsInNone cs bits

-- a header is in exactly one of the cubes
abbrev pub IsInOne : List Cube → (ℕ → Bool) → Type 0
IsInOne [] bits = ⊥
IsInOne (c ∷ cs) bits = (IsIn c bits × IsInNone cs bits) ⊎ ((¬ (IsIn c bits)) × IsInOne cs bits)
