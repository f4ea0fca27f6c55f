-- How many cubes of a set are left: a number that gets less with each cube, so that a loop over them ends.
use Rattle.std.specs.Prelude.{ℕ, zero, suc, ◌+◌, ◌==◌, List, [], ◌∷◌, length, if◌then◌else◌}
use Rattle.rc_base.specs.Header.{bit_count}
use Rattle.rc_nodes.specs.Seats.{SeatView}
use Rattle.rc_nodes.specs.Words.{var_of, lo_of, hi_of}
use Rattle.rc_trees.specs.Trees.{Tree, never, always, node}
use Rattle.rc_cubes.specs.declared.cubes_of.Cubes.{Cubes}
use Rattle.rc_cubes.specs.Cubes.{left}

-- the word that was seen at a slot, or 0
abbrev pub word_at : List (ℕ × ℕ) → ℕ → ℕ
word_at [] slot = 0
word_at (p ∷ seen) slot = if p.0 == slot then p.1 else word_at seen slot

-- the tree of a reference over the words that were seen, down to so many levels
unfoldable pub tree_of : ℕ → List (ℕ × ℕ) → ℕ → Tree
tree_of zero seen r = never
tree_of (suc levels) seen zero = never
tree_of (suc levels) seen (suc zero) = always
tree_of (suc levels) seen (suc (suc slot)) =
    let word = word_at seen slot in node (var_of word) (tree_of levels seen (lo_of word)) (tree_of levels seen (hi_of word))

-- the cubes that are left of a set that the seat knows: no tree has more levels than a header has bits, and its constants
unfoldable pub cubes_left : SeatView → Cubes → ℕ
cubes_left seat cubes = length (left cubes.last (tree_of (bit_count + 1) seat.view.seen cubes.set.index))
