-- The states of a table: its words, and what each seat knows.
use Rattle.std.specs.Prelude.{◌≡◌, ◌≢◌, ℕ, ◌+◌, ◌<◌, ◌⊎◌, false, List, length, slice_index}
use mathlib.Core.Option.{some}
use lib.ListN.{get_elem?}
use Rattle.atomic_table.specs.Table.{State}
use Rattle.rc_base.specs.Header.{bit_count}
use Rattle.rc_trees.specs.Trees.{Tree, IsAmong}
use Rattle.rc_nodes.specs.Words.{IsWord, var_of, lo_of, hi_of, slot_at}
use Rattle.rc_nodes.specs.Seats.{TableView, SeatView}
use Rattle.rc_nodes.specs.Views.{View, Has, StandsAt, Unfolds}

-- a reference below a node that tests bit v: a constant, or a slot whose word tests a greater bit
abbrev pub IsBelow : List ℕ → ℕ → ℕ → Type 0
IsBelow words v r = (r < 2) ⊎ ((k : ℕ) × (w : ℕ) × (r ≡ k + 2) × StandsAt words k w × (v < var_of w))

-- the word of a node whose sides differ, each a constant or a slot with a node that tests a greater bit
pub record IsNode (words : List ℕ) (w : ℕ) : Type 0 where
  pub is_word : IsWord w
  pub bit : var_of w < bit_count
  pub differ : lo_of w ≢ hi_of w
  pub lo : IsBelow words (var_of w) (lo_of w)
  pub hi : IsBelow words (var_of w) (hi_of w)

-- before its own slot on its path, a word finds only words that are neither 0 nor itself
abbrev pub IsOnPath : ℕ → List ℕ → ℕ → ℕ → Type 0
IsOnPath capacity words k w = (d : ℕ) × (d < capacity) × (k ≡ slot_at capacity w d) × ((j : ℕ) → j < d → (slice_index words (slot_at capacity w j) ≢ 0) × (slice_index words (slot_at capacity w j) ≢ w))

-- an unspent view is of this table, and what it has seen stands there
abbrev pub Agrees : ℕ → List Tree → List ℕ → View → Type 0
Agrees capacity may words v = v.spent ≡ false → (v.capacity ≡ capacity) × (v.may ≡ may) × ((k w : ℕ) → Has v.seen k w → StandsAt words k w)

-- some seat has seen the word at its slot
abbrev pub IsSeen : List View → ℕ → ℕ → Type 0
IsSeen views k w = (id : ℕ) × (v : View) × (get_elem? views id ≡ some v) × Has v.seen k w

-- A good state: each word that is not 0 is a node's, stands where its probe comes to first, and was seen by some seat; each view agrees with
-- the words; each node's tree may be made.
pub record Good (capacity : ℕ) (may : List Tree) (s : State (Unit {0}) View) : Type 0 where
  pub size : length s.words ≡ capacity
  pub some_slot : 0 < capacity
  pub nodes : (k w : ℕ) → StandsAt s.words k w → IsNode s.words w
  pub paths : (k w : ℕ) → StandsAt s.words k w → IsOnPath capacity s.words k w
  pub views : (id : ℕ) (v : View) → get_elem? s.views id ≡ some v → Agrees capacity may s.words v
  pub trees : (k w : ℕ) → StandsAt s.words k w → (t : Tree) × Unfolds (StandsAt s.words) (k + 2) t × IsAmong may t
  pub seen : (k w : ℕ) → StandsAt s.words k w → IsSeen s.views k w

-- the words are those of a good state of the table, in which the seat has its view
pub record IsLeft (nodes : TableView) (seat : SeatView) (words : List ℕ) : Type 0 where
  pub state : State (Unit {0}) View
  pub good : Good nodes.capacity nodes.may state
  pub words_are : state.words ≡ words
  pub number : ℕ
  pub has_view : get_elem? state.views number ≡ some seat.view
