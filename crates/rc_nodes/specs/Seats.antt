-- What contracts see of a table and of a seat.
use Rattle.std.specs.Prelude.{◌≡◌, ◌≢◌, ℕ, ◌+◌, ◌<◌, ◌≤◌, List, [], ◌∷◌, length, refl}
use Rattle.std.specs.Coded.{Coded, code_by, coded×, coded_ℕ, coded_list}
use Rattle.atomic_table.specs.Seated.{TableId, table_id_coded}
use Rattle.rc_base.specs.Header.{bit_count}
use Rattle.rc_trees.specs.Trees.{Tree, node, top, IsAmong}
use Rattle.rc_nodes.specs.Views.{View, view_code, coded_tree, Has, Knows, Sound}

-- a table: which one it is, how many slots it has, and which trees it may hold
pub record TableView : Type 0 where
  pub table : TableId
  pub capacity : ℕ
  pub may : List Tree

-- a seat: at which table, and what it knows
pub record SeatView : Type 0 where
  pub table : TableId
  pub view : View

abbrev pub table_view_code : Coded TableView
table_view_code = code_by (TableId × (ℕ × List Tree)) (coded× table_id_coded (coded× coded_ℕ (coded_list coded_tree)))
    (λ t. (t.table, (t.capacity, t.may))) (λ p. record { table = p.0; capacity = p.1.0; may = p.1.1 }) (λ _. refl)

abbrev pub seat_view_code : Coded SeatView
seat_view_code = code_by (TableId × View) (coded× table_id_coded view_code)
    (λ t. (t.table, t.view)) (λ p. record { table = p.0; view = p.1 }) (λ _. refl)

-- the seat is that table's
pub record IsSeatOf (nodes : TableView) (seat : SeatView) : Type 0 where
  pub table : seat.table ≡ nodes.table
  pub capacity : seat.view.capacity ≡ nodes.capacity
  pub may : seat.view.may ≡ nodes.may
  pub sound : Sound seat.view

-- the seat knows the reference as this tree
unfoldable pub SeatKnows : SeatView → ℕ → Tree → Type 0
SeatKnows seat r t = Knows seat.view r t

-- what the seat knew before it knows still
abbrev pub Keeps : SeatView → SeatView → Type 0
Keeps before after = (r : ℕ) (t : Tree) → SeatKnows before r t → SeatKnows after r t

-- both sides of a node are known and test greater bits, and the tree above them may be made
pub record MayMake (nodes : TableView) (seat : SeatView) (var lo hi : ℕ) : Type 0 where
  pub bit : var < bit_count
  pub differ : lo ≢ hi
  pub low : Tree
  pub high : Tree
  pub knows_low : SeatKnows seat lo low
  pub knows_high : SeatKnows seat hi high
  pub rises_low : var < top low
  pub rises_high : var < top high
  pub allowed : IsAmong nodes.may (node var low high)

-- the seat has seen the word in the slot of a reference
abbrev pub HasWord : SeatView → ℕ → ℕ → Type 0
HasWord seat r x = (k : ℕ) × (r ≡ k + 2) × Has seat.view.seen k x

-- the seat has seen each slot of the table taken, by another word than x
abbrev pub SawAll : TableView → SeatView → ℕ → Type 0
SawAll nodes seat x = (k : ℕ) → k < nodes.capacity → (w : ℕ) × Has seat.view.seen k w × (w ≢ x)

-- the seat knows the reference as some tree
abbrev pub IsKnown : SeatView → ℕ → Type 0
IsKnown seat r = (t : Tree) × SeatKnows seat r t

-- the seat knows the reference as some tree that is no constant
abbrev pub IsKnownNode : SeatView → ℕ → Type 0
IsKnownNode seat r = (2 ≤ r) × IsKnown seat r

-- no tree stands in the list twice
abbrev pub AreDistinct : List Tree → Type 0
AreDistinct [] = Unit {0}
AreDistinct (t ∷ ts) = ¬ (IsAmong ts t) × AreDistinct ts

-- the seat knows as many different trees as the table has slots, each of which may be made, and the wanted one is a further one
pub record IsCrowded (nodes : TableView) (seat : SeatView) (wanted : Tree) : Type 0 where
  pub trees : List Tree
  pub count : length trees ≡ nodes.capacity
  pub distinct : AreDistinct trees
  pub known : (t : Tree) → IsAmong trees t → (r : ℕ) × SeatKnows seat r t
  pub allowed : (t : Tree) → IsAmong trees t → IsAmong nodes.may t
  pub further : ¬ (IsAmong trees wanted)
  pub wanted_allowed : IsAmong nodes.may wanted

-- the table is crowded for some tree
abbrev pub IsFull : TableView → SeatView → Type 0
IsFull nodes seat = (wanted : Tree) × IsCrowded nodes seat wanted
