-- What a work and its operations promise.
use Rattle.std.specs.Prelude.{◌≡◌, ℕ, ◌<◌, ◌≤◌, Bool, true, false, ◌&&◌, ◌||◌}
use Rattle.rc_base.specs.Header.{bit_count}
use Rattle.rc_trees.specs.Trees.{Tree, top, first_of, low_side, high_side, HasNodesOf}
use Rattle.rc_trees.specs.Combine.{joined, combined, and_not}
use Rattle.rc_nodes.specs.Seats.{TableView, SeatView, SeatKnows, IsFull}
use Rattle.rc_nodes.specs.Views.{Sound}
use Rattle.rc_bdd.specs.declared.memo.Noted.{Noted}
use Rattle.rc_bdd.specs.declared.operation.Operation.{Operation}
use Rattle.rc_bdd.specs.declared.operation.Operation.TheVariants.{And, Or, Minus}
use Rattle.rc_bdd.specs.declared.work.SetError.{SetError}
use Rattle.rc_bdd.specs.declared.work.SetError.TheVariants.{Full}
use Rattle.rc_bdd.specs.declared.work.Sides.{Sides}

-- ---- what operations ask and promise

-- two known trees, and the nodes of what the operation makes of them may be made
pub record MayCombine (nodes : TableView) (seat : SeatView) (operation : Tree → Tree → Tree) (a b : ℕ) : Type 0 where
  pub left : Tree
  pub right : Tree
  pub knows_left : SeatKnows seat a left
  pub knows_right : SeatKnows seat b right
  pub allowed : HasNodesOf nodes.may (operation left right)

-- two known trees that test greater bits, and the nodes of a test above them may be made
pub record MayBranch (nodes : TableView) (seat : SeatView) (var lo hi : ℕ) : Type 0 where
  pub bit : var < bit_count
  pub low : Tree
  pub high : Tree
  pub knows_low : SeatKnows seat lo low
  pub knows_high : SeatKnows seat hi high
  pub rises_low : var < top low
  pub rises_high : var < top high
  pub allowed : HasNodesOf nodes.may (joined var low high)

-- an operation that fails for want of room saw a full table
abbrev pub IsCause : TableView → SeatView → SetError → Type 0
IsCause nodes seat e = e ≡ Full → IsFull nodes seat

-- an operation that takes no memory fails for want of room alone
abbrev pub IsWantOfRoom : TableView → SeatView → SetError → Type 0
IsWantOfRoom nodes seat e = (e ≡ Full) × IsFull nodes seat

-- the side of a tree at a bit, for the headers in which it is 1, or 0
abbrev pub side : Bool → ℕ → Tree → Tree
side true v t = high_side v t
side false v t = low_side v t

-- ---- inside

abbrev pub truth : Operation → Bool → Bool → Bool
truth And = ◌&&◌
truth Or = ◌||◌
truth Minus = and_not

-- whatever trees a seat knows the two as, it knows the third as their combination
abbrev pub Gives : (Bool → Bool → Bool) → ℕ → ℕ → ℕ → Type 0
Gives table a b r = (seat : SeatView) (s t : Tree) → Sound seat.view → SeatKnows seat a s → SeatKnows seat b t → SeatKnows seat r (combined table s t)

-- a note is right: the seat knows its result as what its operation makes of the trees of its two sides
pub record IsRight (seat : SeatView) (note : Noted) : Type 0 where
  pub left : Tree
  pub right : Tree
  pub knows_left : SeatKnows seat note.left.index left
  pub knows_right : SeatKnows seat note.right.index right
  pub knows_result : SeatKnows seat note.result.index (combined (truth note.operation) left right)

-- a known tree tests no bit below this one
abbrev pub IsFrom : SeatView → ℕ → ℕ → Type 0
IsFrom seat from r = (t : Tree) → SeatKnows seat r t → from ≤ top t

-- the sides of two trees at the least bit that one of them tests on top
pub record AreSides (seat : SeatView) (s t : Tree) (sides : Sides) : Type 0 where
  pub var : sides.var ≡ first_of s t
  pub left_low : SeatKnows seat sides.left_low.index (low_side sides.var s)
  pub left_high : SeatKnows seat sides.left_high.index (high_side sides.var s)
  pub right_low : SeatKnows seat sides.right_low.index (low_side sides.var t)
  pub right_high : SeatKnows seat sides.right_high.index (high_side sides.var t)
