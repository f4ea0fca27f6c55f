-- One step of combining: the sides are combined, and joined.
use Rattle.std.proofs.Common.{◌≡◌, ℕ, ◌+◌, ◌-◌, ◌<◌, ◌≤◌, sym, ap, subst, arith, Bool}
use Rattle.rc_base.specs.Header.{bit_count}
use Rattle.rc_trees.specs.Trees.{Tree, node, top, IsReduced, HasNodesOf, low_side, high_side}
use Rattle.rc_nodes.specs.Views.{Sound}
use Rattle.rc_nodes.specs.Seats.{TableView, SeatView, SeatKnows, Keeps}
use Rattle.rc_trees.specs.Combine.{combined, joined}
use Rattle.rc_bdd.specs.Work.{MayCombine, MayBranch, IsFrom, AreSides}
use Rattle.rc_bdd.specs.declared.work.Sides.{Sides}
use Rattle.rc_trees.proofs.ReducedLaws.{top-le}
use Rattle.rc_trees.proofs.OperationLaws.{combined_step, low_starts, high_starts}
use Rattle.rc_trees.proofs.SideLaws.{low_top, high_top, joined_low, joined_high}
use Rattle.rc_nodes.proofs.KnownLaws.{one_known, known_reduced, known_node}

node_small : (t : Tree) → IsReduced t → (v : ℕ) (l h : Tree) → t ≡ node v l h → top t < bit_count
node_small t r v l h e =
    let n : IsReduced (node v l h) = subst IsReduced e r in
    let top : top t ≡ v = ap (λ u. top u) e in
    let a = n.0 in let b = top-le l n.3 in omega arith

-- two sets that aren't noted, of which the right one is no constant, and their sides
pub record IsStep (nodes : TableView) (f : Bool → Bool → Bool) (seat : SeatView) (a b : ℕ) (after : SeatView) (sides : Sides) : Type 0 where
  pub sound : Sound seat.view
  pub may : MayCombine nodes seat (combined f) a b
  pub two : 2 ≤ b
  pub at : AreSides after may.left may.right sides

module _ {nodes : TableView} {f : Bool → Bool → Bool} {seat : SeatView} {a b : ℕ} {after : SeatView} {sides : Sides} (w : IsStep nodes f seat a b after sides) where
  abbrev s : Tree
  s = w.may.left

  abbrev t : Tree
  t = w.may.right

  abbrev v : ℕ
  v = sides.var

  rs : IsReduced s
  rs = known_reduced seat w.sound a s w.may.knows_left

  rt : IsReduced t
  rt = known_reduced seat w.sound b t w.may.knows_right

  pub bit : v < bit_count
  bit = let (x, l, h, e) = known_node seat b t w.two w.may.knows_right in let small = node_small t rt x l h e in let is = w.at.var in omega arith

  under_s : v ≤ top s
  under_s = let is = w.at.var in omega arith

  under_t : v ≤ top t
  under_t = let is = w.at.var in omega arith

  pub falls : (from : ℕ) → IsFrom seat from a → IsFrom seat from b → bit_count - (v + 1) < bit_count - from
  falls from fa fb = let p = fa s w.may.knows_left in let q = fb t w.may.knows_right in let is = w.at.var in let small = bit in omega arith

  abbrev low : Tree
  low = combined f (low_side v s) (low_side v t)

  abbrev high : Tree
  high = combined f (high_side v s) (high_side v t)

  step : combined f s t ≡ joined v low high
  step = combined_step f v s t rs rt bit under_s under_t

  allowed : HasNodesOf nodes.may (joined v low high)
  allowed = subst (HasNodesOf nodes.may) step w.may.allowed

  pub may_low : MayCombine nodes after (combined f) sides.left_low.index sides.right_low.index
  may_low = record { left = low_side v s; right = low_side v t; knows_left = w.at.left_low; knows_right = w.at.right_low; allowed = joined_low nodes.may v low high allowed }

  pub may_high : (later : SeatView) → Keeps after later → MayCombine nodes later (combined f) sides.left_high.index sides.right_high.index
  may_high later keeps = record {
    left = high_side v s;
    right = high_side v t;
    knows_left = keeps sides.left_high.index (high_side v s) w.at.left_high;
    knows_right = keeps sides.right_high.index (high_side v t) w.at.right_high;
    allowed = joined_high nodes.may v low high allowed;
  }

  module _ (later : SeatView) (keeps : Keeps after later) (known : Sound later.view) where
    from : (r : ℕ) (u : Tree) → SeatKnows after r u → v < top u → IsFrom later (v + 1) r
    from r u k lt x kx = let same = ap (λ y. top y) (one_known later known r x u kx (keeps r u k)) in omega arith

    pub from_left_low : IsFrom later (v + 1) sides.left_low.index
    from_left_low = from sides.left_low.index (low_side v s) w.at.left_low (low_top v s rs bit under_s)

    pub from_right_low : IsFrom later (v + 1) sides.right_low.index
    from_right_low = from sides.right_low.index (low_side v t) w.at.right_low (low_top v t rt bit under_t)

    pub from_left_high : IsFrom later (v + 1) sides.left_high.index
    from_left_high = from sides.left_high.index (high_side v s) w.at.left_high (high_top v s rs bit under_s)

    pub from_right_high : IsFrom later (v + 1) sides.right_high.index
    from_right_high = from sides.right_high.index (high_side v t) w.at.right_high (high_top v t rt bit under_t)

  -- the sides are combined
  module _ (lo hi : ℕ) (later : SeatView) (knows_low : SeatKnows later lo low) (knows_high : SeatKnows later hi high) where
    pub may_branch : MayBranch nodes later v lo hi
    may_branch = record {
      bit = bit;
      low = low;
      high = high;
      knows_low = knows_low;
      knows_high = knows_high;
      rises_low = (low_starts f v s t rs rt bit under_s under_t).1;
      rises_high = (high_starts f v s t rs rt bit under_s under_t).1;
      allowed = allowed;
    }

    pub known_result : (last : SeatView) (r : ℕ) → ((l h : Tree) → SeatKnows later lo l → SeatKnows later hi h → SeatKnows last r (joined v l h)) → SeatKnows last r (combined f s t)
    known_result last r joined = subst (SeatKnows last r) (sym step) (joined low high knows_low knows_high)
