-- Steps of the operations.
use Rattle.std.proofs.Common.{◌≡◌, ◌≢◌, ℕ, ◌<◌, ◌≤◌, refl, sym, ap, subst, ◌∙◌, arith, Bool, IfOk, IfErr, Result, Ok, Err, true, false, cond, eq-eqb, inl, inr, nat_eq, Option, Some, None, MatchOption, List, replicate}
use Rattle.rc_base.specs.Header.{bit_count}
use Rattle.rc_trees.specs.Trees.{Tree, never, always, node, top, IsReduced, low_side, high_side}
use Rattle.rc_nodes.specs.Views.{Sound}
use Rattle.rc_nodes.specs.Seats.{TableView, SeatView, SeatKnows, MayMake, IsCrowded, IsFull}
use Rattle.rc_trees.specs.Combine.{combined, joined}
use Rattle.rc_bdd.specs.Work.{truth, MayBranch, IsRight}
use Rattle.rc_bdd.specs.declared.memo.Noted.{Noted}
use Rattle.rc_bdd.specs.declared.operation.Operation.{Operation}
use Rattle.rc_nodes.specs.declared.words.Node.{Node}
use Rattle.rc_nodes.specs.declared.words.Ref.{Ref}
use Rattle.rc_nodes.specs.declared.table.Full.{Full}
use Rattle.rc_trees.proofs.ReducedLaws.{top-le}
use Rattle.rc_bdd.specs.declared.operation.Operation.TheVariants.{And}
use Rattle.std.specs.List.{All}
use Rattle.std.proofs.lemmas.List.Elements.{All-replicate, All-same}
use Rattle.rc_trees.proofs.OperationLaws.{and_never}
use Rattle.rc_trees.proofs.SideLaws.{joined_cases, joined_here}
use Rattle.rc_nodes.proofs.KnownLaws.{knows_never, one_known, one_known_ref, known_reduced, known_node, small_tops}

-- ---- a look

constant_low : (t : Tree) → bit_count ≡ top t → IsReduced t → low_side (top t) t ≡ t
constant_low never e r = refl
constant_low always e r = refl
constant_low (node v l h) e r = absurd (let a = r.0 in let b = top-le l r.3 in omega arith)

constant_high : (t : Tree) → bit_count ≡ top t → IsReduced t → high_side (top t) t ≡ t
constant_high never e r = refl
constant_high always e r = refl
constant_high (node v l h) e r = absurd (let a = r.0 in let b = top-le l r.3 in omega arith)

-- ---- a join

pub same_sides : (seat : SeatView) (sound : Sound seat.view) (v r : ℕ) (l h : Tree) → SeatKnows seat r l → SeatKnows seat r h → SeatKnows seat r (joined v l h)
same_sides seat sound v r l h kl kh = elim (joined_cases v l h) [
  | inl p ↦ subst (SeatKnows seat r) (sym p.1) kl
  | inr p ↦ absurd (p.0 (one_known seat sound r l h kl kh))
]

pub other_sides : (seat after : SeatView) (sound : Sound seat.view) (v lo hi r : ℕ) (l h : Tree) → lo ≢ hi → SeatKnows seat lo l → SeatKnows seat hi h → SeatKnows after r (node v l h) → SeatKnows after r (joined v l h)
other_sides seat after sound v lo hi r l h ne kl kh made = elim (joined_cases v l h) [
  | inl p ↦ absurd (ne (one_known_ref seat sound lo hi h (subst (SeatKnows seat lo) p.0 kl) kh))
  | inr p ↦ subst (SeatKnows after r) (sym p.1) made
]

pub may_make : (nodes : TableView) (seat : SeatView) (sound : Sound seat.view) (var lo hi : ℕ) → lo ≢ hi → MayBranch nodes seat var lo hi → MayMake nodes seat var lo hi
may_make nodes seat sound var lo hi ne m = record {
  bit = m.bit;
  differ = ne;
  low = m.low;
  high = m.high;
  knows_low = m.knows_low;
  knows_high = m.knows_high;
  rises_low = m.rises_low;
  rises_high = m.rises_high;
  allowed = joined_here nodes.may var m.low m.high m.allowed (λ e. ne (one_known_ref seat sound lo hi m.high (subst (SeatKnows seat lo) e m.knows_low) m.knows_high));
}

pub looked_constant : (seat : SeatView) → Sound seat.view → (r : ℕ) → r < 2 → (t : Tree) → SeatKnows seat r t → (bit_count ≡ top t) × SeatKnows seat r (low_side (top t) t) × SeatKnows seat r (high_side (top t) t)
looked_constant seat sound r lt t k =
    let e = small_tops seat r t lt k in let d = known_reduced seat sound r t k in
    (e, subst (SeatKnows seat r) (sym (constant_low t e d)) k, subst (SeatKnows seat r) (sym (constant_high t e d)) k)

node_low : (v : ℕ) (l h : Tree) → low_side v (node v l h) ≡ l
node_low v l h = ap (λ b. cond b l (node v l h)) (eq-eqb v v refl)

node_high : (v : ℕ) (l h : Tree) → high_side v (node v l h) ≡ h
node_high v l h = ap (λ b. cond b h (node v l h)) (eq-eqb v v refl)

pub looked_node : (seat after : SeatView) (r : ℕ) (n : Node) → 2 ≤ r
    → ((v : ℕ) (l h : Tree) → SeatKnows seat r (node v l h) → (n.var ≡ v) × SeatKnows after n.lo.index l × SeatKnows after n.hi.index h)
    → (t : Tree) → SeatKnows seat r t → (n.var ≡ top t) × SeatKnows after n.lo.index (low_side (top t) t) × SeatKnows after n.hi.index (high_side (top t) t)
looked_node seat after r n two opened t k =
    let (v, l, h, e) = known_node seat r t two k in
    let (ev, kl, kh) = opened v l h (subst (SeatKnows seat r) e k) in
    let P : Tree → Type 0 = λ u. (n.var ≡ top u) × SeatKnows after n.lo.index (low_side (top u) u) × SeatKnows after n.hi.index (high_side (top u) u) in
    let done : P (node v l h) = (ev, subst (SeatKnows after n.lo.index) (sym (node_low v l h)) kl, subst (SeatKnows after n.hi.index) (sym (node_high v l h)) kh) in
    subst P (sym e) done

pub joined_result : (seat after : SeatView) → Sound seat.view → (var lo hi : ℕ) → lo ≢ hi → (result : Result Ref Full)
    → IfOk result (λ r. (l h : Tree) → SeatKnows seat lo l → SeatKnows seat hi h → SeatKnows after r.index (node var l h))
    → IfOk result (λ r. (l h : Tree) → SeatKnows seat lo l → SeatKnows seat hi h → SeatKnows after r.index (joined var l h))
joined_result seat after sound var lo hi ne (Ok r) made = λ l h kl kh. other_sides seat after sound var lo hi r.index l h ne kl kh (made l h kl kh)
joined_result seat after sound var lo hi ne (Err e) made = tt

pub full_result : (nodes : TableView) (seat after : SeatView) (var lo hi : ℕ) → MayBranch nodes seat var lo hi → (result : Result Ref Full)
    → IfErr result (λ _. (l h : Tree) → SeatKnows seat lo l → SeatKnows seat hi h → IsCrowded nodes after (node var l h))
    → IfErr result (λ _. IsFull nodes after)
full_result nodes seat after var lo hi m (Ok r) full = tt
full_result nodes seat after var lo hi m (Err e) full = (node var m.low m.high, full m.low m.high m.knows_low m.knows_high)

-- ---- the memo

abbrev Recalled : SeatView → Operation → ℕ → ℕ → Ref → Type 0
Recalled seat operation left right r = (s t : Tree) → SeatKnows seat left s → SeatKnows seat right t → SeatKnows seat r.index (combined (truth operation) s t)

right_note : (seat : SeatView) → Sound seat.view → (note : Noted) (operation : Operation) (left right : ℕ) (r : Ref) → IsRight seat note
    → note.operation ≡ operation → note.left.index ≡ left → note.right.index ≡ right → note.result ≡ r → Recalled seat operation left right r
right_note seat sound note operation left right r right_one eo el er ex s t ks kt =
    let sl = one_known seat sound left right_one.left s (subst (λ n. SeatKnows seat n right_one.left) el right_one.knows_left) ks in
    let sr = one_known seat sound right right_one.right t (subst (λ n. SeatKnows seat n right_one.right) er right_one.knows_right) kt in
    let there : SeatKnows seat r.index (combined (truth note.operation) right_one.left right_one.right) = subst (λ (x : Ref). SeatKnows seat x.index (combined (truth note.operation) right_one.left right_one.right)) ex right_one.knows_result in
    subst (λ u. SeatKnows seat r.index u) (λ i. combined (truth (eo i)) (sl i) (sr i)) there

pub recalled : (seat : SeatView) → Sound seat.view → (note : Noted) (operation : Operation) (left right : ℕ) → IsRight seat note → (result : Option Ref)
    → MatchOption result (Unit {0}) (λ r. (note.operation ≡ operation) × (note.left.index ≡ left) × (note.right.index ≡ right) × (note.result ≡ r))
    → MatchOption result (Unit {0}) (λ r. Recalled seat operation left right r)
recalled seat sound note operation left right right_one None h = tt
recalled seat sound note operation left right right_one (Some r) h = right_note seat sound note operation left right r right_one h.0 h.1 h.2 h.3

pub differ : (a b : ℕ) (x : Bool) → x ≡ nat_eq a b → x ≡ false → a ≢ b
differ a b x e f same = let g : nat_eq a b ≡ true = eq-eqb a b same in let clash : true ≡ false = sym g ∙ sym e ∙ f in absurd (cc clash)

-- nothing and nothing is nothing
abbrev pub blank : Noted
blank = record { operation = And; left = record { index = 0 }; right = record { index = 0 }; result = record { index = 0 } }

blank_right : (seat : SeatView) → IsRight seat blank
blank_right seat = record {
  left = never;
  right = never;
  knows_left = knows_never seat;
  knows_right = knows_never seat;
  knows_result = subst (SeatKnows seat 0) (sym (and_never never tt)) (knows_never seat);
}

pub blank_memo : (xs : List Noted) (n : ℕ) → xs ≡ replicate n blank → (seat : SeatView) → All (IsRight seat) xs
blank_memo xs n e seat = All-same (IsRight seat) xs (replicate n blank) e (All-replicate (IsRight seat) n blank (blank_right seat))
