-- A full table means that more trees may be made than it has slots.
use Rattle.std.proofs.Common.{refl, ◌≡◌, ap, sym, subst, ◌≤◌, ◌<◌, Bool, true, false, ◌||◌, List, [], ◌∷◌, length, ◌⊎◌, inl, inr, ⊎_elim, cond, arith}
use Rattle.std.specs.Bool.{Decides, one_answer}
use Rattle.std.specs.Cmp.{IsEquivalence}
use Rattle.std.specs.List.{AllByRecursion, IsDistinct, list_any}
use Rattle.std.specs.Set.{is_member, unique_keys, distinct_count}
use Rattle.std.proofs.lemmas.Map.Keys.{IsDistinct-cons}
use Rattle.std.proofs.lemmas.Map.Made.{length-le_from_is_member}
use Rattle.rc_trees.specs.Trees.{Tree, IsAmong, same_tree}
use Rattle.rc_nodes.specs.Seats.{TableView, SeatView, AreDistinct, IsCrowded}
use Rattle.rc_trees.proofs.TreeLaws.{same_tree-Decides}

tree_laws : IsEquivalence same_tree
tree_laws = record {
  refl = λ s. (same_tree-Decides s s).1 refl;
  symm = λ s t. one_answer _ _ (λ e. (same_tree-Decides t s).1 (sym ((same_tree-Decides s t).0 e)), λ e. (same_tree-Decides s t).1 (sym ((same_tree-Decides t s).0 e))) (itself (same_tree t s));
  congr = λ s t u e. ap (λ x. same_tree x u) ((same_tree-Decides s t).0 e);
}
  where
    itself : (b : Bool) → Decides b (b ≡ true)
    itself b = (λ e. e, λ e. e)

or-right : (a b : Bool) → b ≡ true → (a || b) ≡ true
or-right true b e = refl
or-right false b e = e

member_from : (ts : List Tree) (t : Tree) → IsAmong ts t → is_member same_tree ts t ≡ true
member_from [] t h = absurd h
member_from (x ∷ xs) t (inl e) = ap (λ b. b || list_any (same_tree t) xs) ((same_tree-Decides t x).1 (sym e))
member_from (x ∷ xs) t (inr h) = or-right (same_tree t x) (list_any (same_tree t) xs) (member_from xs t h)

among_from : (ts : List Tree) (t : Tree) → is_member same_tree ts t ≡ true → IsAmong ts t
among_from [] t e = absurd (cc)
among_from (x ∷ xs) t e = by (same_tree t x) refl e (among_from xs t)
  where
    by : (b : Bool) → same_tree t x ≡ b → (b || list_any (same_tree t) xs) ≡ true → (list_any (same_tree t) xs ≡ true → IsAmong xs t) → (x ≡ t) ⊎ IsAmong xs t
    by true is e later = inl (sym ((same_tree-Decides t x).0 is))
    by false is e later = inr (later e)

none_same : (t : Tree) (xs : List Tree) → ¬ (IsAmong xs t) → AllByRecursion (λ y. same_tree t y ≡ false) xs
none_same t [] h = tt
none_same t (x ∷ xs) h = (by (same_tree t x) refl, none_same t xs (λ later. h (inr later)))
  where
    by : (b : Bool) → same_tree t x ≡ b → same_tree t x ≡ false
    by true is = absurd (h (inl (sym ((same_tree-Decides t x).0 is))))
    by false is = is

distinct_from : (ts : List Tree) → AreDistinct ts → IsDistinct same_tree ts
unfolding IsDistinct
distinct_from [] d = tt
distinct_from (t ∷ ts) d = (none_same t ts d.0, distinct_from ts d.1)

among_once : (ts : List Tree) (t : Tree) → IsAmong ts t → IsAmong (unique_keys same_tree ts) t
among_once [] t h = absurd h
among_once (x ∷ xs) t h = by (is_member same_tree xs x) refl h (among_once xs t)
  where
    by : (b : Bool) → is_member same_tree xs x ≡ b → (x ≡ t) ⊎ IsAmong xs t → (IsAmong xs t → IsAmong (unique_keys same_tree xs) t) → IsAmong (cond b (unique_keys same_tree xs) (x ∷ unique_keys same_tree xs)) t
    by true is (inl e) later = later (subst (IsAmong xs) e (among_from xs x is))
    by true is (inr h) later = later h
    by false is (inl e) later = inl e
    by false is (inr h) later = inr (later h)

-- where a table is full each list of all trees that may be made is longer than the table
pub longer_than_slots : (nodes : TableView) (seat : SeatView) (wanted : Tree) → IsCrowded nodes seat wanted → (ts : List Tree) → ((t : Tree) → IsAmong nodes.may t → IsAmong ts t) → nodes.capacity < length ts
longer_than_slots nodes seat wanted c ts holds =
    let all : List Tree = wanted ∷ c.trees in
    let once : IsDistinct same_tree all = IsDistinct-cons same_tree wanted c.trees (none_same wanted c.trees c.further) (distinct_from c.trees c.distinct) in
    let may : (t : Tree) → IsAmong all t → IsAmong nodes.may t = λ t h. ⊎_elim (λ e. subst (IsAmong nodes.may) e c.wanted_allowed) (λ i. c.allowed t i) h in
    let fits : length all ≤ length ts = length-le_from_is_member tree_laws all ts once (λ t e. member_from ts t (holds t (may t (among_from all t e)))) in
    let count = c.count in
    omega arith

-- so more different trees may be made than the table has slots
pub more_than_slots : (nodes : TableView) (seat : SeatView) (wanted : Tree) → IsCrowded nodes seat wanted → nodes.capacity < distinct_count same_tree nodes.may
more_than_slots nodes seat wanted c = longer_than_slots nodes seat wanted c (unique_keys same_tree nodes.may) (among_once nodes.may)
