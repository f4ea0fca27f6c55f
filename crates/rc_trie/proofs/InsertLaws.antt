-- A row among the others.
use Rattle.std.proofs.Common.{refl, ◌≡◌, ap, sym, ◌∙◌, subst, ℕ, zero, suc, ◌+◌, ◌<◌, true, false, List, [], ◌∷◌, ◌++◌, append-nil, length, length-take, map, take, drop, set, get_or, get_or-take, take-append-drop, ◌==◌, ◌&&◌, eqb-true, eq-eqb, arith}
use Rattle.std.specs.List.{AllByRecursion, insert}
use Rattle.std.specs.List.Sorted.{IsStrictlySortedBy}
use Rattle.std.specs.Map.{keys_of}
use Rattle.std.specs.Ordering.{is_lt, match_ordering}
use Rattle.std.specs.declared.cmp.Ordering.{Ordering}
use Rattle.std.specs.declared.cmp.Ordering.TheVariants.{Less, Equal, Greater}
use Rattle.std.proofs.lemmas.Bool.{and_parts}
use Rattle.std.proofs.lemmas.List.{get_or-map, length-map, map-append, map-set, drop_more, drop-map, take-map}
use Rattle.std.proofs.lemmas.List.Elements.{All-from_recursion, recursion_from_All}
use Rattle.rc_base.specs.Prefix.{Cidr, IsCidr, prefix_cmp}
use Rattle.rc_base.proofs.OrderedLaws.{all-weaker, prefix_cmp_total, same_by_prefix_cmp}
use Rattle.rc_trie.specs.Tree.{with_row}
use Rattle.rc_trie.specs.declared.row.Row.{Row}
use Rattle.rc_trie.specs.Search.{AreRows, IsPlace, row_of}
use Rattle.rc_trie.proofs.OrderLaws.{less_turned, same_itself, turned}

-- each row stands before the prefix
abbrev AllEarlier : Cidr → List (Cidr × ℕ) → Type 0
AllEarlier p rows = AllByRecursion (λ (row : Cidr × ℕ). prefix_cmp p row.0 ≡ Greater) rows

by_index : {X : Type 0} (P : X → Type 0) (xs : List X) → ((k : ℕ) (d : X) → k < length xs → P (get_or xs k d)) → AllByRecursion P xs
by_index P [] each = tt
by_index P (x ∷ xs) each = (each 0 x (omega arith), by_index P xs (λ k d less. each (suc k) d (omega arith)))

module _ (p : Cidr) (v : ℕ) where
  -- behind rows that stand before it
  behind : (xs ys : List (Cidr × ℕ)) → AllEarlier p xs → with_row (xs ++ ys) p v ≡ xs ++ with_row ys p v
  behind [] ys all = refl
  behind (r ∷ rs) ys all =
      ap (λ o. match_ordering o ((p, v) ∷ r ∷ (rs ++ ys)) ((r.0, v) ∷ (rs ++ ys)) (r ∷ with_row (rs ++ ys) p v)) all.0 ∙ ap (λ zs. r ∷ zs) (behind rs ys all.1)

  in_place : (w : ℕ) (rows : List (Cidr × ℕ)) → with_row ((p, w) ∷ rows) p v ≡ (p, v) ∷ rows
  in_place w rows = ap (λ o. match_ordering o ((p, v) ∷ (p, w) ∷ rows) ((p, v) ∷ rows) ((p, w) ∷ with_row rows p v)) (same_itself p)

-- ---- in order

all_with : (P : Cidr → Type 0) (rows : List (Cidr × ℕ)) (p : Cidr) (v : ℕ) → AllByRecursion P (keys_of rows) → P p → AllByRecursion P (keys_of (with_row rows p v))
all_with P [] p v all here = (here, tt)
all_with P (r ∷ rs) p v all here =
    let rest = all_with P rs p v all.1 here in
    elim (prefix_cmp p r.0) as (λ o. AllByRecursion P (keys_of (match_ordering o ((p, v) ∷ r ∷ rs) ((r.0, v) ∷ rs) (r ∷ with_row rs p v)))) [ Less ↦ (here, all) | Equal ↦ all | Greater ↦ (all.0, rest) ]

sorted_with : (rows : List (Cidr × ℕ)) (p : Cidr) (v : ℕ) → IsStrictlySortedBy prefix_cmp (keys_of rows) → IsStrictlySortedBy prefix_cmp (keys_of (with_row rows p v))
unfolding IsStrictlySortedBy
sorted_with [] p v up = (tt, tt)
sorted_with (r ∷ rs) p v up =
    let rest = sorted_with rs p v up.1 in
    elim (prefix_cmp p r.0) as (λ o. prefix_cmp p r.0 ≡ o → IsStrictlySortedBy prefix_cmp (keys_of (match_ordering o ((p, v) ∷ r ∷ rs) ((r.0, v) ∷ rs) (r ∷ with_row rs p v)))) [
      | Less ↦ λ e. ((e, all-weaker (λ q. prefix_cmp r.0 q ≡ Less) (λ q. prefix_cmp p q ≡ Less) (λ q less. prefix_cmp_total.trans p r.0 q e less) (keys_of rs) up.0), up)
      | Equal ↦ λ e. up
      | Greater ↦ λ e. (all_with (λ q. prefix_cmp r.0 q ≡ Less) rs p v up.0 (less_turned p r.0 e), rest)
    ] refl

abbrev prefix_of : Row → Cidr
prefix_of r = r.prefix

keys_map : (rows : List Row) → map prefix_of rows ≡ keys_of (map row_of rows)
keys_map [] = refl
keys_map (r ∷ rs) = ap (λ ks. r.prefix ∷ ks) (keys_map rs)

-- rows that are others with one prefix put among them are in order
pub in_order_with : (rows made : List Row) (p : Cidr) (v : ℕ) → AreRows rows → IsCidr p → map row_of made ≡ with_row (map row_of rows) p v → AreRows made
in_order_with rows made p v are canonical e =
    let keys : keys_of (with_row (map row_of rows) p v) ≡ map prefix_of made = ap keys_of (sym e) ∙ sym (keys_map made) in
    let old = subst (AllByRecursion IsCidr) (keys_map rows) (of_each rows (recursion_from_All (λ (r : Row). IsCidr r.prefix) rows are.canonical)) in
    record {
      sorted = subst (IsStrictlySortedBy prefix_cmp) keys (sorted_with (map row_of rows) p v (subst (IsStrictlySortedBy prefix_cmp) (keys_map rows) are.sorted));
      canonical = All-from_recursion (λ (r : Row). IsCidr r.prefix) made (to_each made (subst (AllByRecursion IsCidr) keys (all_with IsCidr (map row_of rows) p v old canonical)));
    }
  where
    of_each : (rs : List Row) → AllByRecursion (λ (r : Row). IsCidr r.prefix) rs → AllByRecursion IsCidr (map prefix_of rs)
    of_each [] all = tt
    of_each (r ∷ rs) all = (all.0, of_each rs all.1)

    to_each : (rs : List Row) → AllByRecursion IsCidr (map prefix_of rs) → AllByRecursion (λ (r : Row). IsCidr r.prefix) rs
    to_each [] all = tt
    to_each (r ∷ rs) all = (all.0, to_each rs all.1)

-- ---- where it stands

all_earlier : (rows : List Row) (p : Cidr) (m : ℕ) → IsPlace rows p m → m ≡ length rows → AllEarlier p (map row_of rows)
all_earlier rows p m place is = by_index (λ (row : Cidr × ℕ). prefix_cmp p row.0 ≡ Greater) (map row_of rows) (λ k d less.
    let long : length (map row_of rows) ≡ length rows = length-map rows row_of in
    let e : Row = record { prefix = d.0; value = d.1 } in
    let here : get_or (map row_of rows) k d ≡ row_of (get_or rows k e) = get_or-map row_of rows k e d (omega arith) in
    ap (λ (row : Cidr × ℕ). prefix_cmp p row.0) here ∙ turned (get_or rows k e).prefix p (place.before k e (omega arith)))

-- behind all others
pub at_end : (rows : List Row) (p : Cidr) (v m : ℕ) → IsPlace rows p m → m ≡ length rows → map row_of (rows ++ record { prefix = p; value = v } ∷ []) ≡ with_row (map row_of rows) p v
at_end rows p v m place is =
    let xs = map row_of rows in
    map-append row_of rows (record { prefix = p; value = v } ∷ []) ∙ sym (ap (λ zs. with_row zs p v) (sym (append-nil xs)) ∙ behind p v xs [] (all_earlier rows p m place is))

not_before : (o : Ordering) → is_lt o ≡ false → (o ≡ Equal → ⊥) → o ≡ Greater
not_before Less e other = absurd (cc e)
not_before Equal e other = absurd (other refl)
not_before Greater e other = refl

set_parts : {X : Type 0} (xs : List X) (m : ℕ) (y : X) → m < length xs → set xs m y ≡ take m xs ++ y ∷ drop (m + 1) xs
set_parts [] m y less = absurd (omega arith)
set_parts (x ∷ xs) zero y less = refl
set_parts (x ∷ xs) (suc m) y less =
    let e : suc (m + 1) ≡ suc m + 1 = omega arith in
    ap (λ zs. x ∷ zs) (set_parts xs m y (omega arith)) ∙ ap (λ n. x ∷ (take m xs ++ y ∷ drop n (x ∷ xs))) e

module _ (rows : List Row) (p : Cidr) (v m : ℕ) (place : IsPlace rows p m) (less : m < length rows) (r : Row) (is : r ≡ get_or rows m r) where
  abbrev xs : List (Cidr × ℕ)
  xs = map row_of rows

  long : length xs ≡ length rows
  long = length-map rows row_of

  front : AllEarlier p (take m xs)
  front = by_index (λ (row : Cidr × ℕ). prefix_cmp p row.0 ≡ Greater) (take m xs) (λ k d within.
      let cut = length-take m xs in
      let whole = long in
      let e : Row = record { prefix = d.0; value = d.1 } in
      let here : get_or (take m xs) k d ≡ row_of (get_or rows k e) = get_or-take m xs k d (omega arith) ∙ get_or-map row_of rows k e d (omega arith) in
      ap (λ (row : Cidr × ℕ). prefix_cmp p row.0) here ∙ turned (get_or rows k e).prefix p (place.before k e (omega arith)))

  tail : drop m xs ≡ row_of r ∷ drop (m + 1) xs
  tail =
      let whole = long in
      drop_more xs m (row_of r) (omega arith) ∙ ap (λ x. x ∷ drop (m + 1) xs) (get_or-map row_of rows m r (row_of r) less ∙ ap row_of (sym is))

  parts : with_row xs p v ≡ take m xs ++ with_row (row_of r ∷ drop (m + 1) xs) p v
  parts = ap (λ zs. with_row zs p v) (sym (take-append-drop m xs)) ∙ behind p v (take m xs) (drop m xs) front ∙ ap (λ zs. take m xs ++ with_row zs p v) tail

  -- in place of the row at the place
  pub in_place_of : r.prefix ≡ p → map row_of (set rows m (record { prefix = p; value = v })) ≡ with_row xs p v
  in_place_of same =
      let whole = long in
      let here : with_row (row_of r ∷ drop (m + 1) xs) p v ≡ (p, v) ∷ drop (m + 1) xs = ap (λ q. with_row ((q, r.value) ∷ drop (m + 1) xs) p v) same ∙ in_place p v r.value (drop (m + 1) xs) in
      map-set row_of rows m (record { prefix = p; value = v }) ∙ set_parts xs m (p, v) (omega arith) ∙ sym (parts ∙ ap (λ zs. take m xs ++ zs) here)

  -- in front of the row at the place
  pub in_front_of : (r.prefix ≡ p → ⊥) → map row_of (insert rows m (record { prefix = p; value = v })) ≡ with_row xs p v
  in_front_of other =
      let back : is_lt (prefix_cmp r.prefix p) ≡ false = ap (λ (x : Row). is_lt (prefix_cmp x.prefix p)) is ∙ place.behind m r (omega arith) less in
      let first : prefix_cmp p r.prefix ≡ Less = less_turned r.prefix p (not_before (prefix_cmp r.prefix p) back (λ tied. other (same_by_prefix_cmp r.prefix p tied))) in
      let here : with_row (row_of r ∷ drop (m + 1) xs) p v ≡ (p, v) ∷ drop m xs = ap (λ o. match_ordering o ((p, v) ∷ row_of r ∷ drop (m + 1) xs) ((r.prefix, v) ∷ drop (m + 1) xs) (row_of r ∷ with_row (drop (m + 1) xs) p v)) first ∙ ap (λ zs. (p, v) ∷ zs) (sym tail) in
      let made : map row_of (insert rows m (record { prefix = p; value = v })) ≡ take m xs ++ (p, v) ∷ drop m xs =
      map-append row_of (take m rows) (record { prefix = p; value = v } ∷ drop m rows) ∙ (λ i. sym (take-map row_of m rows) i ++ (p, v) ∷ sym (drop-map row_of m rows) i) in
      made ∙ sym (parts ∙ ap (λ zs. take m xs ++ zs) here)

-- ---- what `==` of prefixes says

pub same_by_test : (p q : Cidr) → ((p.network == q.network) && (p.len == q.len)) ≡ true → p ≡ q
same_by_test p q e =
    let parts = and_parts (p.network == q.network) (p.len == q.len) e in
    let network = eqb-true p.network q.network parts.0 in
    let len = eqb-true p.len q.len parts.1 in
    λ i. record { network = network i; len = len i }

pub other_by_test : (p q : Cidr) → ((p.network == q.network) && (p.len == q.len)) ≡ false → p ≡ q → ⊥
other_by_test p q e same =
    let test : ((p.network == q.network) && (p.len == q.len)) ≡ true = ap (λ (r : Cidr). (r.network == q.network) && (r.len == q.len)) same ∙ (λ i. eq-eqb q.network q.network refl i && eq-eqb q.len q.len refl i) in
    absurd (cc)
