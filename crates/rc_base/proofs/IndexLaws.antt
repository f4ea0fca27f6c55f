-- What an index of interfaces holds: their prefixes in order, and under each of them the interfaces that have it.
use Rattle.std.proofs.Common.{refl, ◌≡◌, ap, sym, ◌∙◌, subst, ℕ, zero, suc, ◌+◌, ◌-◌, ◌<◌, ◌==◌, ◌&&◌, ◌||◌, Bool, true, false, cond, List, [], ◌∷◌, ◌++◌, length, map, filter, length-append, append_assoc, append-nil, Option, Some, None, arith}
use Rattle.std.specs.Prelude.{slice_get}
use Rattle.std.specs.List.{list_any, fold, flat_map, range_with_len, AllByRecursion, IsDistinct}
use Rattle.std.specs.List.Sorted.{IsStrictlySortedBy}
use Rattle.std.specs.Map.{keys_of}
use Rattle.std.specs.Option.{option_map_or, unwrap_or}
use Rattle.std.specs.Ordering.{is_eq, ordering_reverse}
use Rattle.std.specs.declared.cmp.Ordering.TheVariants.{Less}
use Rattle.std.proofs.lemmas.Bool.Decides.{nat_tests}
use Rattle.std.proofs.lemmas.Cmp.{tied_itself}
use Rattle.std.proofs.lemmas.Grind.{common_steps}
use Rattle.std.proofs.lemmas.List.{map-append}
use Rattle.std.proofs.lemmas.List.Elements.{filter-append}
use Rattle.std.proofs.lemmas.List.Sums.{fold-append}
use Rattle.rc_base.specs.Groups.{under, with_thing, grouped}
use Rattle.rc_base.specs.Index.{Rows, members, ends_with, with_last, with_member, with_interface, index_of}
use Rattle.rc_base.specs.Lists.{in_order}
use Rattle.rc_base.specs.Positions.{same_interface}
use Rattle.rc_base.specs.Prefix.{Cidr, prefix_cmp, same_prefix}
use Rattle.rc_base.specs.declared.position.IfId.{IfId}
use Rattle.rc_base.proofs.GroupLaws.{keys_grouped, found_grouped}
use Rattle.rc_base.proofs.OrderedLaws.{prefix_cmp_total, in_order-sorted, all-weaker}

-- ---- the last member

got_after : (known : List IfId) (i : IfId) → slice_get (known ++ i ∷ []) (length known) ≡ Some i
got_after [] i = refl
got_after (x ∷ known) i = got_after known i

ends-after : (known : List IfId) (i j : IfId) → ends_with (known ++ i ∷ []) j ≡ same_interface i j
ends-after known i j =
    let at : length (known ++ i ∷ []) - 1 ≡ length known = (let e = length-append known (i ∷ []) in omega arith) in
    ap (λ k. option_map_or (λ x. same_interface x j) (slice_get (known ++ i ∷ []) k) false) at
    ∙ ap (λ o. option_map_or (λ x. same_interface x j) o false) (got_after known i)

same_itself : (i : IfId) → same_interface i i ≡ true
same_itself i = grind (arith, common_steps, nat_tests)

with_last-twice : (known : List IfId) (i : IfId) → with_last (with_last known i) i ≡ with_last known i
with_last-twice known i = by (ends_with known i) refl
  where
    by : (b : Bool) → ends_with known i ≡ b → with_last (cond b known (known ++ i ∷ [])) i ≡ cond b known (known ++ i ∷ [])
    by true is = ap (λ b. cond b known (known ++ i ∷ [])) is
    by false is = ap (λ b. cond b (known ++ i ∷ []) ((known ++ i ∷ []) ++ i ∷ [])) (ends-after known i i ∙ same_itself i)

-- ---- an index groups pairs of an interface and one of its prefixes

abbrev Pair : Type 0
Pair = IfId × Cidr

abbrev prefix_of : Pair → Cidr
prefix_of x = x.1

abbrev joined : Option (List IfId) → Pair → List IfId
joined known x = with_last (unwrap_or known []) x.0

abbrev pairs_with : IfId → List Cidr → List Pair
pairs_with i ps = map (λ p. (i, p)) ps

module _ (f : IfId → List Cidr) where
  abbrev pairs : List IfId → List Pair
  pairs ids = flat_map (λ i. pairs_with i (f i)) ids

  grouped-one : (i : IfId) (ps : List Cidr) (rows : Rows) → fold (λ known p. with_member known p i) rows ps ≡ fold (with_thing prefix_of joined) rows (pairs_with i ps)
  grouped-one i [] rows = refl
  grouped-one i (p ∷ ps) rows = grouped-one i ps (with_member rows p i)

  grouped-all : (ids : List IfId) (rows : Rows) → fold (with_interface f) rows ids ≡ fold (with_thing prefix_of joined) rows (pairs ids)
  grouped-all [] rows = refl
  grouped-all (i ∷ ids) rows =
      grouped-all ids (with_interface f rows i)
      ∙ ap (λ known. fold (with_thing prefix_of joined) known (pairs ids)) (grouped-one i (f i) rows)
      ∙ sym (fold-append (with_thing prefix_of joined) rows (pairs_with i (f i)) (pairs ids))

  index-grouped : (ids : List IfId) → index_of f ids ≡ grouped prefix_of joined (pairs ids)
  index-grouped ids = grouped-all ids []

  prefixes_of_one : (i : IfId) (ps : List Cidr) → map prefix_of (pairs_with i ps) ≡ ps
  prefixes_of_one i [] = refl
  prefixes_of_one i (p ∷ ps) = ap (λ qs. p ∷ qs) (prefixes_of_one i ps)

  prefixes_of_pairs : (ids : List IfId) → map prefix_of (pairs ids) ≡ flat_map f ids
  prefixes_of_pairs [] = refl
  prefixes_of_pairs (i ∷ ids) =
      map-append prefix_of (pairs_with i (f i)) (pairs ids)
      ∙ ap (λ ps. ps ++ map prefix_of (pairs ids)) (prefixes_of_one i (f i)) ∙ ap (λ ps. f i ++ ps) (prefixes_of_pairs ids)

  -- the prefixes of an index: those of its interfaces, in order
  pub keys_of_index : (ids : List IfId) → keys_of (index_of f ids) ≡ in_order prefix_cmp (flat_map f ids)
  keys_of_index ids =
      ap (λ (rows : Rows). keys_of rows) (index-grouped ids) ∙ keys_grouped prefix_of joined (pairs ids) ∙ ap (in_order prefix_cmp) (prefixes_of_pairs ids)

  module _ (q : Cidr) where
    abbrev has : IfId → Bool
    has i = list_any (same_prefix q) (f i)

    abbrev of_prefix : List Pair → List Pair
    of_prefix xs = filter (λ x. same_prefix q (prefix_of x)) xs

    abbrev made : Option (List IfId) → List Pair → Option (List IfId)
    made known xs = fold (λ v x. Some (joined v x)) known (of_prefix xs)

    made-one : (i : IfId) (ps : List Cidr) (v : Option (List IfId)) → unwrap_or (made v (pairs_with i ps)) [] ≡ cond (list_any (same_prefix q) ps) (with_last (unwrap_or v []) i) (unwrap_or v [])
    made-one i [] v = refl
    made-one i (p ∷ ps) v = by (same_prefix q p) (made-one i ps)
      where
        known : List IfId
        known = unwrap_or v []

        twice : (b : Bool) → cond b (with_last (with_last known i) i) (with_last known i) ≡ with_last known i
        twice true = with_last-twice known i
        twice false = refl

        by : (b : Bool) → ((w : Option (List IfId)) → unwrap_or (made w (pairs_with i ps)) [] ≡ cond (list_any (same_prefix q) ps) (with_last (unwrap_or w []) i) (unwrap_or w []))
            → unwrap_or (fold (λ w x. Some (joined w x)) v (cond b ((i, p) ∷ of_prefix (pairs_with i ps)) (of_prefix (pairs_with i ps)))) []
            ≡ cond (b || list_any (same_prefix q) ps) (with_last (unwrap_or v []) i) (unwrap_or v [])
        by true rest = rest (Some (with_last known i)) ∙ twice (list_any (same_prefix q) ps)
        by false rest = rest v

    made-append : (v : Option (List IfId)) (xs ys : List Pair) → made v (xs ++ ys) ≡ made (made v xs) ys
    made-append v xs ys =
        ap (fold (λ w x. Some (joined w x)) v) (filter-append (λ x. same_prefix q (prefix_of x)) xs ys) ∙ fold-append (λ w x. Some (joined w x)) v (of_prefix xs) (of_prefix ys)

    -- none of the interfaces is the last one known
    abbrev Follow : List IfId → List IfId → Type 0
    Follow known ids = AllByRecursion (λ i. ends_with known i ≡ false) ids

    after : (known : List IfId) (i : IfId) (ids : List IfId) → AllByRecursion (λ j. same_interface i j ≡ false) ids → Follow (known ++ i ∷ []) ids
    after known i [] apart = tt
    after known i (j ∷ ids) apart = (ends-after known i j ∙ apart.0, after known i ids apart.1)

    made-all : (ids : List IfId) (v : Option (List IfId)) → Follow (unwrap_or v []) ids → IsDistinct same_interface ids → unwrap_or (made v (pairs ids)) [] ≡ unwrap_or v [] ++ filter has ids
    unfolding IsDistinct
    made-all [] v follow apart = sym (append-nil (unwrap_or v []))
    made-all (i ∷ ids) v follow apart =
        ap (λ w. unwrap_or w []) (made-append v (pairs_with i (f i)) (pairs ids)) ∙ by (has i) (made-one i (f i) v) (made-all ids (made v (pairs_with i (f i))))
      where
        known : List IfId
        known = unwrap_or v []

        then : Option (List IfId)
        then = made v (pairs_with i (f i))

        by : (b : Bool) → unwrap_or then [] ≡ cond b (with_last known i) known
            → (Follow (unwrap_or then []) ids → IsDistinct same_interface ids → unwrap_or (made then (pairs ids)) [] ≡ unwrap_or then [] ++ filter has ids)
            → unwrap_or (made then (pairs ids)) [] ≡ known ++ cond b (i ∷ filter has ids) (filter has ids)
        by true e rest =
            let now : unwrap_or then [] ≡ known ++ i ∷ [] = e ∙ ap (λ b. cond b known (known ++ i ∷ [])) follow.0 in
            rest (subst (λ ks. Follow ks ids) (sym now) (after known i ids apart.0)) apart.1 ∙ ap (λ ks. ks ++ filter has ids) now ∙ append_assoc known (i ∷ []) (filter has ids)
        by false e rest = rest (subst (λ ks. Follow ks ids) (sym e) follow.1) apart.1 ∙ ap (λ ks. ks ++ filter has ids) e

    none_follows : (ids : List IfId) → Follow [] ids
    none_follows [] = tt
    none_follows (i ∷ ids) = (refl, none_follows ids)

    -- under a prefix stand the interfaces that have it, each once
    pub members_of_index : (ids : List IfId) → IsDistinct same_interface ids → members (index_of f ids) q ≡ filter (λ i. list_any (same_prefix q) (f i)) ids
    members_of_index ids apart =
        ap (λ (rows : Rows). members rows q) (index-grouped ids) ∙ ap (λ v. unwrap_or v []) (found_grouped prefix_of joined q (pairs ids)) ∙ made-all ids None (none_follows ids) apart

-- ---- the rows of an index, read by their prefixes

map_same : {X Y : Type 0} (f g : X → Y) (xs : List X) → AllByRecursion (λ x. f x ≡ g x) xs → map f xs ≡ map g xs
map_same f g [] same = refl
map_same f g (x ∷ xs) same = ap (λ y. y ∷ map f xs) same.0 ∙ ap (λ ys. g x ∷ ys) (map_same f g xs same.1)

map_each : {X Y : Type 0} (f g : X → Y) → ((x : X) → f x ≡ g x) → (xs : List X) → map f xs ≡ map g xs
map_each f g same [] = refl
map_each f g same (x ∷ xs) = ap (λ y. y ∷ map f xs) (same x) ∙ ap (λ ys. g x ∷ ys) (map_each f g same xs)

rows_by_key : {Y : Type 0} (g : Cidr → List IfId → Y) (rows : Rows) → IsStrictlySortedBy prefix_cmp (keys_of rows) → map (λ row. g row.0 row.1) rows ≡ map (λ p. g p (members rows p)) (keys_of rows)
unfolding IsStrictlySortedBy
rows_by_key g [] up = refl
rows_by_key g (e ∷ es) up =
    ap (λ known. g e.0 known ∷ map (λ row. g row.0 row.1) es) (sym here)
    ∙ ap (λ ys. g e.0 (members (e ∷ es) e.0) ∷ ys) (rows_by_key g es up.1 ∙ map_same (λ p. g p (members es p)) (λ p. g p (members (e ∷ es) p)) (keys_of es) behind)
  where
    here : members (e ∷ es) e.0 ≡ e.1
    here = ap (λ o. unwrap_or (cond (is_eq o) (Some e.1) (under es e.0)) []) (tied_itself prefix_cmp_total e.0)

    behind : AllByRecursion (λ p. g p (members es p) ≡ g p (members (e ∷ es) p)) (keys_of es)
    behind =
        all-weaker (λ p. prefix_cmp e.0 p ≡ Less) (λ p. g p (members es p) ≡ g p (members (e ∷ es) p))
        (λ p below. ap (λ o. g p (unwrap_or (cond (is_eq o) (Some e.1) (under es p)) [])) (sym (prefix_cmp_total.antisymm p e.0 ∙ ap ordering_reverse below)))
        (keys_of es) up.0

-- what the rows of an index give, prefix by prefix
pub rows_of_index : {Y : Type 0} (g : Cidr → List IfId → Y) (f : IfId → List Cidr) (ids : List IfId) → IsDistinct same_interface ids
    → map (λ row. g row.0 row.1) (index_of f ids) ≡ map (λ p. g p (filter (λ i. list_any (same_prefix p) (f i)) ids)) (in_order prefix_cmp (flat_map f ids))
rows_of_index g f ids apart =
    rows_by_key g (index_of f ids) (subst (IsStrictlySortedBy prefix_cmp) (sym (keys_of_index f ids)) (in_order-sorted prefix_cmp prefix_cmp_total (flat_map f ids)))
    ∙ ap (map (λ p. g p (members (index_of f ids) p))) (keys_of_index f ids)
    ∙ map_each (λ p. g p (members (index_of f ids) p)) (λ p. g p (filter (λ i. list_any (same_prefix p) (f i)) ids)) (λ p. ap (g p) (members_of_index f p ids apart)) (in_order prefix_cmp (flat_map f ids))

-- ---- interfaces listed router by router are distinct

all-append : {X : Type 0} (P : X → Type 0) (xs ys : List X) → AllByRecursion P xs → AllByRecursion P ys → AllByRecursion P (xs ++ ys)
all-append P [] ys h k = k
all-append P (x ∷ xs) ys h k = (h.0, all-append P xs ys h.1 k)

-- the interface is none of these
abbrev Apart : IfId → List IfId → Type 0
Apart i ids = AllByRecursion (λ j. same_interface i j ≡ false) ids

distinct-append : (xs ys : List IfId) → IsDistinct same_interface xs → IsDistinct same_interface ys → AllByRecursion (λ i. Apart i ys) xs → IsDistinct same_interface (xs ++ ys)
unfolding IsDistinct
distinct-append [] ys dx dy apart = dy
distinct-append (x ∷ xs) ys dx dy apart = (all-append (λ j. same_interface x j ≡ false) xs ys dx.0 apart.0, distinct-append xs ys dx.1 dy apart.1)

abbrev id : ℕ → ℕ → IfId
id r n = record { router = r; index = n }

abbrev own_ids : ℕ → ℕ → ℕ → List IfId
own_ids r from n = map (id r) (range_with_len from n)

apart-own : (r m from n : ℕ) → m < from → Apart (id r m) (own_ids r from n)
apart-own r m from zero less = tt
apart-own r m from (suc n) less =
    let here : same_interface (id r m) (id r from) ≡ false = (let other : (m == from) ≡ false = grind (arith, common_steps, nat_tests) in ap (λ b. (r == r) && b) other ∙ no (r == r)) in
    let more : m < from + 1 = omega arith in
    (here, apart-own r m (from + 1) n more)
  where
    no : (b : Bool) → (b && false) ≡ false
    no true = refl
    no false = refl

distinct-own : (r from n : ℕ) → IsDistinct same_interface (own_ids r from n)
unfolding IsDistinct
distinct-own r from zero = tt
distinct-own r from (suc n) = (apart-own r from (from + 1) n (omega arith), distinct-own r (from + 1) n)

-- so are those of one router
pub distinct_ids_of : (r n : ℕ) → IsDistinct same_interface (map (λ k. record { router = r; index = k }) (range_with_len 0 n))
distinct_ids_of r n = distinct-own r 0 n

apart-other : (i : IfId) (r from n : ℕ) → i.router < r → Apart i (own_ids r from n)
apart-other i r from zero less = tt
apart-other i r from (suc n) less =
    let other : (i.router == r) ≡ false = grind (arith, common_steps, nat_tests) in
    (ap (λ b. b && (i.index == from)) other, apart-other i r (from + 1) n less)

module _ (count : ℕ → ℕ) where
  abbrev listed : ℕ → ℕ → List IfId
  listed from n = flat_map (λ r. own_ids r 0 (count r)) (range_with_len from n)

  apart-others : (i : IfId) (from n : ℕ) → i.router < from → Apart i (listed from n)
  apart-others i from zero less = tt
  apart-others i from (suc n) less =
      let more : i.router < from + 1 = omega arith in
      all-append (λ j. same_interface i j ≡ false) (own_ids from 0 (count from)) (listed (from + 1) n) (apart-other i from 0 (count from) less) (apart-others i (from + 1) n more)

  apart-routers : (r from n : ℕ) (first k : ℕ) → r < from → AllByRecursion (λ i. Apart i (listed from n)) (own_ids r first k)
  apart-routers r from n first zero less = tt
  apart-routers r from n first (suc k) less = (apart-others (id r first) from n less, apart-routers r from n (first + 1) k less)

  distinct-listed : (from n : ℕ) → IsDistinct same_interface (listed from n)
  unfolding IsDistinct
  distinct-listed from zero = tt
  distinct-listed from (suc n) =
      distinct-append (own_ids from 0 (count from)) (listed (from + 1) n) (distinct-own from 0 (count from)) (distinct-listed (from + 1) n) (apart-routers from (from + 1) n 0 (count from) (omega arith))

  -- the interfaces of n routers, router by router as declared, of which each router has so many
  pub distinct_ids : (n : ℕ) → IsDistinct same_interface (flat_map (λ r. map (λ k. record { router = r; index = k }) (range_with_len 0 (count r))) (range_with_len 0 n))
  distinct_ids n = distinct-listed 0 n
