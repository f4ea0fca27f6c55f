-- Values under names, and where each name stands.
use Rattle.std.proofs.Common.{◌≡◌, ◌∙◌, ℕ, zero, suc, ◌+◌, Bool, true, false, not, cond, nat_lt, List, [], ◌∷◌, ◌++◌, length, get_or, Option, Some, None, refl, sym, ap, subst, ◌<◌, ◌≤◌, inl, ◌⊎◌, ◌||◌, arith}
use Rattle.std.specs.Prelude.{slice_get, slice_set, is_some, Result, Ok, Err, OnOk, OnErr}
use Rattle.std.specs.Cmp.Lexicographic.{bytes_decides}
use Rattle.std.specs.Cmp.{IsEquivalence}
use Rattle.std.specs.List.{list_any, position, position_or_len, AllByRecursion, IsDistinct}
use Rattle.std.specs.List.Sorted.{IsPermutation, IsSorted, IsSortedByKey}
use Rattle.std.specs.Ordering.{is_lt}
use Rattle.std.specs.declared.cmp.Ordering.{Ordering}
use Rattle.std.proofs.lemmas.List.{map-append, length-map, get_or-map}
use Rattle.std.proofs.lemmas.List.Sorted.{IsPermutation-map}
use Rattle.std.proofs.lemmas.Map.Keys.{IsDistinct-push, IsDistinct-IsPermutation}
use Rattle.indexmap.proofs.MapLemmas.{lookup_permutation}
use Rattle.indexmap.specs.IndexSet.{insert_key}
use Rattle.std.specs.Map.{keys_of, values_of, lookup}
use Rattle.std.specs.Option.{option_map}
use Rattle.std.proofs.lemmas.Bool.Decides.{nat_tests}
use Rattle.std.proofs.lemmas.Option.{none-some}
use Rattle.rc_base.specs.Name.{same_name}
use Rattle.rc_config.specs.Lent.{set_value_at}
use Rattle.rc_config.specs.Named.{named, index_of, with_value, AreIndexed}

-- a new name goes last
pub with_value_new : {V : Type 0} (es : List (List ℕ × V)) (name : List ℕ) (v : V) → named es name ≡ None → with_value es name v ≡ es ++ (name, v) ∷ []
with_value_new [] name v h = refl
with_value_new {V} (e ∷ es) name v h = by (same_name name e.0) (with_value_new es name v) h
  where
    by : (b : Bool) → (named es name ≡ None → with_value es name v ≡ es ++ (name, v) ∷ []) → cond b (Some e.1) (named es name) ≡ None
        → cond b ((e.0, v) ∷ es) (e ∷ with_value es name v) ≡ e ∷ (es ++ (name, v) ∷ [])
    by true rest none = absurd (none-some e.1 (sym none))
    by false rest none = ap (λ t. e ∷ t) (rest none)

-- ---- the index of a name, entry by entry

abbrev found : {V : Type 0} → List (List ℕ × V) → List ℕ → Option ℕ
found [] name = None
found (e ∷ es) name = cond (same_name name e.0) (Some 0) (option_map suc (found es name))

one_more : (n : ℕ) → 1 + n ≡ suc n
one_more n = omega arith

later : (a n : ℕ) (b : Bool) → nat_lt a n ≡ b → cond (nat_lt (1 + a) (suc n)) (Some (1 + a)) None ≡ option_map suc (cond b (Some a) None)
later a n true less =
    let up : nat_lt (suc a) (suc n) ≡ true = grind (arith, nat_tests) in
    ap (λ k. cond (nat_lt k (suc n)) (Some k) None) (one_more a) ∙ ap (λ b. cond b (Some (suc a)) None) up
later a n false more =
    let up : nat_lt (suc a) (suc n) ≡ false = grind (arith, nat_tests) in
    ap (λ k. cond (nat_lt k (suc n)) (Some k) None) (one_more a) ∙ ap (λ b. cond b (Some (suc a)) None) up

-- the index of a name, or the length
abbrev at : {V : Type 0} → List (List ℕ × V) → List ℕ → ℕ
at es name = position_or_len (same_name name) (keys_of es)

index_found : {V : Type 0} (es : List (List ℕ × V)) (name : List ℕ) → index_of es name ≡ found es name
index_found [] name = refl
index_found (e ∷ es) name = by (same_name name e.0) (index_found es name)
  where
    by : (b : Bool) → index_of es name ≡ found es name
        → cond (nat_lt (cond (not b) (1 + at es name) 0) (suc (length (keys_of es)))) (Some (cond (not b) (1 + at es name) 0)) None ≡ cond b (Some 0) (option_map suc (found es name))
    by true rest = let first : nat_lt 0 (suc (length (keys_of es))) ≡ true = grind (arith, nat_tests) in ap (λ b. cond b (Some 0) None) first
    by false rest = later (at es name) (length (keys_of es)) (nat_lt (at es name) (length (keys_of es))) refl ∙ ap (option_map suc) rest

-- ---- what stands there

value_found : {V : Type 0} (es : List (List ℕ × V)) (name : List ℕ) (i : ℕ) → found es name ≡ Some i → option_map (λ (e : List ℕ × V). e.1) (slice_get es i) ≡ named es name
value_found [] name i is = absurd (none-some i is)
value_found {V} (e ∷ es) name i is = by (same_name name e.0) (found es name) (value_found es name) is
  where
    by : (b : Bool) (f : Option ℕ) → ((j : ℕ) → f ≡ Some j → option_map (λ (d : List ℕ × V). d.1) (slice_get es j) ≡ named es name) → cond b (Some 0) (option_map suc f) ≡ Some i
        → option_map (λ (d : List ℕ × V). d.1) (slice_get (e ∷ es) i) ≡ cond b (Some e.1) (named es name)
    by true f rest at = let here : i ≡ 0 = cc in ap (λ k. option_map (λ (d : List ℕ × V). d.1) (slice_get (e ∷ es) k)) here
    by false None rest at = absurd (none-some i at)
    by false (Some j) rest at = let here : i ≡ suc j = cc in ap (λ k. option_map (λ (d : List ℕ × V). d.1) (slice_get (e ∷ es) k)) here ∙ rest j refl

pub value_there : {V : Type 0} (es : List (List ℕ × V)) (name : List ℕ) (i : ℕ) → index_of es name ≡ Some i → option_map (λ (e : List ℕ × V). e.1) (slice_get es i) ≡ named es name
value_there es name i is = value_found es name i (sym (index_found es name) ∙ is)

none_found : {V : Type 0} (es : List (List ℕ × V)) (name : List ℕ) → found es name ≡ None → named es name ≡ None
none_found [] name none = refl
none_found (e ∷ es) name none = by (same_name name e.0) (found es name) (none_found es name) none
  where
    by : (b : Bool) (f : Option ℕ) → (f ≡ None → named es name ≡ None) → cond b (Some 0) (option_map suc f) ≡ None → cond b (Some e.1) (named es name) ≡ None
    by true f rest none = absurd (none-some 0 (sym none))
    by false None rest none = rest refl
    by false (Some j) rest none = absurd (none-some (suc j) (sym none))

pub none_there : {V : Type 0} (es : List (List ℕ × V)) (name : List ℕ) → index_of es name ≡ None → named es name ≡ None
none_there es name none = none_found es name (sym (index_found es name) ∙ none)

-- ---- another value in the place of one

-- the name at an index
abbrev pub name_at : {V : Type 0} → List (List ℕ × V) → ℕ → Option (List ℕ)
name_at {V} es i = option_map (λ (e : List ℕ × V). e.0) (slice_get es i)

set_found : {V : Type 0} (es : List (List ℕ × V)) (name : List ℕ) (i : ℕ) (k : List ℕ) (v : V) → found es name ≡ Some i → name_at es i ≡ Some k → slice_set es i (k, v) ≡ with_value es name v
set_found [] name i k v is own = absurd (none-some i is)
set_found {V} (e ∷ es) name i k v is own = by (same_name name e.0) (found es name) (λ j. set_found es name j k v) is own
  where
    by : (b : Bool) (f : Option ℕ) → ((j : ℕ) → f ≡ Some j → name_at es j ≡ Some k → slice_set es j (k, v) ≡ with_value es name v) → cond b (Some 0) (option_map suc f) ≡ Some i
        → name_at (e ∷ es) i ≡ Some k → slice_set (e ∷ es) i (k, v) ≡ cond b ((e.0, v) ∷ es) (e ∷ with_value es name v)
    by true f rest at own =
        let here : i ≡ 0 = cc in
        let first : Some e.0 ≡ Some k = sym (ap (name_at (e ∷ es)) here) ∙ own in
        let same : k ≡ e.0 = cc in
        ap (λ n. slice_set (e ∷ es) n (k, v)) here ∙ ap (λ (m : List ℕ). (m, v) ∷ es) same
    by false None rest at own = absurd (none-some i at)
    by false (Some j) rest at own =
        let here : i ≡ suc j = cc in
        ap (λ n. slice_set (e ∷ es) n (k, v)) here ∙ ap (λ t. e ∷ t) (rest j refl (sym (ap (name_at (e ∷ es)) here) ∙ own))

pub set_there : {V : Type 0} (es : List (List ℕ × V)) (name : List ℕ) (i : ℕ) (k : List ℕ) (v : V) → index_of es name ≡ Some i → name_at es i ≡ Some k → slice_set es i (k, v) ≡ with_value es name v
set_there es name i k v is own = set_found es name i k v (sym (index_found es name) ∙ is) own

keys_stay : {V : Type 0} (es : List (List ℕ × V)) (i : ℕ) (k : List ℕ) (v : V) → name_at es i ≡ Some k → keys_of (slice_set es i (k, v)) ≡ keys_of es
keys_stay [] i k v own = refl
keys_stay (e ∷ es) zero k v own = let same : k ≡ e.0 = cc in ap (λ m. m ∷ keys_of es) same
keys_stay (e ∷ es) (suc i) k v own = ap (λ t. e.0 ∷ t) (keys_stay es i k v own)

pub indexed_still : {V : Type 0} (places : List (List ℕ × ℕ)) (es : List (List ℕ × V)) (i : ℕ) (k : List ℕ) (v : V) → AreIndexed places es → name_at es i ≡ Some k → AreIndexed places (slice_set es i (k, v))
indexed_still places es i k v are own = record { distinct = subst (IsDistinct same_name) (sym (keys_stay es i k v own)) are.distinct; at = λ name. are.at name ∙ ap (position (same_name name)) (sym (keys_stay es i k v own)) }

-- ---- a value that is lent

pub values_at : {V : Type 0} (es : List (List ℕ × V)) (i : ℕ) → slice_get (values_of es) i ≡ option_map (λ (e : List ℕ × V). e.1) (slice_get es i)
values_at [] i = refl
values_at (e ∷ es) zero = refl
values_at (e ∷ es) (suc i) = values_at es i

set_at : {V : Type 0} (es : List (List ℕ × V)) (i : ℕ) (k : List ℕ) (w : V) → name_at es i ≡ Some k → slice_set es i (k, w) ≡ set_value_at es i w
set_at [] i k w own = refl
set_at (e ∷ es) zero k w own = let same : k ≡ e.0 = cc in ap (λ m. (m, w) ∷ es) same
set_at (e ∷ es) (suc i) k w own = ap (λ t. e ∷ t) (set_at es i k w own)

pub set_lent : {V : Type 0} (es now : List (List ℕ × V)) (i : ℕ) (k : List ℕ) (w : V) → name_at es i ≡ Some k → es ≡ now → slice_set es i (k, w) ≡ set_value_at now i w
set_lent es now i k w own is = set_at es i k w own ∙ ap (λ xs. set_value_at xs i w) is

-- what is lent ends as the same by two ways that agree
pub same_lent : {N V D E : Type 0} (n : N) (f g : V → D) → ((w : V) → f w ≡ g w) → ◌≡◌ {A = (N × (V → D)) ⊎ E} (inl (n, f)) (inl (n, g))
same_lent n f g same = λ i. inl (n, λ w. same w i)

-- ---- one name more

-- names are told apart as numbers are
names : IsEquivalence same_name
names = record {
  refl = λ x. (bytes_decides x x).1 refl;
  symm = λ x y. turned x y (same_name x y) (same_name y x) refl refl;
  congr = λ x y z same. ap (λ n. same_name n z) ((bytes_decides x y).0 same);
}
  where
    turned : (x y : List ℕ) (a b : Bool) → same_name x y ≡ a → same_name y x ≡ b → same_name x y ≡ same_name y x
    turned x y true b p q = p ∙ sym ((bytes_decides y x).1 (sym ((bytes_decides x y).0 p)))
    turned x y false true p q =
        let same : same_name x y ≡ true = (bytes_decides x y).1 (sym ((bytes_decides y x).0 q)) in
        absurd (cc)
    turned x y false false p q = p ∙ sym q

-- a name without an index is none of the names
apart_found : {V : Type 0} (es : List (List ℕ × V)) (name : List ℕ) → found es name ≡ None → list_any (same_name name) (keys_of es) ≡ false
apart_found [] name none = refl
apart_found (e ∷ es) name none = by (same_name name e.0) (found es name) (apart_found es name) none
  where
    by : (b : Bool) (f : Option ℕ) → (f ≡ None → list_any (same_name name) (keys_of es) ≡ false) → cond b (Some 0) (option_map suc f) ≡ None → (b || list_any (same_name name) (keys_of es)) ≡ false
    by true f rest none = absurd (none-some 0 (sym none))
    by false None rest none = rest refl
    by false (Some j) rest none = absurd (none-some (suc j) (sym none))

distinct_more : {V : Type 0} (es : List (List ℕ × V)) (name : List ℕ) (v : V) → IsDistinct same_name (keys_of es) → found es name ≡ None → IsDistinct same_name (keys_of (es ++ (name, v) ∷ []))
distinct_more es name v distinct none =
    subst (IsDistinct same_name) (sym (map-append (λ e. e.0) es ((name, v) ∷ []))) (IsDistinct-push names (keys_of es) name distinct (apart_found es name none))

itself : (name : List ℕ) → same_name name name ≡ true
itself name = (bytes_decides name name).1 refl

other : (n name : List ℕ) (b : Bool) → same_name n name ≡ b → same_name name n ≡ false → same_name n name ≡ false
other n name true same apart =
    let turned : same_name name n ≡ true = (bytes_decides name n).1 (sym ((bytes_decides n name).0 same)) in
    absurd (cc)
other n name false same apart = same

found_last : {V : Type 0} (es : List (List ℕ × V)) (name : List ℕ) (v : V) → found es name ≡ None → found (es ++ (name, v) ∷ []) name ≡ Some (length es)
found_last [] name v none = rw (itself name) refl
found_last (e ∷ es) name v none = by (same_name name e.0) (found es name) (found_last es name v) none
  where
    by : (b : Bool) (f : Option ℕ) → (f ≡ None → found (es ++ (name, v) ∷ []) name ≡ Some (length es)) → cond b (Some 0) (option_map suc f) ≡ None
        → cond b (Some 0) (option_map suc (found (es ++ (name, v) ∷ []) name)) ≡ Some (suc (length es))
    by true f rest none = absurd (none-some 0 (sym none))
    by false None rest none = ap (option_map suc) (rest refl)
    by false (Some j) rest none = absurd (none-some (suc j) (sym none))

found_before : {V : Type 0} (es : List (List ℕ × V)) (name n : List ℕ) (v : V) → same_name n name ≡ false → found (es ++ (name, v) ∷ []) n ≡ found es n
found_before [] name n v apart = rw apart refl
found_before (e ∷ es) name n v apart = ap (λ f. cond (same_name n e.0) (Some 0) (option_map suc f)) (found_before es name n v apart)

found_more : {V : Type 0} (es : List (List ℕ × V)) (name n : List ℕ) (v : V) (b : Bool) → found es name ≡ None → same_name name n ≡ b → found (es ++ (name, v) ∷ []) n ≡ cond b (Some (length es)) (found es n)
found_more es name n v true none same =
    let is : name ≡ n = (bytes_decides name n).0 same in
    ap (found (es ++ (name, v) ∷ [])) (sym is) ∙ found_last es name v none
found_more es name n v false none apart = found_before es name n v (other n name (same_name n name) refl apart)

pub indexed_more : {V : Type 0} (places more : List (List ℕ × ℕ)) (es all : List (List ℕ × V)) (name : List ℕ) (v : V) (last : ℕ) → AreIndexed places es → index_of es name ≡ None → all ≡ es ++ (name, v) ∷ [] → last ≡ length es
    → ((n : List ℕ) → lookup (same_name n) more ≡ cond (same_name name n) (Some last) (lookup (same_name n) places)) → AreIndexed more all
indexed_more places more es all name v last are none is long put = record {
  distinct = subst (λ xs. IsDistinct same_name (keys_of xs)) (sym is) (distinct_more es name v are.distinct (sym (index_found es name) ∙ none));
  at = λ n. put n ∙ ap (cond (same_name name n) (Some last)) (are.at n ∙ index_found es n) ∙ ap (λ l. cond (same_name name n) (Some l) (found es n)) long
      ∙ sym (found_more es name n v (same_name name n) (sym (index_found es name) ∙ none) refl) ∙ sym (index_found (es ++ (name, v) ∷ []) n) ∙ ap (λ xs. index_of xs n) (sym is);
}

-- ---- the names

-- a name that is put stands where it stood, or last
pub keys_with_value : {V : Type 0} (es : List (List ℕ × V)) (name : List ℕ) (v : V) → keys_of (with_value es name v) ≡ insert_key same_name (keys_of es) name
keys_with_value [] name v = refl
keys_with_value {V} (e ∷ es) name v = by (same_name name e.0) (list_any (same_name name) (keys_of es)) (keys_with_value es name v)
  where
    by : (b a : Bool) → keys_of (with_value es name v) ≡ cond a (keys_of es) (keys_of es ++ name ∷ []) → keys_of (cond b ((e.0, v) ∷ es) (e ∷ with_value es name v)) ≡ cond (b || a) (e.0 ∷ keys_of es) (e.0 ∷ (keys_of es ++ name ∷ []))
    by true a rest = refl
    by false true rest = ap (λ t. e.0 ∷ t) rest
    by false false rest = ap (λ t. e.0 ∷ t) rest

-- ---- all names numbered anew

some_named : {V : Type 0} (es : List (List ℕ × V)) (n : List ℕ) → is_some (found es n) ≡ is_some (named es n)
some_named [] n = refl
some_named (e ∷ es) n = by (same_name n e.0) (found es n) (some_named es n)
  where
    by : (b : Bool) (f : Option ℕ) → is_some f ≡ is_some (named es n) → is_some (cond b (Some 0) (option_map suc f)) ≡ is_some (cond b (Some e.1) (named es n))
    by true f rest = refl
    by false None rest = rest
    by false (Some j) rest = rest

-- a name that is put where one stands
pub noted : {A E : Type 0} (P : Type 0) (r : Result A E) (x : Option ℕ) → OnOk r P → OnErr r (x ≡ None) → is_some x ≡ true → P
noted P (Ok a) x ok err some = ok
noted P (Err e) x ok err some = let no : is_some x ≡ false = ap is_some err in absurd (cc)

-- the names up to an index have theirs, and all names have one
pub record AreNumbered {V : Type 0} (places : List (List ℕ × ℕ)) (es : List (List ℕ × V)) (i : ℕ) : Type 0 where
  pub before : (n : List ℕ) (j : ℕ) → index_of es n ≡ Some j → j < i → lookup (same_name n) places ≡ Some j
  pub some : (n : List ℕ) → is_some (lookup (same_name n) places) ≡ is_some (index_of es n)

all_at : {V : Type 0} (P : List ℕ → Type 0) (es : List (List ℕ × V)) (i : ℕ) (e : List ℕ × V) → AllByRecursion P (keys_of es) → slice_get es i ≡ Some e → P e.0
all_at P [] i e all at = absurd (none-some e at)
all_at P (d ∷ es) zero e all at = let same : d.0 ≡ e.0 = cc in subst P same all.0
all_at P (d ∷ es) (suc i) e all at = all_at P es i e all.1 at

found_at : {V : Type 0} (es : List (List ℕ × V)) (i : ℕ) (e : List ℕ × V) → IsDistinct same_name (keys_of es) → slice_get es i ≡ Some e → found es e.0 ≡ Some i
unfolding IsDistinct
found_at [] i e distinct at = absurd (none-some e at)
found_at (d ∷ es) zero e distinct at =
    let same : d.0 ≡ e.0 = cc in
    subst (λ n. found (d ∷ es) n ≡ Some 0) same (rw (itself d.0) refl)
found_at (d ∷ es) (suc i) e distinct at =
    let apart : same_name e.0 d.0 ≡ false = names.symm e.0 d.0 ∙ all_at (λ y. same_name d.0 y ≡ false) es i e distinct.0 at in
    ap (λ b. cond b (Some 0) (option_map suc (found es e.0))) apart ∙ ap (option_map suc) (found_at es i e distinct.1 at)

-- an entry's place is its name's index
pub index_at : {V : Type 0} (places : List (List ℕ × ℕ)) (es : List (List ℕ × V)) (i : ℕ) (e : List ℕ × V) (name : List ℕ) → AreIndexed places es → slice_get es i ≡ Some e → same_name e.0 name ≡ true → index_of es name ≡ Some i
index_at places es i e name indexed at same = index_found es name ∙ ap (found es) (sym ((bytes_decides e.0 name).0 same)) ∙ found_at es i e indexed.distinct at

found_same : {V : Type 0} (es : List (List ℕ × V)) (n : List ℕ) (j : ℕ) → found es n ≡ Some j → (j < length es) × ((e : List ℕ × V) → slice_get es j ≡ Some e → same_name n e.0 ≡ true)
found_same [] n j is = absurd (none-some j is)
found_same {V} (d ∷ es) n j is = by (same_name n d.0) refl (found es n) (found_same es n) is
  where
    by : (b : Bool) → same_name n d.0 ≡ b → (f : Option ℕ) → ((k : ℕ) → f ≡ Some k → (k < length es) × ((e : List ℕ × V) → slice_get es k ≡ Some e → same_name n e.0 ≡ true)) → cond b (Some 0) (option_map suc f) ≡ Some j
        → (j < suc (length es)) × ((e : List ℕ × V) → slice_get (d ∷ es) j ≡ Some e → same_name n e.0 ≡ true)
    by true p f rest at =
        let here : 0 ≡ j = cc in
        subst (λ k. (k < suc (length es)) × ((e : List ℕ × V) → slice_get (d ∷ es) k ≡ Some e → same_name n e.0 ≡ true)) here (omega arith, λ e first. let same : d.0 ≡ e.0 = cc in ap (same_name n) (sym same) ∙ p)
    by false p None rest at = absurd (none-some j at)
    by false p (Some k) rest at =
        let here : suc k ≡ j = cc in
        let (less, same) = rest k refl in
        subst (λ k. (k < suc (length es)) × ((e : List ℕ × V) → slice_get (d ∷ es) k ≡ Some e → same_name n e.0 ≡ true)) here (omega (arith, less), same)

pub number_start : {V : Type 0} (places : List (List ℕ × ℕ)) (es : List (List ℕ × V)) → ((n : List ℕ) → is_some (lookup (same_name n) places) ≡ is_some (index_of es n)) → AreNumbered places es 0
number_start places es some = record { before = λ n j is less. absurd (omega (arith, less)); some = some }

-- the name at an index has a place already
pub has_place : {V : Type 0} (places : List (List ℕ × ℕ)) (es : List (List ℕ × V)) (i : ℕ) (e : List ℕ × V) → IsDistinct same_name (keys_of es) → slice_get es i ≡ Some e → AreNumbered places es i
    → is_some (lookup (same_name e.0) places) ≡ true
has_place places es i e distinct at are = are.some e.0 ∙ ap is_some (index_found es e.0 ∙ found_at es i e distinct at)

pub number_next : {V : Type 0} (places more : List (List ℕ × ℕ)) (es : List (List ℕ × V)) (i : ℕ) (e : List ℕ × V) → IsDistinct same_name (keys_of es) → slice_get es i ≡ Some e → AreNumbered places es i
    → ((n : List ℕ) → lookup (same_name n) more ≡ cond (same_name e.0 n) (Some i) (lookup (same_name n) places)) → AreNumbered more es (i + 1)
number_next places more es i e distinct at are put = record {
  before = λ n j is less. before n j (same_name e.0 n) refl (sym (index_found es n) ∙ is) less;
  some = λ n. some n (same_name e.0 n) refl;
}
  where
    here : (n : List ℕ) → same_name e.0 n ≡ true → found es n ≡ Some i
    here n same = ap (found es) (sym ((bytes_decides e.0 n).0 same)) ∙ found_at es i e distinct at

    before : (n : List ℕ) (j : ℕ) (b : Bool) → same_name e.0 n ≡ b → found es n ≡ Some j → j < i + 1 → lookup (same_name n) more ≡ Some j
    before n j true same is less =
        let last : i ≡ j = (let both : Some i ≡ Some j = sym (here n same) ∙ is in cc) in
        put n ∙ ap (λ b. cond b (Some i) (lookup (same_name n) places)) same ∙ ap Some last
    before n j false apart is less = by (nat_lt j i) refl
      where
        by : (b : Bool) → nat_lt j i ≡ b → lookup (same_name n) more ≡ Some j
        by true p =
            let earlier : j < i = grind (arith, nat_tests) in
            put n ∙ ap (λ b. cond b (Some i) (lookup (same_name n) places)) apart ∙ are.before n j (index_found es n ∙ is) earlier
        by false p =
            let last : i ≡ j = grind (arith, nat_tests) in
            let same : same_name n e.0 ≡ true = (found_same es n j is).1 e (ap (slice_get es) (sym last) ∙ at) in
            let turned : same_name e.0 n ≡ true = names.symm e.0 n ∙ same in
            absurd (cc)

    some : (n : List ℕ) (b : Bool) → same_name e.0 n ≡ b → is_some (lookup (same_name n) more) ≡ is_some (index_of es n)
    some n true same = ap is_some (put n ∙ ap (λ b. cond b (Some i) (lookup (same_name n) places)) same) ∙ sym (ap is_some (index_found es n ∙ here n same))
    some n false apart = ap is_some (put n ∙ ap (λ b. cond b (Some i) (lookup (same_name n) places)) apart) ∙ are.some n

none_if : (o : Option ℕ) → is_some o ≡ false → o ≡ None
none_if None is = refl
none_if (Some n) is = absurd (cc)

pub number_end : {V : Type 0} (places : List (List ℕ × ℕ)) (es : List (List ℕ × V)) (i : ℕ) → length es ≤ i → IsDistinct same_name (keys_of es) → AreNumbered places es i → AreIndexed places es
number_end places es i past distinct are = record { distinct = distinct; at = λ n. by n (found es n) refl }
  where
    by : (n : List ℕ) (f : Option ℕ) → found es n ≡ f → lookup (same_name n) places ≡ index_of es n
    by n None is = none_if (lookup (same_name n) places) (are.some n ∙ ap is_some (index_found es n ∙ is)) ∙ sym (index_found es n ∙ is)
    by n (Some j) is =
        let less : j < i = omega (arith, (found_same es n j is).0, past) in
        are.before n j (index_found es n ∙ is) less ∙ sym (index_found es n ∙ is)

-- ---- the names in another order

pub sorted_distinctly : {V : Type 0} (es fs : List (List ℕ × V)) → IsPermutation es fs → IsDistinct same_name (keys_of es) → IsDistinct same_name (keys_of fs)
sorted_distinctly es fs same distinct = IsDistinct-IsPermutation same_name names.symm (keys_of es) (keys_of fs) (IsPermutation-map (λ e. e.0) es fs same) distinct

pub sorted_values : {V : Type 0} (es fs : List (List ℕ × V)) → IsPermutation es fs → IsDistinct same_name (keys_of es) → (n : List ℕ) → named fs n ≡ named es n
sorted_values es fs same distinct n = lookup_permutation names es fs same (sorted_distinctly es fs same distinct) (same_name n) (λ x y is. names.congr n x y is)

pub sorted_names : {V : Type 0} (places : List (List ℕ × ℕ)) (es fs : List (List ℕ × V)) → AreIndexed places es → IsPermutation es fs → (n : List ℕ) → is_some (lookup (same_name n) places) ≡ is_some (index_of fs n)
sorted_names places es fs are same n =
    ap is_some (are.at n ∙ index_found es n) ∙ some_named es n ∙ ap is_some (sym (sorted_values es fs same are.distinct n)) ∙ sym (some_named fs n) ∙ ap is_some (sym (index_found fs n))

pub sorted_keys : {V : Type 0} (cmp : List ℕ → List ℕ → Ordering) (es : List (List ℕ × V)) → IsSortedByKey (λ (e : List ℕ × V). e.0) cmp es → IsSorted cmp (keys_of es)
sorted_keys cmp [] sorted = λ k d low high. absurd (omega (arith, high))
sorted_keys {V} cmp (e ∷ es) sorted = λ k d low high.
    let long : length (keys_of (e ∷ es)) ≡ length (e ∷ es) = length-map (e ∷ es) (λ (x : List ℕ × V). x.0) in
    let here : k < length (e ∷ es) = omega (arith, high, long) in
    let there : k + 1 < length (e ∷ es) = omega (arith, high, long) in
    let first : get_or (keys_of (e ∷ es)) k d ≡ (get_or (e ∷ es) k e).0 = get_or-map (λ (x : List ℕ × V). x.0) (e ∷ es) k e d here in
    let second : get_or (keys_of (e ∷ es)) (k + 1) d ≡ (get_or (e ∷ es) (k + 1) e).0 = get_or-map (λ (x : List ℕ × V). x.0) (e ∷ es) (k + 1) e d there in
    (λ i. is_lt (cmp (second i) (first i))) ∙ sorted k e low there
