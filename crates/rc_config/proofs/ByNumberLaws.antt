-- Things by number as the rows of a map.
use Rattle.std.proofs.Common.{◌≡◌, ℕ, ◌<◌, ◌≤◌, ◌==◌, Bool, true, false, not, ◌||◌, cond, nat_lt, List, [], ◌∷◌, length, Some, refl, sym, ap, subst, ◌∙◌, arith, is_some, map, get_or}
use Rattle.std.specs.Prelude.{All}
use Rattle.std.specs.List.{AllByRecursion}
use Rattle.std.specs.Map.{keys_of, values_of, lookup, remove_entry}
use Rattle.std.specs.BTreeMap.{insert_entry, is_at}
use Rattle.std.specs.Ordering.{nat_cmp, is_eq, is_lt, match_ordering}
use Rattle.std.specs.declared.cmp.Ordering.TheVariants.{Less, Equal, Greater}
use Rattle.std.specs.List.Sorted.{IsStrictlySortedBy}
use Rattle.std.proofs.lemmas.Bool.{eqb-true, ne_eqb}
use Rattle.std.proofs.lemmas.Bool.Decides.{nat_tests}
use Rattle.std.proofs.lemmas.List.{length-map, get_or-map}
use Rattle.std.proofs.lemmas.Map.Keys.{below_from_sorted}
use Rattle.rc_config.specs.ByNumber.{AreRows, IsByNumber, placed, with_number, without_number, has_number}

-- a query is at a key where it is the same number
at_number : (n m : ℕ) → is_eq (nat_cmp n m) ≡ (m == n)
at_number n m = grind (arith, nat_tests)

less_is : (n m : ℕ) → nat_cmp n m ≡ Less → n < m
less_is n m = grind (arith, nat_tests)

not_less_is : (n m : ℕ) → is_lt (nat_cmp n m) ≡ false → m ≤ n
not_less_is n m = grind (arith, nat_tests)

module _ {A : Type 0} (number : A → ℕ) where
  abbrev AreNumbered : List (ℕ × A) → Type 0
  AreNumbered rows = AllByRecursion (λ row. row.0 ≡ number row.1) rows

  keys_are : (rows : List (ℕ × A)) → AreNumbered rows → keys_of rows ≡ map number (values_of rows)
  keys_are [] h = refl
  keys_are (row ∷ rows) h = ap (λ n. n ∷ keys_of rows) h.0 ∙ ap (λ ns. number row.1 ∷ ns) (keys_are rows h.1)

  -- ---- found
  lookup_by : (n : ℕ) (rows : List (ℕ × A)) → AreNumbered rows → lookup (is_at (nat_cmp n)) rows ≡ with_number number n (values_of rows)
  lookup_by n [] h = refl
  lookup_by n (row ∷ rows) h =
      ap (λ b. cond b (Some row.1) (lookup (is_at (nat_cmp n)) rows)) (at_number n row.0 ∙ ap (λ m. m == n) h.0)
      ∙ ap (λ found. cond (number row.1 == n) (Some row.1) found) (lookup_by n rows h.1)

  pub lookup_is : (n : ℕ) (rows : List (ℕ × A)) → AreRows number rows → lookup (is_at (nat_cmp n)) rows ≡ with_number number n (values_of rows)
  lookup_is n rows h = lookup_by n rows h.numbered

  has_is_some : (n : ℕ) (xs : List A) → is_some (with_number number n xs) ≡ has_number number n xs
  has_is_some n [] = refl
  has_is_some n (x ∷ xs) = by (number x == n) (has_is_some n xs)
    where
      by : (b : Bool) → is_some (with_number number n xs) ≡ has_number number n xs → is_some (cond b (Some x) (with_number number n xs)) ≡ (b || has_number number n xs)
      by true rest = refl
      by false rest = rest

  pub has_is : (n : ℕ) (rows : List (ℕ × A)) → AreRows number rows → is_some (lookup (is_at (nat_cmp n)) rows) ≡ has_number number n (values_of rows)
  has_is n rows h = ap is_some (lookup_is n rows h) ∙ has_is_some n (values_of rows)

  -- ---- in order
  pub in_order : (rows : List (ℕ × A)) → AreRows number rows → IsByNumber number (values_of rows)
  in_order rows h i j d less within =
      let xs = values_of rows in
      let keys : keys_of rows ≡ map number xs = keys_are rows h.numbered in
      let long : length (map number xs) ≡ length xs = length-map xs number in
      let up : get_or (map number xs) i (number d) < get_or (map number xs) j (number d)
      = below_from_sorted (map number xs) i j (number d) (subst (IsStrictlySortedBy nat_cmp) keys h.rising) less (omega arith) in
      let first = get_or-map number xs i d (number d) (omega arith) in
      let second = get_or-map number xs j d (number d) within in
      omega arith

  -- ---- put in
  insert_by : (x : A) (rows : List (ℕ × A)) → AreNumbered rows → values_of (insert_entry nat_cmp rows (number x) x) ≡ placed number x (values_of rows)
  insert_by x [] h = refl
  insert_by x (row ∷ rows) h = by (nat_lt (number x) row.0) (number x == row.0) (insert_by x rows h.1)
      ∙ ap (λ n. cond (nat_lt (number x) n) (x ∷ row.1 ∷ values_of rows) (cond (number x == n) (x ∷ values_of rows) (row.1 ∷ placed number x (values_of rows)))) h.0
    where
      by : (less same : Bool) → values_of (insert_entry nat_cmp rows (number x) x) ≡ placed number x (values_of rows)
          → values_of (match_ordering (cond less Less (cond same Equal Greater)) ((number x, x) ∷ row ∷ rows) ((row.0, x) ∷ rows) (row ∷ insert_entry nat_cmp rows (number x) x))
          ≡ cond less (x ∷ row.1 ∷ values_of rows) (cond same (x ∷ values_of rows) (row.1 ∷ placed number x (values_of rows)))
      by true same rest = refl
      by false true rest = refl
      by false false rest = ap (λ xs. row.1 ∷ xs) rest

  insert_numbered : (x : A) (rows : List (ℕ × A)) → AreNumbered rows → AreNumbered (insert_entry nat_cmp rows (number x) x)
  insert_numbered x [] h = (refl, tt)
  insert_numbered x (row ∷ rows) h = by (nat_lt (number x) row.0) (number x == row.0) refl (insert_numbered x rows h.1)
    where
      by : (less same : Bool) → (number x == row.0) ≡ same → AreNumbered (insert_entry nat_cmp rows (number x) x)
          → AreNumbered (match_ordering (cond less Less (cond same Equal Greater)) ((number x, x) ∷ row ∷ rows) ((row.0, x) ∷ rows) (row ∷ insert_entry nat_cmp rows (number x) x))
      by true same e rest = (refl, h)
      by false true e rest = (sym (eqb-true _ _ e), h.1)
      by false false e rest = (h.0, rest)

  pub insert_is : (n : ℕ) (x : A) (rows new : List (ℕ × A)) → n ≡ number x → new ≡ insert_entry nat_cmp rows n x → AreRows number rows → values_of new ≡ placed number x (values_of rows)
  insert_is n x rows new e is h = ap values_of is ∙ ap (λ m. values_of (insert_entry nat_cmp rows m x)) e ∙ insert_by x rows h.numbered

  pub insert_rows : (n : ℕ) (x : A) (rows new : List (ℕ × A)) → n ≡ number x → new ≡ insert_entry nat_cmp rows n x → AreRows number rows → IsStrictlySortedBy nat_cmp (keys_of new) → AreRows number new
  insert_rows n x rows new e is h rising = record {
    numbered = subst AreNumbered (sym (is ∙ ap (λ m. insert_entry nat_cmp rows m x) e)) (insert_numbered x rows h.numbered);
    rising = rising;
  }

  -- ---- taken out
  all_others : (n : ℕ) (rows : List (ℕ × A)) → AreNumbered rows → AllByRecursion (λ m. nat_cmp n m ≡ Less) (keys_of rows) → without_number number n (values_of rows) ≡ values_of rows
  all_others n [] h above = refl
  all_others n (row ∷ rows) h above =
      let less = less_is n row.0 above.0 in
      let own = h.0 in
      ap (λ b. cond (not b) (row.1 ∷ without_number number n (values_of rows)) (without_number number n (values_of rows))) (ne_eqb (number row.1) n (λ e. omega arith))
      ∙ ap (λ xs. row.1 ∷ xs) (all_others n rows h.1 above.1)

  remove_by : (n : ℕ) (rows : List (ℕ × A)) → AreNumbered rows → IsStrictlySortedBy nat_cmp (keys_of rows) → values_of (remove_entry (is_at (nat_cmp n)) rows) ≡ without_number number n (values_of rows)
  unfolding IsStrictlySortedBy
  remove_by n [] h sorted = refl
  remove_by n (row ∷ rows) h sorted =
      ap (λ b. values_of (cond b rows (row ∷ remove_entry (is_at (nat_cmp n)) rows))) (at_number n row.0 ∙ ap (λ m. m == n) h.0) ∙ by (number row.1 == n) refl (remove_by n rows h.1 sorted.1)
    where
      by : (b : Bool) → (number row.1 == n) ≡ b → values_of (remove_entry (is_at (nat_cmp n)) rows) ≡ without_number number n (values_of rows)
          → values_of (cond b rows (row ∷ remove_entry (is_at (nat_cmp n)) rows)) ≡ cond (not b) (row.1 ∷ without_number number n (values_of rows)) (without_number number n (values_of rows))
      by true e rest = sym (all_others n rows h.1 (subst (λ m. AllByRecursion (λ k. nat_cmp m k ≡ Less) (keys_of rows)) (h.0 ∙ eqb-true _ _ e) sorted.0))
      by false e rest = ap (λ xs. row.1 ∷ xs) rest

  remove_numbered : (n : ℕ) (rows : List (ℕ × A)) → AreNumbered rows → AreNumbered (remove_entry (is_at (nat_cmp n)) rows)
  remove_numbered n [] h = tt
  remove_numbered n (row ∷ rows) h = by (is_eq (nat_cmp n row.0)) (remove_numbered n rows h.1)
    where
      by : (b : Bool) → AreNumbered (remove_entry (is_at (nat_cmp n)) rows) → AreNumbered (cond b rows (row ∷ remove_entry (is_at (nat_cmp n)) rows))
      by true rest = h.1
      by false rest = (h.0, rest)

  pub remove_is : (n : ℕ) (rows new : List (ℕ × A)) → new ≡ remove_entry (is_at (nat_cmp n)) rows → AreRows number rows → values_of new ≡ without_number number n (values_of rows)
  remove_is n rows new is h = ap values_of is ∙ remove_by n rows h.numbered h.rising

  pub remove_rows : (n : ℕ) (rows new : List (ℕ × A)) → new ≡ remove_entry (is_at (nat_cmp n)) rows → AreRows number rows → IsStrictlySortedBy nat_cmp (keys_of new) → AreRows number new
  remove_rows n rows new is h rising = record { numbered = subst AreNumbered (sym is) (remove_numbered n rows h.numbered); rising = rising }

  -- ---- the last
  pub greatest_is : (n : ℕ) (rows : List (ℕ × A)) → AreRows number rows → All (λ m. is_lt (nat_cmp n m) ≡ false) (keys_of rows) → All (λ x. number x ≤ n) (values_of rows)
  greatest_is n rows h above k d within =
      let xs = values_of rows in
      let keys : keys_of rows ≡ map number xs = keys_are rows h.numbered in
      let long : length (map number xs) ≡ length xs = length-map xs number in
      let up = subst (λ ns. All (λ m. is_lt (nat_cmp n m) ≡ false) ns) keys above k (number d) (omega arith) in
      let is = get_or-map number xs k d (number d) within in
      let low = not_less_is n (get_or (map number xs) k (number d)) up in
      omega arith
