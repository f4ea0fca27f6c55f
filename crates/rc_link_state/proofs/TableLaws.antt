-- The entry of an area by bisection, and what the table tells.
use Rattle.std.proofs.Common.{refl, ◌≡◌, ap, sym, ◌∙◌, subst, ℕ, zero, suc, ◌<◌, ◌≤◌, inl, inr, Bool, true, false, cond, ◌||◌, List, [], ◌∷◌, ◌++◌, map, length, get_or, Option, Some, None, All, Contains, Result, Ok, Err, IfOk, Bor, arith, eq-eqb, ne_eqb}
use Rattle.std.specs.Prelude.{◌==◌, slice_get, find, MatchResult, option_and_then, IfSome}
use Rattle.std.specs.List.{list_any, filter_map, flat_map, AllByRecursion}
use Rattle.std.specs.List.Sorted.{IsStrictlySortedBy, IsBinarySearchResult}
use Rattle.std.specs.Option.{option_map, option_copied}
use Rattle.std.specs.Ordering.{nat_cmp}
use Rattle.std.specs.declared.cmp.Ordering.TheVariants.{Less}
use Rattle.std.specs.declared.alloc.AllocError.{AllocError}
use Rattle.std.proofs.lemmas.Bool.{cases_lt}
use Rattle.std.proofs.lemmas.List.Elements.{All-contains}
use Rattle.std.proofs.lemmas.List.Sorted.{searched}
use Rattle.std.proofs.lemmas.Map.Keys.{non_decreasing_from_sorted}
use Rattle.std.proofs.lemmas.Cmp.{nat_cmp_total, tied_itself}
use Rattle.rc_base.proofs.OrderedLaws.{in_order-sorted}
use Rattle.rc_route.specs.Hops.{hop_cmp}
use Rattle.rc_route.specs.declared.route.Hop.{Hop}
use Rattle.rc_route.proofs.OrderLaws.{hop_cmp_total}
use Rattle.rc_link_state.specs.declared.columns.Column.{Column}
use Rattle.rc_link_state.specs.declared.table.AreaWalks.{AreaWalks}
use Rattle.rc_link_state.specs.ByRouter.{of_router}
use Rattle.rc_link_state.specs.Columns.{cost_at}
use Rattle.rc_link_state.specs.HopsBy.{hop_on}
use Rattle.rc_link_state.specs.Kept.{AreKept, HasSmallCosts, area_of}
use Rattle.rc_link_state.specs.Tables.{column_of, hops_of, hops_over_place, hops_towards, is_number, is_of_area, nowhere, reach_in, walks_in}
use Rattle.rc_link_state.proofs.HopOrderLaws.{none_rise}

-- ---- the place of a number among some that rise

at_place : (xs : List ℕ) (i : ℕ) → i < length xs → slice_get xs i ≡ Some (get_or xs i 0)
at_place [] i lt = absurd (omega (arith, lt))
at_place (x ∷ xs) zero lt = refl
at_place (x ∷ xs) (suc i) lt = at_place xs i (omega (arith, lt))

none_of : (n : ℕ) (xs : List ℕ) → ((k : ℕ) → k < length xs → get_or xs k 0 ≡ n → ⊥) → list_any (is_number n) xs ≡ false
none_of n [] other = refl
none_of n (x ∷ xs) other = ap (λ b. b || list_any (is_number n) xs) (ne_eqb x n (other 0 (omega arith))) ∙ none_of n xs (λ k lt same. other (suc k) (omega (arith, lt)) same)

pub bisected : (xs : List ℕ) (n : ℕ) (r : Result ℕ ℕ) → IsStrictlySortedBy nat_cmp xs → IsBinarySearchResult (λ y. nat_cmp y n) xs r →
    MatchResult r (λ i. slice_get xs i ≡ Some n) (λ i. list_any (is_number n) xs ≡ false)
bisected xs n r up told = at r (searched xs n r told (λ i j le lt. non_decreasing_from_sorted xs up i j 0 le lt))
  where
    at : (r : Result ℕ ℕ) → MatchResult r (λ i. (i < length xs) × (get_or xs i 0 ≡ n)) (λ i. (i ≤ length xs) × ((k : ℕ) → k < i → get_or xs k 0 < n) × ((k : ℕ) → i ≤ k → k < length xs → n < get_or xs k 0)) →
        MatchResult r (λ i. slice_get xs i ≡ Some n) (λ i. list_any (is_number n) xs ≡ false)
    at (Ok i) found = at_place xs i found.0 ∙ ap Some found.1
    at (Err i) parted = none_of n xs (λ k lt same. elim (cases_lt k i) [
      | inl before ↦ (let low : get_or xs k 0 < n = parted.1 k before in omega (arith, low, same))
      | inr behind ↦ (let high : n < get_or xs k 0 = parted.2 k behind lt in omega (arith, high, same))
    ])

-- ---- the entry of an area is the one at the place of its number

above : (n k area : ℕ) (ns : List ℕ) → AllByRecursion (λ m. nat_cmp n m ≡ Less) ns → slice_get ns k ≡ Some area → nat_cmp n area ≡ Less
above n k area [] all at = absurd (cc at)
above n zero area (m ∷ ns) all at = let same : m ≡ area = cc at in subst (λ x. nat_cmp n x ≡ Less) same all.0
above n (suc k) area (m ∷ ns) all at = above n k area ns all.1 at

not_itself : (n : ℕ) → nat_cmp n n ≡ Less → ⊥
not_itself n is = let tied = tied_itself nat_cmp_total n in cc (is, tied)

entry_at : (area : ℕ) (areas : List AreaWalks) (k : ℕ) → IsStrictlySortedBy nat_cmp (map area_of areas) → slice_get (map area_of areas) k ≡ Some area → slice_get areas k ≡ find (is_of_area area) areas
unfolding IsStrictlySortedBy
entry_at area [] k up at = absurd (cc at)
entry_at area (w ∷ ws) zero up at = let same : w.area ≡ area = cc at in sym (ap (λ b. cond b (Some w) (find (is_of_area area) ws)) (eq-eqb w.area area same))
entry_at area (w ∷ ws) (suc k) up at =
    let less : nat_cmp w.area area ≡ Less = above w.area k area (map area_of ws) up.0 at in
    let other : (w.area == area) ≡ false = ne_eqb w.area area (λ same. not_itself area (subst (λ n. nat_cmp n area ≡ Less) same less)) in
    entry_at area ws k up.1 at ∙ sym (ap (λ b. cond b (Some w) (find (is_of_area area) ws)) other)

no_entry : (area : ℕ) (areas : List AreaWalks) → list_any (is_number area) (map area_of areas) ≡ false → None ≡ find (is_of_area area) areas
no_entry area [] none = refl
no_entry area (w ∷ ws) none = by (w.area == area) none (no_entry area ws)
  where
    by : (b : Bool) → (b || list_any (is_number area) (map area_of ws)) ≡ false → (list_any (is_number area) (map area_of ws) ≡ false → None ≡ find (is_of_area area) ws) → None ≡ cond b (Some w) (find (is_of_area area) ws)
    by true bad rest = absurd (cc bad)
    by false here rest = rest here

found_in : (area : ℕ) (areas : List AreaWalks) (w : AreaWalks) → find (is_of_area area) areas ≡ Some w → Contains areas w
found_in area [] w is = absurd (cc is)
found_in area (v ∷ vs) w is = by (v.area == area) is (found_in area vs w)
  where
    by : (b : Bool) → cond b (Some v) (find (is_of_area area) vs) ≡ Some w → (find (is_of_area area) vs ≡ Some w → Contains vs w) → Contains (v ∷ vs) w
    by true here rest = (0, omega arith, cc here)
    by false here rest = let (k, lt, same) = rest here in (suc k, omega (arith, lt), same)

found_small : (area : ℕ) (areas : List AreaWalks) → All HasSmallCosts areas → IfSome (find (is_of_area area) areas) HasSmallCosts
found_small area areas small = by (find (is_of_area area) areas) refl
  where
    by : (o : Option AreaWalks) → find (is_of_area area) areas ≡ o → IfSome o HasSmallCosts
    by None is = tt
    by (Some w) is = All-contains HasSmallCosts areas w small (found_in area areas w is)

copied_small : (o : Option (Bor AreaWalks)) (u : Option AreaWalks) → option_copied o ≡ u → IfSome u HasSmallCosts → IfSome o (λ w. HasSmallCosts w.now)
copied_small None u is small = tt
copied_small (Some w) u is small = subst (λ v. IfSome v HasSmallCosts) (sym is) small

-- ---- by what is kept

pub kept_as : (inside areas : List AreaWalks) (listed read : List ℕ) → inside ≡ areas → read ≡ listed → AreKept inside listed → AreKept areas read
kept_as inside areas listed read is same kept = subst (AreKept areas) (sym same) (subst (λ ws. AreKept ws listed) is kept)

module _ (areas : List AreaWalks) (numbers : List ℕ) (kept : AreKept areas numbers) (area : ℕ) where
  pub kept_at : (place : ℕ) → slice_get numbers place ≡ Some area → slice_get areas place ≡ find (is_of_area area) areas
  kept_at place at = entry_at area areas place (subst (IsStrictlySortedBy nat_cmp) (sym kept.numbers) kept.rise) (subst (λ ns. slice_get ns place ≡ Some area) (sym kept.numbers) at)

  pub kept_none : list_any (is_number area) numbers ≡ false → None ≡ find (is_of_area area) areas
  kept_none none = no_entry area areas (subst (λ ns. list_any (is_number area) ns ≡ false) (sym kept.numbers) none)

  pub kept_small : (o : Option (Bor AreaWalks)) → option_copied o ≡ find (is_of_area area) areas → IfSome o (λ w. HasSmallCosts w.now)
  kept_small o is = copied_small o (find (is_of_area area) areas) is (found_small area areas kept.small)

-- ---- what the table tells

towards_rise : (w : AreaWalks) (r : ℕ) (c : Column) (cost : ℕ) → IsStrictlySortedBy hop_cmp (hops_towards w r c cost)
towards_rise w r c cost =
    in_order-sorted hop_cmp hop_cmp_total (filter_map (hop_on (cost_at c.costs) cost) (of_router w.steps r) ++ flat_map (hops_over_place w r c cost) (of_router w.attached r))

module _ (areas : List AreaWalks) (r area s : ℕ) where
  pub told_here : (s == r) ≡ true → reach_in areas r area s ≡ Some nowhere
  unfolding reach_in
  told_here is = ap (λ b. cond b (Some nowhere) (option_and_then (λ (w : AreaWalks). walks_in w r s) (find (is_of_area area) areas))) is

  pub told_there : (s == r) ≡ false → (o : Option AreaWalks) → o ≡ find (is_of_area area) areas → reach_in areas r area s ≡ option_and_then (λ (w : AreaWalks). walks_in w r s) o
  unfolding reach_in
  told_there is o same =
      ap (λ b. cond b (Some nowhere) (option_and_then (λ (w : AreaWalks). walks_in w r s) (find (is_of_area area) areas))) is
      ∙ ap (option_and_then (λ (w : AreaWalks). walks_in w r s)) (sym same)

  pub rises : IsStrictlySortedBy hop_cmp (hops_of (reach_in areas r area s))
  unfolding reach_in
  rises = by (s == r)
    where
      by_cost : (w : AreaWalks) (o : Option ℕ) → IsStrictlySortedBy hop_cmp (hops_of (option_map (λ cost. record { cost = cost; hops = hops_towards w r (column_of w s) cost }) o))
      by_cost w None = none_rise
      by_cost w (Some cost) = towards_rise w r (column_of w s) cost

      by_entry : (o : Option AreaWalks) → IsStrictlySortedBy hop_cmp (hops_of (option_and_then (λ (w : AreaWalks). walks_in w r s) o))
      by_entry None = none_rise
      by_entry (Some w) = by_cost w (cost_at (column_of w s).costs r)

      by : (b : Bool) → IsStrictlySortedBy hop_cmp (hops_of (cond b (Some nowhere) (option_and_then (λ (w : AreaWalks). walks_in w r s) (find (is_of_area area) areas))))
      by true = none_rise
      by false = by_entry (find (is_of_area area) areas)

  pub all_rise : (o : Result (List Hop) AllocError) → IfOk o (λ hops. hops ≡ hops_of (reach_in areas r area s)) → IfOk o (IsStrictlySortedBy hop_cmp)
  all_rise (Ok hops) is = subst (IsStrictlySortedBy hop_cmp) (sym is) rises
  all_rise (Err e) is = tt
