-- Laws of several paths at once: the best one stands first, there are no more than asked for, and no next hop comes twice.
use Rattle.std.proofs.Common.{◌≡◌, ◌↔◌, ℕ, zero, suc, ◌≤◌, ◌==◌, inl, inr, Bool, true, false, not, cond, ◌&&◌, List, [], ◌∷◌, ◌++◌, Option, Some, None, Result, Ok, Err, IfOk, refl, ap, sym, subst, ◌∙◌, arith, drop, length, map, take, nat_eq}
use Rattle.std.specs.Prelude.{slice_get, option_map}
use Rattle.std.specs.BTreeSet.{insert_key}
use Rattle.std.specs.Global.{Vec}
use Rattle.std.specs.List.{AllByRecursion, IsDistinct, cons_option, enumerate_from, fold, list_any}
use Rattle.std.specs.Option.{option_map_or}
use Rattle.std.specs.Ordering.{match_ordering}
use Rattle.std.specs.declared.alloc.AllocError.{AllocError}
use Rattle.std.specs.declared.cmp.Ordering.TheVariants.{Less, Equal, Greater}
use Rattle.std.proofs.lemmas.Bool.{or_parts}
use Rattle.std.proofs.lemmas.Bool.Decides.{nat_tests}
use Rattle.rc_base.specs.Lists.{first_seen, in_order}
use Rattle.rc_base.proofs.KeepLaws.{In}
use Rattle.rc_route.specs.declared.path.BgpPath.{BgpPath}
use Rattle.rc_bgp_decide.specs.declared.turn.Turn.{Turn}
use Rattle.rc_bgp_decide.specs.Beside.{with_new}
use Rattle.rc_bgp_decide.specs.Decision.{best_place, eliminate, eliminations, first_left, is_originated, standing}
use Rattle.rc_bgp_decide.specs.Multipath.{as_good, chosen, hop_of, multi_places, next_hops_at, others, place_of, same_as_path, same_next_hop, turn, turn_cmp, turns}
use Rattle.rc_bgp_decide.proofs.ChosenLaws.{grown}
use Rattle.rc_bgp_decide.proofs.DecisionLaws.{first_is_in, in_eliminate, member_is_placed, none_from_none}
use Rattle.rc_bgp_decide.proofs.RowLaws.{in_filter}

abbrev Placed : Type 0
Placed = ℕ × BgpPath

-- ---- how many there are

taken : (n : ℕ) (ts : List Turn) → length (map place_of (take n ts)) ≤ n
taken zero ts = omega arith
taken (suc n) [] = omega arith
taken (suc n) (t ∷ ts) = (let rest = taken n ts in omega arith)

pub within : (n : ℕ) (paths : List BgpPath) → length (multi_places n paths) ≤ n
unfolding multi_places
within n paths = by (first_left (λ (e : Placed). standing e.1) (enumerate_from 0 paths))
  where
    by : (o : Option Placed) → length (map place_of (option_map_or (λ e. chosen n e (enumerate_from 0 paths)) o [])) ≤ n
    by None = omega arith
    by (Some e) = taken n (first_seen same_next_hop (turns e (enumerate_from 0 paths)))

few : (n : ℕ) (places : List ℕ) → length places ≤ n → n ≤ 1 → drop 1 places ≡ []
few n [] short one = refl
few n (i ∷ []) short one = refl
few n (i ∷ j ∷ places) short one = absurd (omega arith)

-- where there is one path at most, none stands behind it
pub none_behind : (n : ℕ) (paths : List BgpPath) → n ≤ 1 → [] ≡ next_hops_at paths (drop 1 (multi_places n paths))
none_behind n paths one = ap (next_hops_at paths) (sym (few n (multi_places n paths) (within n paths) one))

-- ---- the best one stands first

pub best_first : (n : ℕ) (paths : List BgpPath) → 1 ≤ n → slice_get (multi_places n paths) 0 ≡ best_place paths
unfolding multi_places
best_first zero paths one = absurd (omega arith)
best_first (suc n) paths one = by (first_left (λ (e : Placed). standing e.1) (enumerate_from 0 paths))
  where
    by : (o : Option Placed) → slice_get (map place_of (option_map_or (λ e. chosen (suc n) e (enumerate_from 0 paths)) o [])) 0 ≡ option_map (λ (e : Placed). e.0) o
    by None = refl
    by (Some e) =
        let behind = cond (is_originated e.1.source) [] (in_order turn_cmp (map turn (others e (enumerate_from 0 paths)))) in
        let (more, is) = grown (turn e ∷ []) behind in
        ap (λ ts. slice_get (map place_of (take (suc n) ts)) 0) is

pub none_of_none : (n : ℕ) (paths : List BgpPath) → 1 ≤ n → (multi_places n paths ≡ []) ↔ (paths ≡ [])
unfolding multi_places
none_of_none n paths one = (
  λ none. none_from_none standing paths (sym (best_first n paths one) ∙ ap (λ places. slice_get places 0) none),
  λ none. ap (multi_places n) none,
)

-- ---- no next hop comes twice

-- a turn tells the next hop of the path at its place
abbrev IsTold : List BgpPath → Turn → Type 0
IsTold paths t = option_map (λ (x : BgpPath). x.next_hop) (slice_get paths t.place) ≡ Some t.next_hop

hops_told : (paths : List BgpPath) (ts : List Turn) → AllByRecursion (IsTold paths) ts → next_hops_at paths (map place_of ts) ≡ map hop_of ts
hops_told paths [] told = refl
hops_told paths (t ∷ ts) told = ap (λ o. cons_option o (next_hops_at paths (map place_of ts))) told.0 ∙ ap (λ hops. t.next_hop ∷ hops) (hops_told paths ts told.1)

module _ (P : Turn → Type 0) where
  all_taken : (n : ℕ) (ts : List Turn) → AllByRecursion P ts → AllByRecursion P (take n ts)
  all_taken zero ts all = tt
  all_taken (suc n) [] all = tt
  all_taken (suc n) (t ∷ ts) all = (all.0, all_taken n ts all.1)

  all_behind : (ts : List Turn) (t : Turn) → AllByRecursion P ts → P t → AllByRecursion P (ts ++ t ∷ [])
  all_behind [] t all here = (here, tt)
  all_behind (u ∷ us) t all here = (all.0, all_behind us t all.1 here)

  all_new : (ts us : List Turn) → AllByRecursion P us → AllByRecursion P ts → AllByRecursion P (fold with_new ts us)
  all_new ts [] all so_far = so_far
  all_new ts (u ∷ us) all so_far = by (list_any (same_next_hop u) ts) (all_new ts us all.1 so_far) (all_new (ts ++ u ∷ []) us all.1 (all_behind ts u so_far all.0))
    where
      by : (b : Bool) → AllByRecursion P (fold with_new ts us) → AllByRecursion P (fold with_new (ts ++ u ∷ []) us) → AllByRecursion P (fold with_new (cond b ts (ts ++ u ∷ [])) us)
      by true same longer = same
      by false same longer = longer

  all_inserted : (t : Turn) (ts : List Turn) → P t → AllByRecursion P ts → AllByRecursion P (insert_key turn_cmp ts t)
  all_inserted t [] here all = (here, tt)
  all_inserted t (u ∷ us) here all =
      let rest = all_inserted t us here all.1 in
      elim (turn_cmp t u) as (λ r. AllByRecursion P (match_ordering r (t ∷ u ∷ us) (u ∷ us) (u ∷ insert_key turn_cmp us t))) [ Less ↦ (here, all) | Equal ↦ all | Greater ↦ (all.0, rest) ]

  all_ordered : (ts us : List Turn) → AllByRecursion P us → AllByRecursion P ts → AllByRecursion P (fold (insert_key turn_cmp) ts us)
  all_ordered ts [] all so_far = so_far
  all_ordered ts (u ∷ us) all so_far = all_ordered (insert_key turn_cmp ts u) us all.1 (all_inserted u ts all.0 so_far)

one_hop : (t u : Turn) → same_next_hop t u ≡ false → same_next_hop u t ≡ false
one_hop t u e = grind (arith, nat_tests)

distinct_behind : (ts : List Turn) (t : Turn) → IsDistinct same_next_hop ts → list_any (same_next_hop t) ts ≡ false → IsDistinct same_next_hop (ts ++ t ∷ [])
unfolding IsDistinct
distinct_behind [] t apart none = (tt, tt)
distinct_behind (u ∷ us) t apart none =
    let (here, later) = or_parts (same_next_hop t u) (list_any (same_next_hop t) us) none in
    (all_behind (λ v. same_next_hop u v ≡ false) us t apart.0 (one_hop t u here), distinct_behind us t apart.1 later)

distinct_new : (ts us : List Turn) → IsDistinct same_next_hop ts → IsDistinct same_next_hop (fold with_new ts us)
distinct_new ts [] apart = apart
distinct_new ts (u ∷ us) apart = by (list_any (same_next_hop u) ts) refl (distinct_new ts us apart) (λ none. distinct_new (ts ++ u ∷ []) us (distinct_behind ts u apart none))
  where
    by : (b : Bool) → list_any (same_next_hop u) ts ≡ b → IsDistinct same_next_hop (fold with_new ts us) → (list_any (same_next_hop u) ts ≡ false → IsDistinct same_next_hop (fold with_new (ts ++ u ∷ []) us))
        → IsDistinct same_next_hop (fold with_new (cond b ts (ts ++ u ∷ [])) us)
    by true e same longer = same
    by false e same longer = longer e

distinct_taken : (n : ℕ) (ts : List Turn) → IsDistinct same_next_hop ts → IsDistinct same_next_hop (take n ts)
unfolding IsDistinct
distinct_taken zero ts apart = tt
distinct_taken (suc n) [] apart = tt
distinct_taken (suc n) (t ∷ ts) apart = (all_taken (λ v. same_next_hop t v ≡ false) n ts apart.0, distinct_taken n ts apart.1)

apart_hops : (t : Turn) (ts : List Turn) → AllByRecursion (λ v. same_next_hop t v ≡ false) ts → AllByRecursion (λ hop. nat_eq t.next_hop hop ≡ false) (map hop_of ts)
apart_hops t [] all = tt
apart_hops t (u ∷ us) all = (all.0, apart_hops t us all.1)

distinct_hops : (ts : List Turn) → IsDistinct same_next_hop ts → IsDistinct nat_eq (map hop_of ts)
unfolding IsDistinct
distinct_hops [] apart = tt
distinct_hops (t ∷ ts) apart = (apart_hops t ts apart.0, distinct_hops ts apart.1)

module _ (paths : List BgpPath) where
  told : (e : Placed) → In e (enumerate_from 0 paths) → IsTold paths (turn e)
  told e there =
      let p = member_is_placed 0 paths e there in
      let at = p.place in
      let place : e.0 ≡ p.offset = omega arith in
      ap (λ i. option_map (λ (x : BgpPath). x.next_hop) (slice_get paths i)) place ∙ ap (option_map (λ (x : BgpPath). x.next_hop)) p.found

  told_of : (es : List Placed) → ((e : Placed) → In e es → In e (enumerate_from 0 paths)) → AllByRecursion (IsTold paths) (map turn es)
  told_of [] within_all = tt
  told_of (e ∷ es) within_all = (told e (within_all e (inl refl)), told_of es (λ f there. within_all f (inr there)))

  behind_told : (best : Placed) (b : Bool) → AllByRecursion (IsTold paths) (cond b [] (in_order turn_cmp (map turn (others best (enumerate_from 0 paths)))))
  behind_told best true = tt
  behind_told best false =
      all_ordered (IsTold paths) [] (map turn (others best (enumerate_from 0 paths)))
      (told_of (others best (enumerate_from 0 paths)) (λ e there.
      in_eliminate (λ (f : Placed). standing f.1) (take 8 eliminations) (enumerate_from 0 paths) e
      (in_filter (λ (f : Placed). not (f.0 == best.0) && same_as_path best.1 f.1) (as_good (enumerate_from 0 paths)) e there).0)) tt

  chosen_apart : (n : ℕ) (best : Placed) → In best (enumerate_from 0 paths) → IsDistinct nat_eq (next_hops_at paths (map place_of (chosen n best (enumerate_from 0 paths))))
  unfolding IsDistinct
  chosen_apart n best there =
      let all = turns best (enumerate_from 0 paths) in
      subst (IsDistinct nat_eq)
      (sym (hops_told paths (take n (first_seen same_next_hop all)) (all_taken (IsTold paths) n (first_seen same_next_hop all) (all_new (IsTold paths) [] all (told best there, behind_told best (is_originated best.1.source)) tt))))
      (distinct_hops (take n (first_seen same_next_hop all)) (distinct_taken n (first_seen same_next_hop all) (distinct_new [] all tt)))

  pub no_hop_twice : (n : ℕ) → IsDistinct nat_eq (next_hops_at paths (multi_places n paths))
  unfolding multi_places IsDistinct
  no_hop_twice n = by (first_left (λ (e : Placed). standing e.1) (enumerate_from 0 paths)) refl
    where
      by : (o : Option Placed) → first_left (λ (e : Placed). standing e.1) (enumerate_from 0 paths) ≡ o → IsDistinct nat_eq (next_hops_at paths (map place_of (option_map_or (λ e. chosen n e (enumerate_from 0 paths)) o [])))
      by None is = tt
      by (Some e) is =
          chosen_apart n e (in_eliminate (λ (f : Placed). standing f.1) eliminations (enumerate_from 0 paths) e
          (first_is_in (eliminate (λ (f : Placed). standing f.1) eliminations (enumerate_from 0 paths)) e is))

-- ---- what was made

abbrev Made : Result (Vec ℕ) AllocError → ℕ → List BgpPath → Type 0
Made made n paths = IfOk made (λ (places : Vec ℕ). places.items ≡ multi_places n paths)

pub best_of_several : (made : Result (Vec ℕ) AllocError) (n : ℕ) (paths : List BgpPath) → 1 ≤ n → Made made n paths → IfOk made (λ (places : Vec ℕ). slice_get places.items 0 ≡ best_place paths)
best_of_several (Ok places) n paths one is = ap (λ ps. slice_get ps 0) is ∙ best_first n paths one
best_of_several (Err e) n paths one is = is

pub none_of_several : (made : Result (Vec ℕ) AllocError) (n : ℕ) (paths : List BgpPath) → 1 ≤ n → Made made n paths → IfOk made (λ (places : Vec ℕ). (places.items ≡ []) ↔ (paths ≡ []))
none_of_several (Ok places) n paths one is = subst (λ ps. (ps ≡ []) ↔ (paths ≡ [])) (sym is) (none_of_none n paths one)
none_of_several (Err e) n paths one is = is

pub within_several : (made : Result (Vec ℕ) AllocError) (n : ℕ) (paths : List BgpPath) → Made made n paths → IfOk made (λ (places : Vec ℕ). length places.items ≤ n)
within_several (Ok places) n paths is = subst (λ ps. length ps ≤ n) (sym is) (within n paths)
within_several (Err e) n paths is = is

pub apart_several : (made : Result (Vec ℕ) AllocError) (n : ℕ) (paths : List BgpPath) → Made made n paths → IfOk made (λ (places : Vec ℕ). IsDistinct nat_eq (next_hops_at paths places.items))
apart_several (Ok places) n paths is = subst (λ ps. IsDistinct nat_eq (next_hops_at paths ps)) (sym is) (no_hop_twice paths n)
apart_several (Err e) n paths is = is
