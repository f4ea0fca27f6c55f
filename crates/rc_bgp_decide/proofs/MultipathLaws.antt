-- The paths beside the best one: what the eliminations up to the IGP metric leave with its AS path is what is equal to it.
use Rattle.std.proofs.Common.{◌≡◌, ℕ, ◌==◌, nat_lt, Bool, true, false, not, cond, ◌&&◌, List, [], ◌∷◌, Option, Some, None, refl, ap, sym, subst, ◌∙◌, arith, filter, length, map, take}
use Rattle.std.specs.Prelude.{slice_get, option_map}
use Rattle.std.specs.Cmp.Lexicographic.{bytes_decides}
use Rattle.std.specs.List.{enumerate_from, list_any}
use Rattle.std.specs.Option.{option_map_or}
use Rattle.std.proofs.lemmas.Bool.{and_parts, and_from}
use Rattle.std.proofs.lemmas.Bool.Decides.{nat_tests}
use Rattle.rc_base.specs.Lists.{first_seen, in_order, keep}
use Rattle.rc_base.specs.Orders.{origin_number}
use Rattle.rc_base.proofs.KeepLaws.{In, any_no, any_same, filter_same, filter_twice}
use Rattle.rc_route.specs.Paths.{path_source_rank}
use Rattle.rc_route.specs.declared.path.BgpPath.{BgpPath}
use Rattle.rc_route.specs.declared.path.PathSource.{PathSource}
use Rattle.rc_route.specs.declared.path.PathSource.TheVariants.{Network, Connected, Static, Ospf, External, Internal}
use Rattle.rc_bgp_decide.specs.declared.standing.Standing.{Standing}
use Rattle.rc_bgp_decide.specs.declared.turn.Turn.{Turn}
use Rattle.rc_bgp_decide.specs.Beside.{is_equal, is_other, turns_behind}
use Rattle.rc_bgp_decide.specs.Decision.{best_place, by_igp_metric, by_local_preference, by_med, by_neighbor, by_origin, by_origination, by_path_length, by_sender_id, by_session, by_source, by_weight, eliminate, eliminations, first_left, is_external, is_internal, is_originated, same_first_as, standing}
use Rattle.rc_bgp_decide.specs.Multipath.{chosen, multi_places, others, place_of, same_as_path, same_next_hop, turn, turn_cmp, turns}
use Rattle.rc_bgp_decide.proofs.DecisionLaws.{best_is_placed, first_is_in, in_eliminate, stays_in}
use Rattle.rc_bgp_decide.proofs.OrderLaws.{Test}
use Rattle.rc_bgp_decide.proofs.RowLaws.{in_filter, not_beaten}

-- no test tells two apart from any third
abbrev AllAlike : List Test → Standing → Standing → Type 0
AllAlike [] x y = Unit {0}
AllAlike (b ∷ bs) x y = ((z : Standing) → b z x ≡ b z y) × AllAlike bs x y

-- by no test one of two is better
abbrev NoneBetter : List Test → Standing → Standing → Type 0
NoneBetter [] x y = Unit {0}
NoneBetter (b ∷ bs) x y = (b x y ≡ false) × (b y x ≡ false) × NoneBetter bs x y

-- ---- what eliminations leave is what survives them

module _ {X : Type 0} (of : X → Standing) where
  abbrev kept : Test → List X → List X
  kept b xs = keep (λ x y. b (of x) (of y)) xs

  abbrev survives : List Test → List X → X → Bool
  survives [] xs x = true
  survives (b ∷ bs) xs x = not (list_any (λ y. b (of y) (of x)) xs) && survives bs (kept b xs) x

  all_pass : (xs : List X) → xs ≡ filter (λ x. true) xs
  all_pass [] = refl
  all_pass (x ∷ xs) = ap (λ ys. x ∷ ys) (all_pass xs)

  left_survive : (bs : List Test) (xs : List X) → eliminate of bs xs ≡ filter (survives bs xs) xs
  left_survive [] xs = all_pass xs
  left_survive (b ∷ bs) xs = left_survive bs (kept b xs) ∙ filter_twice (λ x. not (list_any (λ y. b (of y) (of x)) xs)) (survives bs (kept b xs)) xs

  -- two that no test tells apart survive alike
  alike_survive : (bs : List Test) (xs : List X) (x y : X) → AllAlike bs (of x) (of y) → survives bs xs x ≡ survives bs xs y
  alike_survive [] xs x y all = refl
  alike_survive (b ∷ bs) xs x y all =
      ap (λ t. not t && survives bs (kept b xs) x) (any_same (λ z. b (of z) (of x)) (λ z. b (of z) (of y)) xs (λ z there. all.0 (of z)))
      ∙ ap (λ t. not (list_any (λ z. b (of z) (of y)) xs) && t) (alike_survive bs (kept b xs) x y all.1)

  -- of two that survive neither is better by any test
  none_better : (bs : List Test) (xs : List X) (x y : X) → In x xs → In y xs → survives bs xs x ≡ true → survives bs xs y ≡ true → NoneBetter bs (of x) (of y)
  none_better [] xs x y in_x in_y lives_x lives_y = tt
  none_better (b ∷ bs) xs x y in_x in_y lives_x lives_y =
      let (kept_x, later_x) = and_parts _ _ lives_x in
      let (kept_y, later_y) = and_parts _ _ lives_y in (
        any_no (λ z. b (of z) (of y)) xs (not_beaten _ kept_y) x in_x,
        any_no (λ z. b (of z) (of x)) xs (not_beaten _ kept_x) y in_y,
        none_better bs (kept b xs) x y (stays_in (λ z. not (list_any (λ w. b (of w) (of z)) xs)) xs x in_x kept_x) (stays_in (λ z. not (list_any (λ w. b (of w) (of z)) xs)) xs y in_y kept_y) later_x later_y,
      )

-- ---- equal standings

same_number : (m n : ℕ) → nat_lt m n ≡ false → nat_lt n m ≡ false → (m == n) ≡ true
same_number m n e f = grind (arith, nat_tests)

one_number : (m n : ℕ) → (m == n) ≡ true → m ≡ n
one_number m n e = grind (arith, nat_tests)

same_rank : (s t : PathSource) → is_originated s ≡ false → is_originated t && not (is_originated s) ≡ false → is_external s && is_internal t ≡ false → is_external t && is_internal s ≡ false
    → (path_source_rank s == path_source_rank t) ≡ true
same_rank Network t a b c d = absurd (cc)
same_rank Connected t a b c d = absurd (cc)
same_rank Static t a b c d = absurd (cc)
same_rank Ospf t a b c d = absurd (cc)
same_rank External Network a b c d = absurd (cc)
same_rank External Connected a b c d = absurd (cc)
same_rank External Static a b c d = absurd (cc)
same_rank External Ospf a b c d = absurd (cc)
same_rank External External a b c d = refl
same_rank External Internal a b c d = absurd (cc)
same_rank Internal Network a b c d = absurd (cc)
same_rank Internal Connected a b c d = absurd (cc)
same_rank Internal Static a b c d = absurd (cc)
same_rank Internal Ospf a b c d = absurd (cc)
same_rank Internal External a b c d = absurd (cc)
same_rank Internal Internal a b c d = refl

abbrev from_rank : ℕ → PathSource
from_rank n = cond (n == 0) Network (cond (n == 1) Connected (cond (n == 2) Static (cond (n == 3) Ospf (cond (n == 4) External Internal))))

ranked : (s : PathSource) → from_rank (path_source_rank s) ≡ s
ranked Network = refl
ranked Connected = refl
ranked Static = refl
ranked Ospf = refl
ranked External = refl
ranked Internal = refl

one_first_as : (o : Option ℕ) → same_first_as o o ≡ true
one_first_as None = refl
one_first_as (Some a) = grind (arith, nat_tests)

by_one_as : (a b : Option ℕ) (t : Bool) → a ≡ b → same_first_as a b && t ≡ false → t ≡ false
by_one_as a b t same e = ap (λ s. s && t) (sym (ap (same_first_as a) (sym same) ∙ one_first_as a)) ∙ e

abbrev first_eight : List Test
first_eight = by_weight ∷ by_local_preference ∷ by_origination ∷ by_path_length ∷ by_origin ∷ by_med ∷ by_session ∷ by_igp_metric ∷ []

module _ (x y : Standing) (length_is : x.path_length ≡ y.path_length) (first_is : x.first_as ≡ y.first_as) where
  equal_from : is_originated x.source ≡ false → NoneBetter first_eight x y → is_equal x y ≡ true
  unfolding is_equal
  equal_from learned (weight, weight-back, (preference, preference-back, (origination, origination-back, (longer, longer-back, (origin, origin-back, (med, med-back, (session, session-back, (metric, metric-back, _)))))))) =
      let weights = same_number x.weight y.weight weight-back weight in
      let preferences = same_number x.local_preference y.local_preference preference-back preference in
      let ranks = same_rank x.source y.source learned origination-back session session-back in
      let origins = same_number (origin_number x.origin) (origin_number y.origin) origin origin-back in
      let meds = same_number x.med y.med (by_one_as x.first_as y.first_as (nat_lt x.med y.med) first_is med) (by_one_as y.first_as x.first_as (nat_lt y.med x.med) (sym first_is) med-back) in
      let metrics = same_number x.igp_metric y.igp_metric metric metric-back in
      and_from _ _ (and_from _ _ (and_from _ _ (and_from _ _ (and_from _ _ weights preferences) ranks) origins) meds) metrics

  alike_from : is_equal x y ≡ true → AllAlike first_eight x y
  unfolding is_equal
  alike_from e =
      let (e1, metric) = and_parts _ _ e in
      let (e2, med) = and_parts _ _ e1 in
      let (e3, origin) = and_parts _ _ e2 in
      let (e4, rank) = and_parts _ _ e3 in
      let (weight, preference) = and_parts _ _ e4 in
      let source : x.source ≡ y.source = sym (ranked x.source) ∙ ap from_rank (one_number _ _ rank) ∙ ranked y.source in (
        λ z. ap (λ n. nat_lt n z.weight) (one_number _ _ weight),
        (
          λ z. ap (λ n. nat_lt n z.local_preference) (one_number _ _ preference),
          (
            λ z. ap (λ s. is_originated z.source && not (is_originated s)) source,
            (
              λ z. ap (λ n. nat_lt z.path_length n) length_is,
              (
                λ z. ap (λ n. nat_lt (origin_number z.origin) n) (one_number _ _ origin),
                (
                  λ z. ap (λ o. same_first_as z.first_as o && nat_lt z.med x.med) first_is ∙ ap (λ n. same_first_as z.first_as y.first_as && nat_lt z.med n) (one_number _ _ med),
                  (
                    λ z. ap (λ s. is_external z.source && is_internal s) source,
                    (
                      λ z. ap (λ n. nat_lt z.igp_metric n) (one_number _ _ metric),
                      tt,
                    ),
                  ),
                ),
              ),
            ),
          ),
        ),
      )

-- ---- the others

by_path : (lives same_place same_path equal : Bool) → (same_path ≡ true → lives ≡ true → equal ≡ true) → (same_path ≡ true → equal ≡ true → lives ≡ true) → lives && (not same_place && same_path) ≡ not same_place && (equal && same_path)
by_path true true same_path equal to back = refl
by_path false true same_path equal to back = refl
by_path true false true true to back = refl
by_path true false true false to back = absurd (let e : false ≡ true = to refl refl in cc)
by_path true false false true to back = refl
by_path true false false false to back = refl
by_path false false true true to back = absurd (let e : false ≡ true = back refl refl in cc)
by_path false false true false to back = refl
by_path false false false true to back = refl
by_path false false false false to back = refl

one_as_path : (x y : BgpPath) → same_as_path x y ≡ true → x.as_path ≡ y.as_path
one_as_path x y e = (bytes_decides x.as_path y.as_path).0 e

abbrev Placed : Type 0
Placed = ℕ × BgpPath

abbrev of : Placed → Standing
of e = standing e.1

module _ (all : List Placed) (best : Placed) (is : first_left of all ≡ Some best) where
  best_survives : In best all × (survives of first_eight all best ≡ true)
  best_survives =
      in_filter (survives of first_eight all) all best (subst (In best) (left_survive of first_eight all)
      (in_eliminate of (by_sender_id ∷ by_neighbor ∷ by_source ∷ []) (eliminate of first_eight all) best (first_is_in (eliminate of eliminations all) best is)))

  others_are_equal : is_originated best.1.source ≡ false → others best all ≡ filter (is_other best) all
  others_are_equal learned =
      ap (filter passes) (left_survive of first_eight all)
      ∙ filter_twice (survives of first_eight all) passes all
      ∙ filter_same (λ e. survives of first_eight all e && passes e) (is_other best) all each
    where
      passes : Placed → Bool
      passes e = not (e.0 == best.0) && same_as_path best.1 e.1

      each : (e : Placed) → In e all → survives of first_eight all e && (not (e.0 == best.0) && same_as_path best.1 e.1) ≡ is_other best e
      each e there = by_path (survives of first_eight all e) (e.0 == best.0) (same_as_path best.1 e.1) (is_equal (of best) (of e))
          (λ one lives. (let as_path = one_as_path best.1 e.1 one in
          equal_from (of best) (of e) (ap length as_path) (ap (λ ns. slice_get ns 0) as_path) learned (none_better of first_eight all best e best_survives.0 there best_survives.1 lives)))
          (λ one equal. (let as_path = one_as_path best.1 e.1 one in
          sym (alike_survive of first_eight all best e (alike_from (of best) (of e) (ap length as_path) (ap (λ ns. slice_get ns 0) as_path) equal)) ∙ best_survives.1))

  behind_best : turns best all ≡ turn best ∷ turns_behind best all
  behind_best = by (is_originated best.1.source) refl
    where
      by : (b : Bool) → is_originated best.1.source ≡ b → turn best ∷ cond b [] (in_order turn_cmp (map turn (others best all))) ≡ turn best ∷ cond b [] (in_order turn_cmp (map turn (filter (is_other best) all)))
      by true e = refl
      by false e = ap (λ es. turn best ∷ in_order turn_cmp (map turn es)) (others_are_equal e)

-- ---- the places

best_at : (paths : List BgpPath) (i : ℕ) (x : BgpPath) → Some i ≡ best_place paths → slice_get paths i ≡ Some x → first_left of (enumerate_from 0 paths) ≡ Some (i, x)
best_at paths i x place found = by (first_left of (enumerate_from 0 paths)) refl place
  where
    by : (o : Option Placed) → first_left of (enumerate_from 0 paths) ≡ o → Some i ≡ option_map (λ (e : Placed). e.0) o → o ≡ Some (i, x)
    by None is place = absurd (cc)
    by (Some e) is place =
        let p = best_is_placed standing paths e is in
        let at = p.place in
        let here : e.0 ≡ i = cc in
        let offset : p.offset ≡ i = omega arith in
        let path : Some e.1 ≡ Some x = sym p.found ∙ ap (slice_get paths) offset ∙ found in
        let same : e.1 ≡ x = cc in
        ap (λ n. Some (n, e.1)) here ∙ ap (λ y. Some (i, y)) same

pub places_with : (paths : List BgpPath) (n place : ℕ) (best : BgpPath) (behind picked : List Turn) (places : List ℕ) → Some place ≡ best_place paths → slice_get paths place ≡ Some best → behind ≡ turns_behind (place, best) (enumerate_from 0 paths)
    → picked ≡ take n (first_seen same_next_hop (turn (place, best) ∷ behind)) → places ≡ map place_of picked → places ≡ multi_places n paths
unfolding multi_places
places_with paths n place best behind picked places is found of_behind of_picked of_places =
    let at = best_at paths place best is found in
    of_places
    ∙ ap (map place_of) (of_picked ∙ ap (λ ts. take n (first_seen same_next_hop ts)) (ap (λ ts. turn (place, best) ∷ ts) of_behind ∙ sym (behind_best (enumerate_from 0 paths) (place, best) at)))
    ∙ ap (λ o. map place_of (option_map_or (λ e. chosen n e (enumerate_from 0 paths)) o [])) (sym at)

pub no_places : (paths : List BgpPath) (n : ℕ) → paths ≡ [] → [] ≡ multi_places n paths
unfolding multi_places
no_places paths n none = ap (λ ps. multi_places n ps) (sym none)
