-- The eliminations are two: by the first tests in turn, and among those left by the last ones in turn.
use Rattle.std.proofs.Common.{◌≡◌, inl, inr, Bool, true, false, not, cond, ◌&&◌, ◌||◌, List, [], ◌∷◌, ◌++◌, refl, ap, sym, subst, ◌∙◌, filter}
use Rattle.std.specs.List.{list_any}
use Rattle.rc_base.specs.Lists.{keep}
use Rattle.rc_base.proofs.KeepLaws.{In, keep_keep, filter_same, any_same, any_no}
use Rattle.rc_route.specs.declared.path.PathSource.{PathSource}
use Rattle.rc_route.specs.declared.path.PathSource.TheVariants.{Network, Connected, Static, Ospf, External, Internal}
use Rattle.rc_bgp_decide.specs.declared.standing.Standing.{Standing}
use Rattle.rc_bgp_decide.specs.Decision.{is_external, is_internal, is_originated, by_weight, by_local_preference, by_origination, by_path_length, by_origin, by_med, by_session, by_igp_metric, by_sender_id, by_neighbor, by_source, eliminate, eliminations}
use Rattle.rc_bgp_decide.specs.Tests.{in_turn, by_way, first_tests, last_tests}
use Rattle.rc_bgp_decide.proofs.OrderLaws.{Test, AllOrders, first_orders, last_orders, weak_on}

-- ---- members

pub in_filter : {X : Type 0} (p : X → Bool) (xs : List X) (x : X) → In x (filter p xs) → In x xs × (p x ≡ true)
in_filter p [] x there = absurd there
in_filter {X} p (y ∷ ys) x there = by_test (p y) refl (in_filter p ys x) there
  where
    by_test : (b : Bool) → p y ≡ b → (In x (filter p ys) → In x ys × (p x ≡ true)) → In x (cond b (y ∷ filter p ys) (filter p ys)) → In x (y ∷ ys) × (p x ≡ true)
    by_test true e later (inl same) = (inl same, subst (λ z. p z ≡ true) same e)
    by_test true e later (inr there) = (let (here, passes) = later there in (inr here, passes))
    by_test false e later there = (let (here, passes) = later there in (inr here, passes))

-- ---- tests in turn

-- at the last test, what is in turn behind it says nothing
nothing_behind : (a b : Bool) → a ≡ a || (not b && false)
nothing_behind true b = refl
nothing_behind false true = refl
nothing_behind false false = refl

-- eliminations by orders and then by one more test are one elimination by them in turn
pub in_one : {X : Type 0} (of : X → Standing) (bs : List Test) (c : Test) (xs : List X) → AllOrders bs → eliminate of (bs ++ c ∷ []) xs ≡ keep (λ x y. in_turn (bs ++ c ∷ []) (of x) (of y)) xs
in_one of [] c xs all =
    filter_same (λ x. not (list_any (λ y. c (of y) (of x)) xs)) (λ x. not (list_any (λ y. in_turn (c ∷ []) (of y) (of x)) xs)) xs
    (λ x there. ap not (any_same (λ y. c (of y) (of x)) (λ y. in_turn (c ∷ []) (of y) (of x)) xs (λ y here. nothing_behind (c (of y) (of x)) (c (of x) (of y)))))
in_one of (b ∷ bs) c xs all =
    in_one of bs c (keep (λ x y. b (of x) (of y)) xs) all.1
    ∙ keep_keep (λ x y. b (of x) (of y)) (λ x y. in_turn (bs ++ c ∷ []) (of x) (of y)) xs (weak_on of b all.0)

-- a pair that tests in turn don't tell apart isn't told apart by the first one, nor by those behind
apart_by_none : (a b c d : Bool) → a || (not b && c) ≡ false → b || (not a && d) ≡ false → (a ≡ false) × (b ≡ false) × (c ≡ false) × (d ≡ false)
apart_by_none true b c d e f = absurd (cc)
apart_by_none false true c d e f = absurd (cc)
apart_by_none false false c d e f = (refl, refl, e, f)

-- ---- paths that the first tests leave are all originated, or all from peers

both_or_none : (x y : Bool) → x && not y ≡ false → y && not x ≡ false → x ≡ y
both_or_none true true e f = refl
both_or_none true false e f = absurd (cc)
both_or_none false true e f = absurd (cc)
both_or_none false false e f = refl

same_origination : (x y : Standing) → first_tests x y ≡ false → first_tests y x ≡ false → is_originated x.source ≡ is_originated y.source
unfolding first_tests
same_origination x y e f =
    let weight = apart_by_none (by_weight x y) (by_weight y x) _ _ e f in
    let preference = apart_by_none (by_local_preference x y) (by_local_preference y x) _ _ weight.2 weight.3 in
    let origination = apart_by_none (by_origination x y) (by_origination y x) _ _ preference.2 preference.3 in
    both_or_none (is_originated x.source) (is_originated y.source) origination.0 origination.1

pub one_kind : (s : PathSource) → is_external s && is_internal s ≡ false
one_kind Network = refl
one_kind Connected = refl
one_kind Static = refl
one_kind Ospf = refl
one_kind External = refl
one_kind Internal = refl

-- among such paths the session's kind is told by whether it is internal
same_session : (x y : Standing) → is_originated x.source ≡ is_originated y.source → by_session y x ≡ by_way y x
same_session x y same = by_kinds (is_external x.source) (is_internal x.source) (is_external y.source) (is_internal y.source) (one_kind y.source) same
  where
    by_kinds : (ex ix ey iy : Bool) → ey && iy ≡ false → not ex && not ix ≡ not ey && not iy → ey && ix ≡ not iy && ix
    by_kinds ex false ey iy one same = nothing_there ey ∙ sym (nothing_there (not iy))
      where
        nothing_there : (b : Bool) → b && false ≡ false
        nothing_there true = refl
        nothing_there false = refl
    by_kinds ex true true true one same = absurd (cc)
    by_kinds ex true true false one same = refl
    by_kinds ex true false true one same = refl
    by_kinds true true false false one same = absurd (cc)
    by_kinds false true false false one same = absurd (cc)

-- ---- the eliminations

-- those that no one beats by the first tests
abbrev pub left : {X : Type 0} → (X → Standing) → List X → List X
left of xs = keep (λ x y. first_tests (of x) (of y)) xs

first_six : {X : Type 0} (of : X → Standing) (xs : List X) → eliminate of (by_weight ∷ by_local_preference ∷ by_origination ∷ by_path_length ∷ by_origin ∷ by_med ∷ []) xs ≡ left of xs
unfolding first_tests
first_six of xs = in_one of (by_weight ∷ by_local_preference ∷ by_origination ∷ by_path_length ∷ by_origin ∷ []) by_med xs first_orders

by_way_orders : AllOrders (by_way ∷ by_igp_metric ∷ by_sender_id ∷ by_neighbor ∷ [])
by_way_orders = (last_orders.0, (last_orders.1.0, (last_orders.1.1.0, (last_orders.1.1.1.0, tt))))

last_five : {X : Type 0} (of : X → Standing) (xs : List X) → eliminate of (by_way ∷ by_igp_metric ∷ by_sender_id ∷ by_neighbor ∷ by_source ∷ []) xs ≡ keep (λ x y. last_tests (of x) (of y)) xs
unfolding last_tests
last_five of xs = in_one of (by_way ∷ by_igp_metric ∷ by_sender_id ∷ by_neighbor ∷ []) by_source xs by_way_orders

pub not_beaten : (a : Bool) → not a ≡ true → a ≡ false
not_beaten true e = absurd (cc)
not_beaten false e = refl

session_is_way : {X : Type 0} (of : X → Standing) (xs : List X) → keep (λ x y. by_session (of x) (of y)) (left of xs) ≡ keep (λ x y. by_way (of x) (of y)) (left of xs)
session_is_way {X} of xs =
    filter_same (λ x. not (list_any (λ y. by_session (of y) (of x)) (left of xs))) (λ x. not (list_any (λ y. by_way (of y) (of x)) (left of xs))) (left of xs)
    (λ x there. ap not (any_same (λ y. by_session (of y) (of x)) (λ y. by_way (of y) (of x)) (left of xs) (λ y here. same_session (of x) (of y) (same x y there here))))
  where
    unbeaten : (x y : X) → In x (left of xs) → In y (left of xs) → first_tests (of y) (of x) ≡ false
    unbeaten x y there here =
        let (in_x, left_x) = in_filter (λ z. not (list_any (λ w. first_tests (of w) (of z)) xs)) xs x there in
        let (in_y, left_y) = in_filter (λ z. not (list_any (λ w. first_tests (of w) (of z)) xs)) xs y here in
        any_no (λ w. first_tests (of w) (of x)) xs (not_beaten _ left_x) y in_y

    same : (x y : X) → In x (left of xs) → In y (left of xs) → is_originated (of x).source ≡ is_originated (of y).source
    same x y there here = same_origination (of x) (of y) (unbeaten y x here there) (unbeaten x y there here)

pub in_two : {X : Type 0} (of : X → Standing) (xs : List X) → eliminate of eliminations xs ≡ keep (λ x y. last_tests (of x) (of y)) (left of xs)
in_two of xs =
    ap (eliminate of (by_session ∷ by_igp_metric ∷ by_sender_id ∷ by_neighbor ∷ by_source ∷ [])) (first_six of xs)
    ∙ ap (eliminate of (by_igp_metric ∷ by_sender_id ∷ by_neighbor ∷ by_source ∷ [])) (session_is_way of xs)
    ∙ last_five of (left of xs)
