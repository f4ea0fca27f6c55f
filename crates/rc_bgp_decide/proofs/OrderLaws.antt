-- The tests but the one on the MED are orders, and orders in turn are one order.
use Rattle.std.proofs.Common.{◌≡◌, Bool, true, false, not, ◌&&◌, ◌||◌, List, [], ◌∷◌, refl, ap, sym, ◌∙◌}
use Rattle.std.specs.Cmp.{IsStrictWeakOrder}
use Rattle.std.proofs.lemmas.Bool.{false≢true}
use Rattle.std.proofs.lemmas.List.MinMax.{IsStrictWeakOrder-by_number, IsStrictWeakOrder-flip}
use Rattle.rc_base.specs.Orders.{origin_number}
use Rattle.rc_base.proofs.KeepLaws.{IsWeak}
use Rattle.rc_route.specs.Paths.{path_source_rank}
use Rattle.rc_bgp_decide.specs.declared.standing.Standing.{Standing}
use Rattle.rc_bgp_decide.specs.Decision.{is_originated, is_internal, by_weight, by_local_preference, by_origination, by_path_length, by_origin, by_igp_metric, by_sender_id, by_neighbor, by_source}
use Rattle.rc_bgp_decide.specs.Tests.{in_turn, by_way, last_tests}

abbrev pub Test : Type 0
Test = Standing → Standing → Bool

-- what has it before what hasn't
has_first : (o : Standing → Bool) → IsStrictWeakOrder (λ x y. o x && not (o y))
has_first o = record {
  one_way = λ x y e. one (o x) (o y) e;
  chain = λ x y z e f. two (o x) (o y) (o z) e f;
}
  where
    one : (x y : Bool) → x && not y ≡ true → y && not x ≡ false
    one true true e = absurd (cc)
    one true false e = refl
    one false y e = absurd (cc)

    two : (x y z : Bool) → x && not y ≡ false → y && not z ≡ false → x && not z ≡ false
    two true true true e f = refl
    two true true false e f = absurd (cc)
    two true false z e f = absurd (cc)
    two false y z e f = refl

-- what hasn't it before what has
lacks_first : (o : Standing → Bool) → IsStrictWeakOrder (λ x y. not (o x) && o y)
lacks_first o = record {
  one_way = λ x y e. one (o x) (o y) e;
  chain = λ x y z e f. two (o x) (o y) (o z) e f;
}
  where
    one : (x y : Bool) → not x && y ≡ true → not y && x ≡ false
    one true y e = absurd (cc)
    one false true e = refl
    one false false e = absurd (cc)

    two : (x y z : Bool) → not x && y ≡ false → not y && z ≡ false → not x && z ≡ false
    two true y z e f = refl
    two false true z e f = absurd (cc)
    two false false true e f = absurd (cc)
    two false false false e f = refl

-- whoever beats one of two that an order doesn't tell apart beats the other
weak_from_order : {X : Type 0} (b : X → X → Bool) → IsStrictWeakOrder b → IsWeak b
weak_from_order b o z y x zy yx xy = by_test (b z x) refl
  where
    by_test : (t : Bool) → b z x ≡ t → b z x ≡ true
    by_test true e = e
    by_test false e = absurd (false≢true (sym (o.chain z x y e xy) ∙ zy))

-- two orders in turn
turn_order : {X : Type 0} (b c : X → X → Bool) → IsStrictWeakOrder b → IsStrictWeakOrder c → IsStrictWeakOrder (λ x y. b x y || (not (b y x) && c x y))
turn_order {X} b c p q = record { one_way = one; chain = two }
  where
    one : (x y : X) → b x y || (not (b y x) && c x y) ≡ true → b y x || (not (b x y) && c y x) ≡ false
    one x y e = by_first (b x y) (b y x) (c x y) (c y x) (p.one_way x y) (q.one_way x y) e
      where
        by_first : (bxy byx cxy cyx : Bool) → (bxy ≡ true → byx ≡ false) → (cxy ≡ true → cyx ≡ false) → bxy || (not byx && cxy) ≡ true → byx || (not bxy && cyx) ≡ false
        by_first true byx cxy cyx f g e = ap (λ t. t || false) (f refl)
        by_first false true cxy cyx f g e = absurd (cc)
        by_first false false true cyx f g e = g refl
        by_first false false false cyx f g e = absurd (cc)

    two : (x y z : X) → b x y || (not (b y x) && c x y) ≡ false → b y z || (not (b z y) && c y z) ≡ false → b x z || (not (b z x) && c x z) ≡ false
    two x y z e f =
        by_first (b x y) (b y x) (c x y) (b y z) (b z y) (c y z) (b x z) (b z x) (c x z) (p.chain x y z) (p.chain z x y) (p.chain y z x) (q.chain x y z) e f
      where
        by_first : (bxy byx cxy byz bzy cyz bxz bzx cxz : Bool)
            → (bxy ≡ false → byz ≡ false → bxz ≡ false) → (bzx ≡ false → bxy ≡ false → bzy ≡ false) → (byz ≡ false → bzx ≡ false → byx ≡ false) → (cxy ≡ false → cyz ≡ false → cxz ≡ false)
            → bxy || (not byx && cxy) ≡ false → byz || (not bzy && cyz) ≡ false → bxz || (not bzx && cxz) ≡ false
        by_first true byx cxy byz bzy cyz bxz bzx cxz f g h i e k = absurd (cc)
        by_first false byx cxy true bzy cyz bxz bzx cxz f g h i e k = absurd (cc)
        by_first false byx cxy false bzy cyz bxz true cxz f g h i e k = ap (λ t. t || false) (f refl refl)
        by_first false true cxy false bzy cyz bxz false cxz f g h i e k = absurd (false≢true (sym (h refl refl)))
        by_first false false cxy false true cyz bxz false cxz f g h i e k = absurd (false≢true (sym (g refl refl)))
        by_first false false cxy false false cyz bxz false cxz f g h i e k = ap (λ t. t || cxz) (f refl refl) ∙ i e k

abbrev pub AllOrders : List Test → Type 0
AllOrders [] = Unit {0}
AllOrders (b ∷ bs) = IsStrictWeakOrder b × AllOrders bs

pub in_turn_order : (bs : List Test) → AllOrders bs → IsStrictWeakOrder (in_turn bs)
in_turn_order [] all = record { one_way = λ x y e. refl; chain = λ x y z e f. refl }
in_turn_order (b ∷ bs) all = turn_order b (in_turn bs) all.0 (in_turn_order bs all.1)

pub first_orders : AllOrders (by_weight ∷ by_local_preference ∷ by_origination ∷ by_path_length ∷ by_origin ∷ [])
first_orders = (
  IsStrictWeakOrder-flip _ (IsStrictWeakOrder-by_number (λ (s : Standing). s.weight)),
  (
    IsStrictWeakOrder-flip _ (IsStrictWeakOrder-by_number (λ (s : Standing). s.local_preference)),
    (
      has_first (λ s. is_originated s.source),
      (
        IsStrictWeakOrder-by_number (λ (s : Standing). s.path_length),
        (IsStrictWeakOrder-by_number (λ (s : Standing). origin_number s.origin), tt),
      ),
    ),
  ),
)

pub last_orders : AllOrders (by_way ∷ by_igp_metric ∷ by_sender_id ∷ by_neighbor ∷ by_source ∷ [])
last_orders = (
  lacks_first (λ s. is_internal s.source),
  (
    IsStrictWeakOrder-by_number (λ (s : Standing). s.igp_metric),
    (
      IsStrictWeakOrder-by_number (λ (s : Standing). s.sender_id),
      (
        IsStrictWeakOrder-by_number (λ (s : Standing). s.neighbor),
        (IsStrictWeakOrder-by_number (λ (s : Standing). path_source_rank s.source), tt),
      ),
    ),
  ),
)

-- the tests behind the MED in turn are an order
pub last_is_order : IsStrictWeakOrder last_tests
unfolding last_tests
last_is_order = in_turn_order (by_way ∷ by_igp_metric ∷ by_sender_id ∷ by_neighbor ∷ by_source ∷ []) last_orders

-- an order of standings, as one of what has a standing
pub order_on : {X : Type 0} (of : X → Standing) (b : Test) → IsStrictWeakOrder b → IsStrictWeakOrder (λ x y. b (of x) (of y))
order_on of b o = record { one_way = λ x y. o.one_way (of x) (of y); chain = λ x y z. o.chain (of x) (of y) (of z) }

pub weak_on : {X : Type 0} (of : X → Standing) (b : Test) → IsStrictWeakOrder b → IsWeak (λ (x y : X). b (of x) (of y))
weak_on of b o = weak_from_order _ (order_on of b o)
