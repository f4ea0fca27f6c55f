-- Interfaces in position order, and what stands first among them.
use Rattle.std.proofs.Common.{refl, ◌≡◌, ap, sym, ◌∙◌, ℕ, zero, suc, ◌≤◌, ◌==◌, Bool, true, false, not, cond, ◌&&◌, ◌||◌, List, [], ◌∷◌, ◌++◌, filter, get_or, Option, Some, None, subst, arith}
use Rattle.std.specs.Prelude.{nat_lt, nat_le, slice_get}
use Rattle.std.specs.List.{list_any, find, AllByRecursion}
use Rattle.std.specs.List.Sorted.{IsPartitionedBy}
use Rattle.std.proofs.lemmas.Bool.Decides.{nat_tests}
use Rattle.rc_base.specs.declared.position.IfId.{IfId}
use Rattle.rc_base.proofs.OrderedLaws.{all-weaker}
use Rattle.rc_topology.specs.Order.{is_before, is_behind, earlier, AreInPositionOrder}
use Rattle.rc_topology.proofs.ListLaws.{all_at, all_filter, all_append, filter_agree, find_agree, found_has, none_passes}

-- ---- the order

lex_trans : (a b c x y z : ℕ) → nat_lt a b || (a == b) && nat_lt x y ≡ true → nat_lt b c || (b == c) && nat_lt y z ≡ true → nat_lt a c || (a == c) && nat_lt x z ≡ true
lex_trans a b c x y z h k = grind (arith, nat_tests)

pub before_trans : (i j k : IfId) → is_before i j ≡ true → is_before j k ≡ true → is_before i k ≡ true
before_trans i j k h g = lex_trans i.router j.router k.router i.index j.index k.index h g

lex_apart : (a b x y : ℕ) → nat_lt a b || (a == b) && nat_lt x y ≡ true → nat_lt b a || (b == a) && nat_lt y x ≡ false
lex_apart a b x y h = grind (arith, nat_tests)

pub before_apart : (i j : IfId) → is_before i j ≡ true → is_before j i ≡ false
before_apart i j h = lex_apart i.router j.router i.index j.index h

pub before_itself : (i : IfId) → is_before i i ≡ false
before_itself i = none i.router i.index
  where
    none : (a x : ℕ) → nat_lt a a || (a == a) && nat_lt x x ≡ false
    none a x = grind (arith, nat_tests)

lex_router : (a b x y : ℕ) → nat_lt a b || (a == b) && nat_lt x y ≡ true → a ≤ b
lex_router a b x y h = grind (arith, nat_tests)

-- an interface before another is of no later router
pub router_up : (i j : IfId) → is_before i j ≡ true → i.router ≤ j.router
router_up i j h = lex_router i.router j.router i.index j.index h

pub behind_trans : (last : Option IfId) (i j : IfId) → is_behind last i ≡ true → is_before i j ≡ true → is_behind last j ≡ true
behind_trans None i j h g = refl
behind_trans (Some l) i j h g = before_trans l i j h g

-- ---- lists in order

pub in_order_filter : (p : IfId → Bool) (is : List IfId) → AreInPositionOrder is → AreInPositionOrder (filter p is)
in_order_filter p [] up = tt
in_order_filter p (i ∷ is) up = by (p i) (in_order_filter p is up.1)
  where
    by : (b : Bool) → AreInPositionOrder (filter p is) → AreInPositionOrder (cond b (i ∷ filter p is) (filter p is))
    by true rest = (all_filter (λ j. is_before i j ≡ true) p is up.0, rest)
    by false rest = rest

pub in_order_append : (is js : List IfId) → AreInPositionOrder is → AreInPositionOrder js → AllByRecursion (λ i. AllByRecursion (λ j. is_before i j ≡ true) js) is → AreInPositionOrder (is ++ js)
in_order_append [] js up up' all = up'
in_order_append (i ∷ is) js up up' all = (all_append (λ j. is_before i j ≡ true) is js up.0 all.0, in_order_append is js up.1 up' all.1)

-- a test that what stands before passes too turns once
pub turns_once : (p : IfId → Bool) → ((i j : IfId) → is_before i j ≡ true → p j ≡ true → p i ≡ true) → (is : List IfId) → AreInPositionOrder is → IsPartitionedBy p is
turns_once p down [] up i j d le less passes = absurd (omega arith)
turns_once p down (x ∷ is) up zero zero d le less passes = passes
turns_once p down (x ∷ is) up zero (suc j) d le less passes = down x (get_or is j d) (all_at (λ y. is_before x y ≡ true) is j d up.0 (omega arith)) passes
turns_once p down (x ∷ is) up (suc i) zero d le less passes = absurd (omega arith)
turns_once p down (x ∷ is) up (suc i) (suc j) d le less passes = turns_once p down is up.1 i j d (omega arith) (omega arith) passes

-- ---- the first that passes

-- the first that passes one of two tests is the earlier one of the first of each
pub first_of_two : (p q : IfId → Bool) (is : List IfId) → AreInPositionOrder is → find (λ i. p i || q i) is ≡ earlier (find p is) (find q is)
first_of_two p q [] up = refl
first_of_two p q (i ∷ is) up = by (p i) (q i) (first_of_two p q is up.1)
  where
    Behind : IfId → Type 0
    Behind j = is_before i j ≡ true

    stays : (b : Bool) → Some i ≡ (cond b (Some i) (Some i))
    stays true = refl
    stays false = refl

    -- what is found later stands behind
    left : (o : Option IfId) → find q is ≡ o → Some i ≡ earlier (Some i) o
    left None found = refl
    left (Some j) found = sym (ap (λ b. cond b (Some j) (Some i)) (before_apart i j (found_has Behind q is j up.0 found)))

    right : (o : Option IfId) → find p is ≡ o → Some i ≡ earlier o (Some i)
    right None found = refl
    right (Some j) found = sym (ap (λ b. cond b (Some i) (Some j)) (found_has Behind p is j up.0 found))

    by : (a b : Bool) → find (λ j. p j || q j) is ≡ earlier (find p is) (find q is) → cond (a || b) (Some i) (find (λ j. p j || q j) is) ≡ earlier (cond a (Some i) (find p is)) (cond b (Some i) (find q is))
    by true true rest = stays (is_before i i)
    by true false rest = left (find q is) refl
    by false true rest = right (find p is) refl
    by false false rest = rest

-- the first that passes comes first among those that pass, and the others stand behind it
pub first_then : (p q : IfId → Bool) (is : List IfId) (j : IfId) → AreInPositionOrder is → find p is ≡ Some j
    → ((i : IfId) → is_before j i ≡ true → p i ≡ q i) → ((i : IfId) → is_before j i ≡ false → q i ≡ false) → filter p is ≡ j ∷ filter q is
first_then p q [] j up found same none = absurd (cc)
first_then p q (i ∷ is) j up found same none = by (p i) found (λ there. first_then p q is j up.1 there same none)
  where
    by : (b : Bool) → cond b (Some i) (find p is) ≡ Some j → (find p is ≡ Some j → filter p is ≡ j ∷ filter q is)
        → cond b (i ∷ filter p is) (filter p is) ≡ j ∷ cond (q i) (i ∷ filter q is) (filter q is)
    by true here later =
        let it : i ≡ j = cc in
        let fails : q i ≡ false = none i (ap (λ k. is_before k i) (sym it) ∙ before_itself i) in
        let rest : filter p is ≡ filter q is = filter_agree p q is (all-weaker (λ k. is_before i k ≡ true) (λ k. p k ≡ q k) (λ k behind. same k (ap (λ x. is_before x k) (sym it) ∙ behind)) is up.0) in
        ap (λ ks. i ∷ ks) rest ∙ ap (λ k. k ∷ filter q is) it ∙ sym (ap (λ b. j ∷ cond b (i ∷ filter q is) (filter q is)) fails)
    by false there later =
        let behind : is_before i j ≡ true = found_has (λ k. is_before i k ≡ true) p is j up.0 there in
        later there ∙ sym (ap (λ b. j ∷ cond b (i ∷ filter q is) (filter q is)) (none i (before_apart i j behind)))

-- ---- routers

not_here : (a b : ℕ) → a ≤ b → nat_lt b a ≡ false
not_here a b h = grind (arith, nat_tests)

other : (a b : ℕ) → a ≤ b → not (a == b) ≡ nat_lt a b
other a b h = grind (arith, nat_tests)

itself : (a : ℕ) → (a == a) ≡ true
itself a = grind (arith, nat_tests)

-- behind the last one, where the first there is of a router itself, the next of another router is the first of a later one
pub first_of_later : (last : Option IfId) (router : ℕ) (is : List IfId) (j : IfId) → AreInPositionOrder is → find (is_behind last) is ≡ Some j → router ≡ j.router
    → find (λ i. nat_lt router i.router) is ≡ find (λ i. is_behind last i && not (router == i.router)) is
first_of_later last router [] j up found own = refl
first_of_later last router (i ∷ is) j up found own = by (is_behind last i) refl found (λ there. first_of_later last router is j up.1 there own)
  where
    later : IfId → Bool
    later k = nat_lt router k.router

    next : IfId → Bool
    next k = is_behind last k && not (router == k.router)

    by : (b : Bool) → is_behind last i ≡ b → cond b (Some i) (find (is_behind last) is) ≡ Some j → (find (is_behind last) is ≡ Some j → find later is ≡ find next is)
        → cond (nat_lt router i.router) (Some i) (find later is) ≡ cond (b && not (router == i.router)) (Some i) (find next is)
    by true e here rest =
        let it : i ≡ j = cc in
        let mine : router ≡ i.router = own ∙ ap (λ (k : IfId). k.router) (sym it) in
        let low : nat_lt router i.router ≡ false = not_here i.router router (omega (arith, mine)) in
        let same : not (router == i.router) ≡ false = ap (λ n. not (router == n)) (sym mine) ∙ ap not (itself router) in
        ap (λ b. cond b (Some i) (find later is)) low
        ∙ find_agree later next is (all-weaker (λ k. is_before i k ≡ true) (λ k. later k ≡ next k)
        (λ k behind. sym (ap (λ b. b && not (router == k.router)) (behind_trans last i k e behind) ∙ other router k.router (subst (λ n. n ≤ k.router) (sym mine) (router_up i k behind)))) is up.0)
        ∙ sym (ap (λ b. cond b (Some i) (find next is)) same)
    by false e there rest =
        let behind : is_before i j ≡ true = found_has (λ k. is_before i k ≡ true) (is_behind last) is j up.0 there in
        ap (λ b. cond b (Some i) (find later is)) (not_here i.router router (subst (λ n. i.router ≤ n) (sym own) (router_up i j behind))) ∙ rest there

-- whether the first that is found is of a router
abbrev pub is_of : ℕ → Option IfId → Bool
is_of router None = false
is_of router (Some j) = j.router == router

-- some interface is of a router exactly where the first that is of no earlier one is
pub some_of_router : (router : ℕ) (is : List IfId) → AreInPositionOrder is → list_any (λ i. i.router == router) is ≡ is_of router (find (λ i. not (nat_lt i.router router)) is)
some_of_router router [] up = refl
some_of_router router (i ∷ is) up = by (nat_lt i.router router) refl (some_of_router router is up.1)
  where
    below : (a b : ℕ) → nat_lt a b ≡ true → (a == b) ≡ false
    below a b h = grind (arith, nat_tests)

    above : (a b c : ℕ) → nat_lt a b ≡ false → (a == b) ≡ false → a ≤ c → (c == b) ≡ false
    above a b c h g k = grind (arith, nat_tests)

    none : nat_lt i.router router ≡ false → (b : Bool) → (i.router == router) ≡ b → b || list_any (λ j. j.router == router) is ≡ b
    none low true own = refl
    none low false own = none_later
      where
        none_later : list_any (λ j. j.router == router) is ≡ false
        none_later = none_passes (λ j. j.router == router) is (all-weaker (λ k. is_before i k ≡ true) (λ k. (k.router == router) ≡ false) (λ k behind. above i.router router k.router low own (router_up i k behind)) is up.0)

    by : (b : Bool) → nat_lt i.router router ≡ b → list_any (λ j. j.router == router) is ≡ is_of router (find (λ j. not (nat_lt j.router router)) is)
        → (i.router == router) || list_any (λ j. j.router == router) is ≡ is_of router (cond (not b) (Some i) (find (λ j. not (nat_lt j.router router)) is))
    by true low rest = ap (λ b. b || list_any (λ j. j.router == router) is) (below i.router router low) ∙ rest
    by false low rest = none low (i.router == router) refl

-- ---- tests that turn once

pub not_not : (b : Bool) → b ≡ not (not b)
not_not true = refl
not_not false = refl

pub lt_le : (a b : ℕ) → nat_lt a b ≡ not (nat_le b a)
lt_le a b = grind (arith, nat_tests)

-- what stands before one that isn't behind the last isn't behind it either
pub past_down : (last i j : IfId) → is_before i j ≡ true → not (is_before last j) ≡ true → not (is_before last i) ≡ true
past_down last i j before fails = by (is_before last i) refl
  where
    by : (b : Bool) → is_before last i ≡ b → not b ≡ true
    by true is = absurd (let bad : is_before last j ≡ true = before_trans last i j is before in cc)
    by false is = refl

pub below_down : (router : ℕ) (i j : IfId) → is_before i j ≡ true → nat_lt j.router router ≡ true → nat_lt i.router router ≡ true
below_down router i j before low = down i.router j.router (router_up i j before) low
  where
    down : (a b : ℕ) → a ≤ b → nat_lt b router ≡ true → nat_lt a router ≡ true
    down a b h k = grind (arith, nat_tests)

pub upto_down : (router : ℕ) (i j : IfId) → is_before i j ≡ true → nat_le j.router router ≡ true → nat_le i.router router ≡ true
upto_down router i j before low = down i.router j.router (router_up i j before) low
  where
    down : (a b : ℕ) → a ≤ b → nat_le b router ≡ true → nat_le a router ≡ true
    down a b h k = grind (arith, nat_tests)

pub first_of_all : (is : List IfId) → slice_get is 0 ≡ find (is_behind None) is
first_of_all [] = refl
first_of_all (i ∷ is) = refl

pub same_number : (a b : ℕ) → (a == b) ≡ true → a ≡ b
same_number a b h = grind (arith, nat_tests)
