-- All interfaces of a network: they stand in position order, and a router's own ones are those of its list.
use Rattle.std.proofs.Common.{refl, ◌≡◌, ap, sym, ◌∙◌, ℕ, zero, suc, ◌+◌, ◌<◌, ◌≤◌, ◌==◌, Bool, true, false, ◌&&◌, ◌||◌, List, [], ◌∷◌, ◌++◌, length, map, filter, None, arith}
use Rattle.std.specs.Prelude.{nat_lt, slice_get}
use Rattle.std.specs.List.{list_any, flat_map, range_with_len, AllByRecursion}
use Rattle.std.specs.Option.{option_map_or}
use Rattle.std.proofs.lemmas.Bool.Decides.{nat_tests}
use Rattle.rc_base.specs.declared.position.IfId.{IfId}
use Rattle.rc_base.proofs.KeepLaws.{any_filter}
use Rattle.rc_topology.specs.Links.{all_ids, ids_of, is_own, owners, port_is, ports_at}
use Rattle.rc_topology.specs.Order.{is_before, AreInPositionOrder}
use Rattle.rc_topology.specs.Ports.{owns}
use Rattle.rc_topology.specs.Topology.{Topology}
use Rattle.rc_topology.specs.declared.port.Port.{Port}
use Rattle.rc_topology.proofs.ListLaws.{any_append, any_map}
use Rattle.rc_topology.proofs.OrderLaws.{in_order_append, in_order_filter}

lower : (a b x y : ℕ) → a < b → nat_lt a b || (a == b) && nat_lt x y ≡ true
lower a b x y h = grind (arith, nat_tests)

next : (a x y : ℕ) → x < y → nat_lt a a || (a == a) && nat_lt x y ≡ true
next a x y h = grind (arith, nat_tests)

-- ---- one router

own_behind : (r low from n : ℕ) → low < from → AllByRecursion (λ j. is_before (record { router = r; index = low }) j ≡ true) (map (λ k. record { router = r; index = k }) (range_with_len from n))
own_behind r low from zero less = tt
own_behind r low from (suc n) less = (next r low from less, own_behind r low (from + 1) n (omega arith))

own_in_order : (r from n : ℕ) → AreInPositionOrder (map (λ k. record { router = r; index = k }) (range_with_len from n))
own_in_order r from zero = tt
own_in_order r from (suc n) = (own_behind r from (from + 1) n (omega arith), own_in_order r (from + 1) n)

-- ---- all routers

module _ (count : ℕ → ℕ) where
  abbrev own : ℕ → List IfId
  own r = map (λ k. record { router = r; index = k }) (range_with_len 0 (count r))

  own_later : (i : IfId) (r from n : ℕ) → i.router < r → AllByRecursion (λ j. is_before i j ≡ true) (map (λ k. record { router = r; index = k }) (range_with_len from n))
  own_later i r from zero less = tt
  own_later i r from (suc n) less = (lower i.router r i.index from less, own_later i r (from + 1) n less)

  all_later : (i : IfId) (from n : ℕ) → i.router < from → AllByRecursion (λ j. is_before i j ≡ true) (flat_map own (range_with_len from n))
  all_later i from zero less = tt
  all_later i from (suc n) less = joined (own from) (own_later i from 0 (count from) less) (all_later i (from + 1) n (omega arith))
    where
      joined : (is : List IfId) → AllByRecursion (λ j. is_before i j ≡ true) is → AllByRecursion (λ j. is_before i j ≡ true) (flat_map own (range_with_len (from + 1) n)) → AllByRecursion (λ j. is_before i j ≡ true) (is ++ flat_map own (range_with_len (from + 1) n))
      joined [] all rest = rest
      joined (j ∷ js) all rest = (all.0, joined js all.1 rest)

  own_before : (r from n from' n' : ℕ) → r < from' → AllByRecursion (λ i. AllByRecursion (λ j. is_before i j ≡ true) (flat_map own (range_with_len from' n'))) (map (λ k. record { router = r; index = k }) (range_with_len from n))
  own_before r from zero from' n' less = tt
  own_before r from (suc n) from' n' less = (all_later (record { router = r; index = from }) from' n' less, own_before r (from + 1) n from' n' less)

  listed_in_order : (from n : ℕ) → AreInPositionOrder (flat_map own (range_with_len from n))
  listed_in_order from zero = tt
  listed_in_order from (suc n) =
      in_order_append (own from) (flat_map own (range_with_len (from + 1) n)) (own_in_order from 0 (count from)) (listed_in_order (from + 1) n) (own_before from 0 (count from) (from + 1) n (omega arith))

pub ids_in_order : (links : Topology) → AreInPositionOrder (all_ids links)
ids_in_order links = listed_in_order (λ r. length (ports_at links r)) 0 (length links.ports)

-- those that pass a test are in order too
pub some_in_order : (links : Topology) (p : IfId → Bool) → AreInPositionOrder (filter p (all_ids links))
some_in_order links p = in_order_filter p (all_ids links) (ids_in_order links)

-- ---- a router's own addresses

one_more : (a k : ℕ) → a + suc k ≡ (a + 1) + k
one_more a k = omega arith

-- some port of a list passes exactly where the one at some index does
any_index : (t : Port → Bool) (ps qs : List Port) (a : ℕ) → ((k : ℕ) → slice_get ps (a + k) ≡ slice_get qs k) → list_any (λ k. option_map_or t (slice_get ps k) false) (range_with_len a (length qs)) ≡ list_any t qs
any_index t ps [] a same = refl
any_index t ps (q ∷ qs) a same =
    ap (λ o. option_map_or t o false || list_any (λ k. option_map_or t (slice_get ps k) false) (range_with_len (a + 1) (length qs))) (ap (slice_get ps) (plain a) ∙ same 0)
    ∙ ap (λ b. t q || b) (any_index t ps qs (a + 1) (λ k. ap (slice_get ps) (sym (one_more a k)) ∙ same (suc k)))
  where
    plain : (a : ℕ) → a ≡ a + 0
    plain a = omega arith

from_zero : (k : ℕ) → 0 + k ≡ k
from_zero k = omega arith

any_port : (t : Port → Bool) (ps : List Port) → list_any (λ k. option_map_or t (slice_get ps k) false) (range_with_len 0 (length ps)) ≡ list_any t ps
any_port t ps = any_index t ps ps 0 (λ k. ap (slice_get ps) (from_zero k))

any_and : {X : Type 0} (p : X → Bool) (b : Bool) (xs : List X) → list_any (λ x. p x && b) xs ≡ list_any p xs && b
any_and p b [] = refl
any_and p b (x ∷ xs) = ap (λ c. (p x && b) || c) (any_and p b xs) ∙ parted (p x) b (list_any p xs)
  where
    parted : (a b c : Bool) → (a && b) || (c && b) ≡ (a || c) && b
    parted true true c = refl
    parted true false true = refl
    parted true false false = refl
    parted false b c = refl

module _ (links : Topology) (t : Port → Bool) where
  -- the interfaces of one router
  any_of_one : (r s : ℕ) → list_any (λ i. port_is links t i && (i.router == r)) (ids_of links s) ≡ list_any t (ports_at links s) && (s == r)
  any_of_one r s =
      any_map (λ k. record { router = s; index = k }) (λ i. port_is links t i && (i.router == r)) (range_with_len 0 (length (ports_at links s)))
      ∙ any_and (λ k. option_map_or t (slice_get (ports_at links s) k) false) (s == r) (range_with_len 0 (length (ports_at links s)))
      ∙ ap (λ b. b && (s == r)) (any_port t (ports_at links s))

  any_of_all : (r from n : ℕ) → list_any (λ i. port_is links t i && (i.router == r)) (flat_map (ids_of links) (range_with_len from n)) ≡ list_any (λ s. list_any t (ports_at links s) && (s == r)) (range_with_len from n)
  any_of_all r from zero = refl
  any_of_all r from (suc n) =
      any_append (λ i. port_is links t i && (i.router == r)) (ids_of links from) (flat_map (ids_of links) (range_with_len (from + 1) n))
      ∙ ap (λ b. b || list_any (λ i. port_is links t i && (i.router == r)) (flat_map (ids_of links) (range_with_len (from + 1) n))) (any_of_one r from)
      ∙ ap (λ b. (list_any t (ports_at links from) && (from == r)) || b) (any_of_all r (from + 1) n)

and_no : (b : Bool) → b && false ≡ false
and_no true = refl
and_no false = refl

and_yes : (b : Bool) → b && true ≡ b
and_yes true = refl
and_yes false = refl

or_no : (b : Bool) → b || false ≡ b
or_no true = refl
or_no false = refl

apart : (a b : ℕ) → b < a → (a == b) ≡ false
apart a b h = grind (arith, nat_tests)

apart' : (a b : ℕ) → a < b → (a == b) ≡ false
apart' a b h = grind (arith, nat_tests)

itself : (a : ℕ) → (a == a) ≡ true
itself a = grind (arith, nat_tests)

module _ (g : ℕ → Bool) (r : ℕ) where
  at_none : (from n : ℕ) → r < from → list_any (λ s. g s && (s == r)) (range_with_len from n) ≡ false
  at_none from zero less = refl
  at_none from (suc n) less = ap (λ b. (g from && b) || list_any (λ s. g s && (s == r)) (range_with_len (from + 1) n)) (apart from r less) ∙ ap (λ b. b || list_any (λ s. g s && (s == r)) (range_with_len (from + 1) n)) (and_no (g from)) ∙ at_none (from + 1) n (omega arith)

  at_past : (from n : ℕ) → from + n ≤ r → list_any (λ s. g s && (s == r)) (range_with_len from n) ≡ false
  at_past from zero past = refl
  at_past from (suc n) past = ap (λ b. (g from && b) || list_any (λ s. g s && (s == r)) (range_with_len (from + 1) n)) (apart' from r (omega arith)) ∙ ap (λ b. b || list_any (λ s. g s && (s == r)) (range_with_len (from + 1) n)) (and_no (g from)) ∙ at_past (from + 1) n (omega arith)

  at_one : (from n k : ℕ) → from + k ≡ r → k < n → list_any (λ s. g s && (s == r)) (range_with_len from n) ≡ g r
  at_one from zero k is less = absurd (omega arith)
  at_one from (suc n) zero is less =
      let here : from ≡ r = omega arith in
      ap (λ s. (g s && (s == r)) || list_any (λ s. g s && (s == r)) (range_with_len (from + 1) n)) here
      ∙ ap (λ b. (g r && b) || list_any (λ s. g s && (s == r)) (range_with_len (from + 1) n)) (itself r)
      ∙ ap (λ b. b || list_any (λ s. g s && (s == r)) (range_with_len (from + 1) n)) (and_yes (g r))
      ∙ ap (λ b. g r || b) (at_none (from + 1) n (omega arith)) ∙ or_no (g r)
  at_one from (suc n) (suc k) is less =
      ap (λ b. (g from && b) || list_any (λ s. g s && (s == r)) (range_with_len (from + 1) n)) (apart' from r (omega arith))
      ∙ ap (λ b. b || list_any (λ s. g s && (s == r)) (range_with_len (from + 1) n)) (and_no (g from)) ∙ at_one (from + 1) n k (omega arith) (omega arith)

no_such : (links : Topology) (r : ℕ) → length links.ports ≤ r → ports_at links r ≡ []
no_such links r past = ap (λ o. option_map_or (λ ports. ports) o []) (beyond links.ports r past)
  where
    beyond : (xs : List (List Port)) (k : ℕ) → length xs ≤ k → slice_get xs k ≡ None
    beyond [] k past = refl
    beyond (x ∷ xs) zero past = absurd (omega arith)
    beyond (x ∷ xs) (suc k) past = beyond xs k (omega arith)

module _ (links : Topology) (r a : ℕ) where
  here_or_past : nat_lt r (length links.ports) ≡ true → list_any (λ s. list_any (owns a) (ports_at links s) && (s == r)) (range_with_len 0 (length links.ports)) ≡ is_own links r a
  here_or_past less = at_one (λ s. list_any (owns a) (ports_at links s)) r 0 (length links.ports) r (from_zero r) (below r (length links.ports) less)
    where
      below : (m n : ℕ) → nat_lt m n ≡ true → m < n
      below m n h = grind (arith, nat_tests)

  past_all : nat_lt r (length links.ports) ≡ false → list_any (λ s. list_any (owns a) (ports_at links s) && (s == r)) (range_with_len 0 (length links.ports)) ≡ is_own links r a
  past_all least =
      at_past (λ s. list_any (owns a) (ports_at links s)) r 0 (length links.ports) (above r (length links.ports) least)
      ∙ sym (ap (λ ps. list_any (owns a) ps) (no_such links r (over r (length links.ports) least)))
    where
      above : (m n : ℕ) → nat_lt m n ≡ false → 0 + n ≤ m
      above m n h = grind (arith, nat_tests)

      over : (m n : ℕ) → nat_lt m n ≡ false → n ≤ m
      over m n h = grind (arith, nat_tests)

  -- some owner of an address is of a router exactly where the address is one of its own
  pub some_owner : list_any (λ i. i.router == r) (owners links a) ≡ is_own links r a
  some_owner =
      any_filter (port_is links (owns a)) (λ i. i.router == r) (all_ids links) ∙ any_of_all links (owns a) r 0 (length links.ports) ∙ by (nat_lt r (length links.ports)) refl
    where
      by : (b : Bool) → nat_lt r (length links.ports) ≡ b → list_any (λ s. list_any (owns a) (ports_at links s) && (s == r)) (range_with_len 0 (length links.ports)) ≡ is_own links r a
      by true less = here_or_past less
      by false least = past_all least
