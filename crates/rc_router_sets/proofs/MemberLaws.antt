-- Who shares a link, and who takes an address there.
use Rattle.std.proofs.Common.{refl, ◌≡◌, ap, sym, ◌∙◌, subst, ℕ, zero, suc, ◌+◌, ◌<◌, ◌≤◌, Bool, true, false, not, ◌&&◌, ◌||◌, ◌==◌, cond, List, [], ◌∷◌, ◌++◌, filter, length, Option, Some, None, inl, inr, ◌⊎◌, arith, rules}
use Rattle.std.specs.Bool.{Decides}
use Rattle.std.specs.List.{list_any, flat_map, slice_get, range_with_len}
use Rattle.std.specs.Option.{option_map_or}
use Rattle.std.proofs.lemmas.Bool.{and_parts, and_from, cases_eq}
use Rattle.std.proofs.lemmas.Bool.Decides.{nat_tests}
use Rattle.rc_base.proofs.KeepLaws.{In, any_yes}
use Rattle.rc_base.specs.Positions.{same_interface}
use Rattle.rc_base.specs.declared.position.IfId.{IfId}
use Rattle.rc_topology.specs.Links.{all_ids, are_linked, ids_of, is_cut, linked, takers, port_at, port_is, ports_at, share_subnet}
use Rattle.rc_topology.specs.Ports as ports
use Rattle.rc_topology.specs.Topology.{Topology}
use Rattle.rc_topology.specs.declared.port.Port.{Port}
use Rattle.rc_sets.proofs.LongestLaws.{any-in, same_bool, in-filter, filter-in, map-in}
use Rattle.rc_router_sets.specs.Endings.{is_none}
use Rattle.rc_router_sets.specs.Edges.{takes}

pub same_interface-Decides : (i j : IfId) → Decides (same_interface i j) (i ≡ j)
same_interface-Decides i j = search (rules, nat_tests)

-- a member of a filtered list
any-filter : {A : Type 0} (eq : A → A → Bool) (decides : (x y : A) → Decides (eq x y) (x ≡ y)) (p : A → Bool) (x : A) (xs : List A) → list_any (eq x) (filter p xs) ≡ (list_any (eq x) xs && p x)
any-filter eq decides p x xs = same_bool _ _
    (λ some.
    let one = any_yes (eq x) (filter p xs) some in
    let here = in-filter p one.0 xs one.1 in
    and_from _ _ (any-in (eq x) one.0 xs here.0 one.2) (ap p ((decides x one.0).0 one.2) ∙ here.1))
    (λ both.
    let parts = and_parts _ _ both in
    let one = any_yes (eq x) xs parts.0 in
    any-in (eq x) one.0 (filter p xs) (filter-in p one.0 xs one.1 (ap p (sym ((decides x one.0).0 one.2)) ∙ parts.1)) one.2)

pub none-filter : {A : Type 0} (p : A → Bool) (xs : List A) → is_none (filter p xs) ≡ not (list_any p xs)
none-filter p [] = refl
none-filter p (x ∷ xs) = by (p x) (none-filter p xs)
  where
    by : (b : Bool) → is_none (filter p xs) ≡ not (list_any p xs) → is_none (cond b (x ∷ filter p xs) (filter p xs)) ≡ not (b || list_any p xs)
    by true rest = refl
    by false rest = rest

-- ---- interfaces that are there

pub within_list : {A : Type 0} (xs : List A) (n : ℕ) (x : A) → slice_get xs n ≡ Some x → n < length xs
within_list [] n x found = absurd (let e : None ≡ Some x = found in cc)
within_list (y ∷ ys) zero x found = omega arith
within_list (y ∷ ys) (suc n) x found = let less = within_list ys n x found in omega arith

pub in-range : (k a n : ℕ) → a ≤ k → k < a + n → In k (range_with_len a n)
in-range k a zero low high = absurd (omega arith)
in-range k a (suc n) low high = by (cases_eq a k) (λ above. in-range k (a + 1) n above (omega arith))
  where
    by : (a ≡ k) ⊎ (a ≡ k → ⊥) → (a + 1 ≤ k → In k (range_with_len (a + 1) n)) → In k (range_with_len a (suc n))
    by (inl same) later = inl same
    by (inr other) later = inr (later (above other))
      where
        above : (a ≡ k → ⊥) → a + 1 ≤ k
        above other = omega arith

in-append : {A : Type 0} (x : A) (xs ys : List A) → In x xs ⊎ In x ys → In x (xs ++ ys)
in-append x [] ys (inl here) = absurd here
in-append x [] ys (inr there) = there
in-append x (y ∷ xs) ys (inl (inl same)) = inl same
in-append x (y ∷ xs) ys (inl (inr rest)) = inr (in-append x xs ys (inl rest))
in-append x (y ∷ xs) ys (inr there) = inr (in-append x xs ys (inr there))

pub in-flat_map : {A B : Type 0} (f : A → List B) (x : A) (y : B) (xs : List A) → In x xs → In y (f x) → In y (flat_map f xs)
in-flat_map f x y [] there here = absurd there
in-flat_map f x y (z ∷ xs) (inl same) here = in-append y (f z) (flat_map f xs) (inl (subst (λ u. In y (f u)) (sym same) here))
in-flat_map f x y (z ∷ xs) (inr rest) here = in-append y (f z) (flat_map f xs) (inr (in-flat_map f x y xs rest here))

module _ (links : Topology) where
  pub some_ports : (r : ℕ) (o : Option (List Port)) (n : ℕ) (p : Port) → slice_get (option_map_or (λ (ports : List Port). ports) o []) n ≡ Some p → (ports : List Port) × (o ≡ Some ports)
  some_ports r None n p found = absurd (let e : None ≡ Some p = found in cc)
  some_ports r (Some ports) n p found = (ports, refl)

  -- an interface that is there is among all of them
  there : (i : IfId) (p : Port) → port_at links i ≡ Some p → In i (all_ids links)
  there i p found =
      let router = some_ports i.router (slice_get links.ports i.router) i.index p found in
      let r : i.router < length links.ports = within_list links.ports i.router router.0 router.1 in
      let n : i.index < length (ports_at links i.router) = within_list (ports_at links i.router) i.index p found in
      in-flat_map (ids_of links) i.router i (range_with_len 0 (length links.ports)) (in-range i.router 0 (length links.ports) (omega arith) (omega arith))
      (map-in (λ k. record { router = i.router; index = k }) i.index (range_with_len 0 (length (ports_at links i.router))) (in-range i.index 0 (length (ports_at links i.router)) (omega arith) (omega arith)))

  pub passes_there : (test : Port → Bool) (i : IfId) (o : Option Port) → option_map_or test o false ≡ true → (p : Port) × (o ≡ Some p)
  passes_there test i None passes = absurd (let e : false ≡ true = passes in cc)
  passes_there test i (Some p) passes = (p, refl)

  known : (test : Port → Bool) (i : IfId) → port_is links test i ≡ true → list_any (same_interface i) (all_ids links) ≡ true
  known test i passes =
      let found = passes_there test i (port_at links i) passes in
      any-in (same_interface i) i (all_ids links) (there i found.0 found.1) ((same_interface-Decides i i).1 refl)

  linked_known : (i j : IfId) (o : Option Port) → not (i.router == j.router) && option_map_or (λ p. port_is links (ports.share_prefix p) j) o false ≡ true → list_any (same_interface j) (all_ids links) ≡ true
  linked_known i j None linked = absurd (let e : false ≡ true = (and_parts (not (i.router == j.router)) false linked).1 in cc)
  linked_known i j (Some p) linked = known (ports.share_prefix p) j (and_parts (not (i.router == j.router)) (port_is links (ports.share_prefix p) j) linked).1

  and_true : (a b : Bool) → (b ≡ true → a ≡ true) → (a && b) ≡ b
  and_true true b f = refl
  and_true false true f = f refl
  and_true false false f = refl

  -- an interface stands among those that share a link with another where it shares one
  pub member-linked : (i t : IfId) → list_any (same_interface t) (linked links i) ≡ are_linked links i t
  member-linked i t =
      any-filter same_interface same_interface-Decides (are_linked links i) t (all_ids links)
      ∙ and_true (list_any (same_interface t) (all_ids links)) (are_linked links i t) (λ linked. linked_known i t (port_at links i) (and_parts (share_subnet links i t) (not (is_cut links i t)) linked).0)

  -- and among the takers of an address where it takes it
  pub member-takers : (i : IfId) (a : ℕ) (t : IfId) → list_any (same_interface t) (takers links i a) ≡ takes links i a t
  member-takers i a t =
      any-filter same_interface same_interface-Decides (port_is links (ports.owns a)) t (linked links i)
      ∙ ap (λ b. b && port_is links (ports.owns a) t) (member-linked i t)

  -- who takes an address is one who owns it on a link
  pub taker_owns : (i : IfId) (a : ℕ) (t : IfId) → takes links i a t ≡ true → list_any (port_is links (ports.owns a)) (linked links i) ≡ true
  taker_owns i a t taken =
      let parts = and_parts _ _ taken in
      let one = any_yes (same_interface t) (linked links i) (member-linked i t ∙ parts.0) in
      any-in (port_is links (ports.owns a)) one.0 (linked links i) one.1 (ap (port_is links (ports.owns a)) (sym ((same_interface-Decides t one.0).0 one.2)) ∙ parts.1)
