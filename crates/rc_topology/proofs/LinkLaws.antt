-- Laws of links for the crates above: who shares a link with an interface is an interface of the network, and shares it both ways.
use Rattle.std.proofs.Common.{refl, ◌≡◌, ap, sym, ◌∙◌, ℕ, ◌==◌, Bool, true, false, not, cond, ◌&&◌, ◌||◌, List, [], ◌∷◌, filter, inl, inr, Option, Some, None, arith}
use Rattle.std.specs.Option.{option_map_or}
use Rattle.std.proofs.lemmas.Bool.Decides.{nat_tests}
use Rattle.rc_base.specs.declared.position.IfId.{IfId}
use Rattle.rc_base.specs.Positions.{same_interface}
use Rattle.rc_base.proofs.KeepLaws.{filter_twice, In}
use Rattle.rc_config.specs.declared.network.Pair.{Pair}
use Rattle.rc_topology.specs.Links.{all_ids, are_linked, is_between, is_cut, linked, owners, port_at, port_is, share_subnet, takers}
use Rattle.rc_topology.specs.Ports.{is_loopback, owns, share_prefix, some_is_in}
use Rattle.rc_topology.specs.Topology.{Topology}
use Rattle.rc_topology.specs.declared.port.Port.{Port}
use Rattle.rc_topology.proofs.ListLaws.{any_each, filter_each}
use Rattle.rc_topology.proofs.PrefixLaws.{some_is_in_turned}

and_turned : (a b : Bool) → a && b ≡ b && a
and_turned true true = refl
and_turned true false = refl
and_turned false true = refl
and_turned false false = refl

-- the takers of an address are those of its owners that share a link
pub takers_of_owners : (links : Topology) (i : IfId) (a : ℕ) → filter (are_linked links i) (owners links a) ≡ takers links i a
takers_of_owners links i a =
    filter_twice (port_is links (owns a)) (are_linked links i) (all_ids links)
    ∙ filter_each (λ j. port_is links (owns a) j && are_linked links i j) (λ j. are_linked links i j && port_is links (owns a) j) (λ j. and_turned (port_is links (owns a) j) (are_linked links i j)) (all_ids links)
    ∙ sym (filter_twice (are_linked links i) (port_is links (owns a)) (all_ids links))

-- ---- members

in_filter : {X : Type 0} (p : X → Bool) (xs : List X) (x : X) → In x (filter p xs) → In x xs
in_filter p [] x there = there
in_filter p (y ∷ ys) x there = by (p y) there (in_filter p ys x)
  where
    by : (b : Bool) → In x (cond b (y ∷ filter p ys) (filter p ys)) → (In x (filter p ys) → In x ys) → In x (y ∷ ys)
    by true (inl same) later = inl same
    by true (inr rest) later = inr (later rest)
    by false rest later = inr (later rest)

-- whoever shares a link with an interface is an interface of the network
pub linked_in : (links : Topology) (i j : IfId) → In j (linked links i) → In j (all_ids links)
linked_in links i j there = in_filter (are_linked links i) (all_ids links) j there

-- and so is whoever takes an address
pub taker_linked : (links : Topology) (i : IfId) (a : ℕ) (j : IfId) → In j (takers links i a) → In j (linked links i)
taker_linked links i a j there = in_filter (port_is links (owns a)) (linked links i) j there

pub taker_in : (links : Topology) (i : IfId) (a : ℕ) (j : IfId) → In j (takers links i a) → In j (all_ids links)
taker_in links i a j there = linked_in links i j (taker_linked links i a j there)

-- ---- both ways

same_turned : (a b : ℕ) → (a == b) ≡ (b == a)
same_turned a b = grind (arith, nat_tests)

pub share_turned : (p q : Port) → share_prefix p q ≡ share_prefix q p
share_turned p q = ap (λ b. b && some_is_in p.prefixes q.prefixes) (and_turned (not (is_loopback p)) (not (is_loopback q))) ∙ ap (λ b. not (is_loopback q) && not (is_loopback p) && b) (some_is_in_turned q.prefixes p.prefixes)

-- so is a subnet
subnet_both_ways : (links : Topology) (i j : IfId) → share_subnet links i j ≡ share_subnet links j i
subnet_both_ways links i j =
    ap (λ b. not b && option_map_or (λ p. port_is links (share_prefix p) j) (port_at links i) false) (same_turned i.router j.router)
    ∙ ap (λ b. not (j.router == i.router) && b) (ports (port_at links i) (port_at links j))
  where
    ports : (o o' : Option Port) → option_map_or (λ p. option_map_or (share_prefix p) o' false) o false ≡ option_map_or (λ q. option_map_or (share_prefix q) o false) o' false
    ports None None = refl
    ports None (Some q) = refl
    ports (Some p) None = refl
    ports (Some p) (Some q) = share_turned p q

or_turned : (a b : Bool) → a || b ≡ b || a
or_turned true true = refl
or_turned true false = refl
or_turned false true = refl
or_turned false false = refl

between_turned : (i j : IfId) (c : Pair) → is_between i j c ≡ is_between j i c
between_turned i j c =
    or_turned (same_interface i c.first && same_interface j c.second) (same_interface i c.second && same_interface j c.first)
    ∙ ap (λ b. b || (same_interface i c.first && same_interface j c.second)) (and_turned (same_interface i c.second) (same_interface j c.first))
    ∙ ap (λ b. (same_interface j c.first && same_interface i c.second) || b) (and_turned (same_interface i c.first) (same_interface j c.second))

-- a cut is one both ways
cut_both_ways : (links : Topology) (i j : IfId) → is_cut links i j ≡ is_cut links j i
cut_both_ways links i j = any_each (is_between i j) (is_between j i) (between_turned i j) links.cuts

-- a link is shared both ways
pub linked_both_ways : (links : Topology) (i j : IfId) → are_linked links i j ≡ are_linked links j i
linked_both_ways links i j = ap (λ b. b && not (is_cut links i j)) (subnet_both_ways links i j) ∙ ap (λ b. share_subnet links j i && not b) (cut_both_ways links i j)
