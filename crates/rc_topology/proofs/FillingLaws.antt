-- The indexes that are filled one by one hold what the definitions say.
use Rattle.std.proofs.Common.{refl, ◌≡◌, ap, sym, ◌∙◌, ℕ, suc, ◌+◌, ◌*◌, ◌/◌, ◌==◌, Bool, true, false, not, cond, ◌&&◌, List, [], ◌∷◌, length, map, filter, Option, Some, None, arith}
use Rattle.std.specs.Prelude.{slice_get}
use Rattle.std.specs.List.{list_any, flat_map, fold, range_with_len}
use Rattle.std.specs.Option.{option_map_or}
use Rattle.std.specs.Ordering.{is_eq, nat_cmp, ordering_then}
use Rattle.std.specs.declared.cmp.Ordering.TheVariants.{Equal}
use Rattle.std.proofs.lemmas.Bool.Decides.{nat_tests}
use Rattle.std.proofs.lemmas.List.Sums.{fold-append}
use Rattle.rc_base.specs.declared.position.IfId.{IfId}
use Rattle.rc_base.specs.Index as index
use Rattle.rc_base.specs.Index.{Rows, members, index_of}
use Rattle.rc_base.specs.Prefix.{Cidr, same_prefix}
use Rattle.rc_base.proofs.IndexLaws.{distinct_ids, members_of_index}
use Rattle.rc_topology.specs.declared.filling.Indexes.{Indexes}
use Rattle.rc_topology.specs.Topology.{Topology}
use Rattle.rc_topology.specs.declared.port.Port.{Port}
use Rattle.rc_topology.specs.declared.port.PortAddr.{PortAddr}
use Rattle.rc_topology.specs.Filling.{host, hosts, with_ports, with_routers, IsIndexed}
use Rattle.rc_topology.specs.Links.{all_ids, ids_of, port_at, port_is, ports_at}
use Rattle.rc_topology.specs.Ports.{is_loopback, is_on, link_prefixes, owns}
use Rattle.rc_topology.proofs.ListLaws.{any_each, any_map, filter_each}

plain : (a : ℕ) → a ≡ a + 0
plain a = omega arith

one_more : (a k : ℕ) → a + suc k ≡ (a + 1) + k
one_more a k = omega arith

from_zero : (k : ℕ) → 0 + k ≡ k
from_zero k = omega arith

module _ (f : Port → List Cidr) (g : IfId → List Cidr) where
  ports_filled : (r a : ℕ) (rows : Rows) (ps : List Port) → ((k : ℕ) → g (record { router = r; index = a + k }) ≡ option_map_or f (slice_get ps k) [])
      → with_ports f r a rows ps ≡ fold (index.with_interface g) rows (map (λ k. record { router = r; index = k }) (range_with_len a (length ps)))
  ports_filled r a rows [] same = refl
  ports_filled r a rows (p ∷ ps) same =
      ap (λ xs. with_ports f r (a + 1) (fold (λ known x. index.with_member known x (record { router = r; index = a })) rows xs) ps) (sym (ap (λ n. g (record { router = r; index = n })) (plain a) ∙ same 0))
      ∙ ports_filled r (a + 1) (index.with_interface g rows (record { router = r; index = a })) ps (λ k. ap (λ n. g (record { router = r; index = n })) (sym (one_more a k)) ∙ same (suc k))

module _ (links : Topology) (f : Port → List Cidr) where
  -- the prefixes of an interface by its index
  abbrev prefixes_at : IfId → List Cidr
  prefixes_at i = option_map_or f (port_at links i) []

  routers_filled : (r : ℕ) (rows : Rows) (rest : List (List Port)) → ((k : ℕ) → ports_at links (r + k) ≡ option_map_or (λ ports. ports) (slice_get rest k) [])
      → with_routers f r rows rest ≡ fold (index.with_interface prefixes_at) rows (flat_map (ids_of links) (range_with_len r (length rest)))
  routers_filled r rows [] same = refl
  routers_filled r rows (ps ∷ rest) same =
      ap (λ known. with_routers f (r + 1) known rest)
      (ports_filled f prefixes_at r 0 rows ps (λ k. ap (λ qs. option_map_or f (slice_get qs (0 + k)) []) here ∙ ap (λ n. option_map_or f (slice_get ps n) []) (from_zero k))
      ∙ ap (λ qs. fold (index.with_interface prefixes_at) rows (map (λ k. record { router = r; index = k }) (range_with_len 0 (length qs)))) (sym here))
      ∙ routers_filled (r + 1) (fold (index.with_interface prefixes_at) rows (ids_of links r)) rest (λ k. ap (ports_at links) (sym (one_more r k)) ∙ same (suc k))
      ∙ sym (fold-append (index.with_interface prefixes_at) rows (ids_of links r) (flat_map (ids_of links) (range_with_len (r + 1) (length rest))))
    where
      here : ports_at links r ≡ ps
      here = ap (ports_at links) (plain r) ∙ same 0

  filled : with_routers f 0 [] links.ports ≡ index_of prefixes_at (all_ids links)
  filled = routers_filled 0 [] links.ports (λ k. ap (ports_at links) (from_zero k))

  -- under a prefix stand the interfaces whose ports have it
  under : (p : Cidr) → members (with_routers f 0 [] links.ports) p ≡ filter (λ i. list_any (same_prefix p) (prefixes_at i)) (all_ids links)
  under p = ap (λ (rows : Rows). members rows p) filled ∙ members_of_index prefixes_at p (all_ids links) (distinct_ids (λ r. length (ports_at links r)) (length links.ports))

-- ---- prefixes

on_one : (x : Cidr) (p : Port) → list_any (same_prefix x) (link_prefixes p) ≡ is_on x p
on_one x p = by (is_loopback p)
  where
    by : (b : Bool) → list_any (same_prefix x) (cond b [] p.prefixes) ≡ not b && list_any (same_prefix x) p.prefixes
    by true = refl
    by false = refl

on_option : (x : Cidr) (o : Option Port) → list_any (same_prefix x) (option_map_or link_prefixes o []) ≡ option_map_or (is_on x) o false
on_option x None = refl
on_option x (Some p) = on_one x p

-- ---- addresses

host_is : (a : ℕ) → host a ≡ record { network = a; len = 32 }
host_is a = ap (λ n. record { network = n; len = 32 }) (whole a)
  where
    whole : (a : ℕ) → a / 1 * 1 ≡ a
    whole a = grind arith

same_number : (a b : ℕ) → is_eq (ordering_then (nat_cmp a b) (ordering_then (nat_cmp 32 32) Equal)) ≡ (a == b)
same_number a b = grind (arith, nat_tests)

same_host : (a b : ℕ) → same_prefix (host a) (host b) ≡ (a == b)
same_host a b = ap (λ p. same_prefix p (host b)) (host_is a) ∙ ap (λ q. same_prefix (record { network = a; len = 32 }) q) (host_is b) ∙ same_number a b

owns_one : (a : ℕ) (p : Port) → list_any (same_prefix (host a)) (hosts p) ≡ owns a p
owns_one a p =
    any_map (λ (b : PortAddr). host b.addr) (same_prefix (host a)) p.addresses
    ∙ any_each (λ (b : PortAddr). same_prefix (host a) (host b.addr)) (λ (b : PortAddr). a == b.addr) (λ b. same_host a b.addr) p.addresses

owns_option : (a : ℕ) (o : Option Port) → list_any (same_prefix (host a)) (option_map_or hosts o []) ≡ option_map_or (owns a) o false
owns_option a None = refl
owns_option a (Some p) = owns_one a p

-- the indexes that are filled from the interfaces of all routers
pub filled_indexes : (links : Topology) (x : Indexes) → x.by_prefix ≡ with_routers link_prefixes 0 [] links.ports → x.by_addr ≡ with_routers hosts 0 [] links.ports → IsIndexed links x
filled_indexes links x prefixes addresses = record {
  by_prefix = λ p. ap (λ (rows : Rows). members rows p) prefixes ∙ under links link_prefixes p
      ∙ filter_each (λ i. list_any (same_prefix p) (option_map_or link_prefixes (port_at links i) [])) (port_is links (is_on p)) (λ i. on_option p (port_at links i)) (all_ids links);
  by_addr = λ a. ap (λ (rows : Rows). members rows (host a)) addresses ∙ under links hosts (host a)
      ∙ filter_each (λ i. list_any (same_prefix (host a)) (option_map_or hosts (port_at links i) [])) (port_is links (owns a)) (λ i. owns_option a (port_at links i)) (all_ids links);
}
