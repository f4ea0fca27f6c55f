-- What is left of the interfaces that share a link: the first of them, and those behind it.
use Rattle.std.proofs.Common.{refl, ◌≡◌, ap, sym, ◌∙◌, ℕ, ◌==◌, Bool, true, false, not, cond, ◌&&◌, ◌||◌, List, [], ◌∷◌, filter, Option, Some, None}
use Rattle.std.specs.List.{list_any, find, fold}
use Rattle.std.specs.Option.{option_map_or}
use Rattle.rc_base.specs.declared.position.IfId.{IfId}
use Rattle.rc_base.specs.Prefix.{Cidr, same_prefix}
use Rattle.rc_base.proofs.KeepLaws.{filter_twice}
use Rattle.rc_topology.specs.Left.{is_next, is_left, left_of, with_prefix}
use Rattle.rc_topology.specs.Links.{all_ids, is_cut, link_prefixes_at, linked, on_prefix, port_at, port_is, share_subnet}
use Rattle.rc_topology.specs.Order.{earlier, is_behind}
use Rattle.rc_topology.specs.Ports.{is_loopback, is_on, link_prefixes, share_prefix, some_is_in}
use Rattle.rc_topology.specs.Topology.{Topology}
use Rattle.rc_topology.specs.declared.port.Port.{Port}
use Rattle.rc_topology.proofs.ListLaws.{any_never, filter_each, filter_none, find_each, find_filter, find_never, found_passes}
use Rattle.rc_topology.proofs.OrderLaws.{behind_trans, first_of_two, first_then}
use Rattle.rc_topology.proofs.InterfaceLaws.{ids_in_order}

joined : (a b n c : Bool) → (a || (b && n)) || (n && c) ≡ a || (n && (b || c))
joined true b n c = refl
joined false true true c = refl
joined false false true c = refl
joined false true false c = refl
joined false false false c = refl

or_none : (a n : Bool) → a || (n && false) ≡ a
or_none true n = refl
or_none false true = refl
or_none false false = refl

module _ (links : Topology) (router : ℕ) (last : Option IfId) where
  abbrev Left : List Cidr → IfId → Bool
  Left prefixes = is_left links router prefixes last

  none_on : (a n : Bool) (o : Option Port) → a || (n && option_map_or (λ _. false) o false) ≡ a
  none_on a n None = or_none a n
  none_on a n (Some q) = or_none a n

  one_on : (a n : Bool) (s t : Port → Bool) (o : Option Port)
      → (a || (option_map_or s o false && n)) || (n && option_map_or t o false) ≡ a || (n && option_map_or (λ q. s q || t q) o false)
  one_on a n s t None = joined a false n false
  one_on a n s t (Some q) = joined a (s q) n (t q)

  first_on : (prefixes : List Cidr) (found : Option IfId) (seen : IfId → Bool) → found ≡ find seen (all_ids links)
      → fold (with_prefix links router last) found prefixes ≡ find (λ j. seen j || Left prefixes j) (all_ids links)
  first_on [] found seen e = e ∙ sym (find_each (λ j. seen j || Left [] j) seen (λ j. none_on (seen j) (is_next router last j) (port_at links j)) (all_ids links))
  first_on (x ∷ xs) found seen e =
      first_on xs (with_prefix links router last found x) now
      (ap (λ o. earlier o (find (is_next router last) (on_prefix links x))) e
      ∙ ap (λ o. earlier (find seen (all_ids links)) o) (find_filter (port_is links (is_on x)) (is_next router last) (all_ids links))
      ∙ sym (first_of_two seen (λ j. port_is links (is_on x) j && is_next router last j) (all_ids links) (ids_in_order links)))
      ∙ find_each (λ j. now j || Left xs j) (λ j. seen j || Left (x ∷ xs) j) (λ j. one_on (seen j) (is_next router last j) (is_on x) (λ q. list_any (λ y. is_on y q) xs) (port_at links j)) (all_ids links)
    where
      now : IfId → Bool
      now j = seen j || (port_is links (is_on x) j && is_next router last j)

  -- the first of all that are left, prefix by prefix
  pub first_of_prefixes : (prefixes : List Cidr) → fold (with_prefix links router last) None prefixes ≡ find (is_left links router prefixes last) (all_ids links)
  first_of_prefixes prefixes = first_on prefixes None (λ j. false) (sym (find_never (all_ids links)))

  first_part : (a b c : Bool) → (a && b) && c ≡ true → a ≡ true
  first_part true b c e = refl
  first_part false b c e = absurd (cc)

  -- the first one comes first, and the others are left behind it
  pub left_then : (prefixes : List Cidr) (j : IfId) → find (is_left links router prefixes last) (all_ids links) ≡ Some j → left_of links router prefixes last ≡ j ∷ left_of links router prefixes (Some j)
  left_then prefixes j found =
      let passes : Left prefixes j ≡ true = found_passes (Left prefixes) (all_ids links) j found in
      let behind : is_behind last j ≡ true = first_part (is_behind last j) (not (router == j.router)) (on j) passes in
      first_then (Left prefixes) (is_left links router prefixes (Some j)) (all_ids links) j (ids_in_order links) found
      (λ i before. ap (λ b. (b && not (router == i.router)) && on i) (behind_trans last j i behind before) ∙ sym (ap (λ b. (b && not (router == i.router)) && on i) before))
      (λ i apart. ap (λ b. (b && not (router == i.router)) && on i) apart)
    where
      on : IfId → Bool
      on i = port_is links (λ q. list_any (λ x. is_on x q) prefixes) i

  pub left_none : (prefixes : List Cidr) → find (is_left links router prefixes last) (all_ids links) ≡ None → left_of links router prefixes last ≡ []
  left_none prefixes none = filter_none (Left prefixes) (all_ids links) none

-- ---- all that share a subnet, and a link

on_share : (p q : Port) → list_any (λ x. is_on x q) (link_prefixes p) ≡ share_prefix p q
on_share p q = by (is_loopback p) (is_loopback q)
  where
    by : (a b : Bool) → list_any (λ x. not b && list_any (same_prefix x) q.prefixes) (cond a [] p.prefixes) ≡ not a && not b && some_is_in p.prefixes q.prefixes
    by true b = refl
    by false true = any_never p.prefixes
    by false false = refl

-- from the start all that share a subnet are left
pub sharing_left : (links : Topology) (i : IfId) → left_of links i.router (link_prefixes_at links i) None ≡ filter (share_subnet links i) (all_ids links)
sharing_left links i =
    filter_each (is_left links i.router (link_prefixes_at links i) None) (share_subnet links i) (λ j. ap (λ b. not (i.router == j.router) && b) (tests (port_at links i) (port_at links j))) (all_ids links)
  where
    tests : (o o' : Option Port) → option_map_or (λ q. list_any (λ x. is_on x q) (option_map_or link_prefixes o [])) o' false ≡ option_map_or (λ p. option_map_or (share_prefix p) o' false) o false
    tests None None = refl
    tests None (Some q) = refl
    tests (Some p) None = refl
    tests (Some p) (Some q) = on_share p q

-- those of them between which and the interface the network isn't cut share a link with it
pub linked_left : (links : Topology) (i : IfId) → filter (λ j. not (is_cut links i j)) (filter (share_subnet links i) (all_ids links)) ≡ linked links i
linked_left links i = filter_twice (share_subnet links i) (λ j. not (is_cut links i j)) (all_ids links)
