-- What a router takes in, keeps and sends, by its sets and by the moves.
use Rattle.std.proofs.Common.{refl, ◌≡◌, ap, sym, ◌∙◌, ℕ, ◌*◌, ◌/◌, ◌≤◌, Bool, true, false, not, ◌&&◌, ◌||◌, ◌==◌, List, [], ◌∷◌, Option, Some, None, arith}
use Rattle.std.specs.List.{list_any, flat_map, AllByRecursion}
use Rattle.std.specs.Option.{option_map, option_map_or}
use Rattle.std.proofs.lemmas.List.Folds.{list_any-append}
use Rattle.rc_base.proofs.OrderedLaws.{any-in_order, same_by_prefix_cmp}
use Rattle.rc_base.specs.Prefix.{Cidr, contains, prefix_at, prefix_cmp}
use Rattle.rc_base.specs.Addr.{leading_bits}
use Rattle.rc_base.specs.declared.header.Header.{Header}
use Rattle.rc_base.specs.declared.position.IfId.{IfId}
use Rattle.rc_base.specs.declared.position.Pos.{Pos}
use Rattle.rc_base.specs.declared.position.Pos.TheVariants.{Own, Entering}
use Rattle.rc_config.specs.Down.{prefixes_of}
use Rattle.rc_config.specs.Interface.{group_of}
use Rattle.rc_config.specs.Members.{interface_at, interfaces_of}
use Rattle.rc_config.specs.declared.interface.Direction.{Direction}
use Rattle.rc_config.specs.declared.interface.Direction.TheVariants.{In, Out}
use Rattle.rc_config.specs.declared.interface.Interface.{Interface}
use Rattle.rc_filter.specs.Groups.{access_lists_of, passes_at}
use Rattle.rc_filter.specs.Verdict.{passes}
use Rattle.rc_fib.specs.Forwarding.{resolved_hops}
use Rattle.rc_route.specs.Hops.{same_hop}
use Rattle.rc_route.specs.declared.route.Hop.{Hop}
use Rattle.rc_route.specs.declared.route.Hop.TheVariants.{Dev}
use Rattle.rc_topology.specs.Links as topology
use Rattle.rc_topology.specs.Ports.{port_of, owns, holds}
use Rattle.rc_topology.specs.Topology.{Topology}
use Rattle.rc_topology.specs.declared.port.Port.{Port}
use Rattle.rc_topology.specs.declared.port.PortAddr.{PortAddr}
use Rattle.rc_topology.proofs.ListLaws.{any_map}
use Rattle.rc_moves.specs.Moves.{DataPlane, fib_of, router_of, is_let_in, is_let_out}
use Rattle.rc_trees.specs.Trees.{always}
use Rattle.rc_trees.specs.Recipes.{given, has}
use Rattle.rc_trees.proofs.RecipeLaws.{has-and, has-minus, has-union_of}
use Rattle.rc_trees.proofs.FieldLaws.{has-chain}
use Rattle.rc_trees.specs.Fields.{chain, host}
use Rattle.rc_sets.specs.AccessLists.{passing_set}
use Rattle.rc_base.specs.Header.{IsHeader}
use Rattle.rc_base.specs.declared.field.Field.TheVariants.{Dst}
use Rattle.rc_sets.specs.Regions.{hop_set}
use Rattle.rc_sets.proofs.AccessListLaws.{has-passing_set}
use Rattle.rc_sets.proofs.RegionLaws.{has-hop_set}
use Rattle.rc_router_sets.specs.Sent.{passing_at, let_in, let_out, addresses_of, addresses_at, prefixes_at, to_router, to_interface, to_subnets, taken, forwarded, sent, leaving, untaken}
use Rattle.rc_router_sets.specs.Planes.{IsPlane}
use Rattle.rc_router_sets.proofs.PlaneLaws.{IsShort, fib_in_order, port, prefixes_are, short_prefixes}

-- ---- lists

pub any-flat_map : {A B : Type 0} (p : B → Bool) (f : A → List B) (xs : List A) → list_any p (flat_map f xs) ≡ list_any (λ x. list_any p (f x)) xs
any-flat_map p f [] = refl
any-flat_map p f (x ∷ xs) = list_any-append p (f x) (flat_map f xs) ∙ ap (λ b. list_any p (f x) || b) (any-flat_map p f xs)

module _ (plane : DataPlane) (ok : IsPlane plane) (h : Header) (header : IsHeader h) where
  abbrev links : Topology
  links = plane.links

  -- ---- access groups

  pub has-passing_at : (d : Direction) (i : IfId) → has (passing_at plane.network d i) h ≡ passes_at plane.network d h i
  has-passing_at d i = at (interface_at plane.network i)
    where
      at : (o : Option (List ℕ × Interface)) → has (option_map_or (λ e. passing_set (access_lists_of plane.network i.router) (group_of e.1 d)) o (given always)) h
          ≡ option_map_or (λ e. passes (access_lists_of plane.network i.router) (group_of e.1 d) h) o true
      at None = refl
      at (Some e) = has-passing_set h header (access_lists_of plane.network i.router) (group_of e.1 d)

  pub has-let_in : (q : Pos) → has (let_in plane.network q) h ≡ is_let_in plane.network h q
  unfolding let_in
  has-let_in (Own r) = refl
  has-let_in (Entering i) = has-passing_at In i

  pub has-let_out : (q : Pos) (i : IfId) → has (let_out plane.network q i) h ≡ is_let_out plane.network h q i
  unfolding let_out
  has-let_out (Own r) i = refl
  has-let_out (Entering j) i = has-passing_at Out i

  -- ---- destinations

  whole : (a : ℕ) → leading_bits 32 a ≡ a
  whole a = let e : a / 1 ≡ a = omega arith in e

  host_network : (a : ℕ) → (prefix_at a 32).network ≡ a
  host_network a = ap (λ n. n * 1) (whole a) ∙ (let e : a * 1 ≡ a = omega arith in e)

  has-host : (a : ℕ) → has (host a) h ≡ (h.dst == a)
  has-host a = has-chain h (header Dst) (prefix_at a 32) (let e : 32 ≤ 32 = omega arith in e) ∙ (λ i. whole h.dst i == (whole (prefix_at a 32).network ∙ host_network a) i)

  has-hosts : (xs : List ℕ) → list_any (λ a. has (host a) h) xs ≡ list_any (λ a. h.dst == a) xs
  has-hosts xs = λ i. list_any (λ a. has-host a i) xs

  owned_by : (p : Port) → list_any (λ a. h.dst == a) (addresses_of p) ≡ owns h.dst p
  owned_by p = any_map (λ (a : PortAddr). a.addr) (λ a. h.dst == a) p.addresses

  pub has-to_router : (r : ℕ) → has (to_router plane r) h ≡ topology.is_own links r h.dst
  unfolding to_router
  has-to_router r =
      has-union_of host h (flat_map addresses_of (topology.ports_at links r))
      ∙ any-flat_map (λ a. has (host a) h) addresses_of (topology.ports_at links r)
      ∙ (λ i. list_any (λ (p : Port). (has-hosts (addresses_of p) ∙ owned_by p) i) (topology.ports_at links r))

  owned : (o : Option Port) → list_any (λ a. h.dst == a) (option_map_or addresses_of o []) ≡ option_map_or (owns h.dst) o false
  owned None = refl
  owned (Some p) = owned_by p

  pub has-to_interface : (i : IfId) → has (to_interface plane i) h ≡ topology.port_is links (owns h.dst) i
  unfolding to_interface
  has-to_interface i = has-union_of host h (addresses_at plane i) ∙ has-hosts (addresses_at plane i) ∙ owned (topology.port_at links i)

  has-chains : (ps : List Cidr) → AllByRecursion IsShort ps → list_any (λ p. has (chain p) h) ps ≡ list_any (λ p. contains p h.dst) ps
  has-chains [] all = refl
  has-chains (p ∷ ps) all = λ i. has-chain h (header Dst) p all.0 i || has-chains ps all.1 i

  held : (i : IfId) (o : Option (List ℕ × Interface)) → list_any (λ p. contains p h.dst) (option_map_or (λ e. prefixes_of (interfaces_of plane.network i.router) e) o [])
      ≡ option_map_or (holds h.dst) (option_map (port_of (interfaces_of plane.network i.router)) o) false
  held i None = refl
  held i (Some e) = sym (any-in_order prefix_cmp same_by_prefix_cmp (λ p. contains p h.dst) (prefixes_of (interfaces_of plane.network i.router) e))

  pub has-to_subnets : (i : IfId) → has (to_subnets plane i) h ≡ topology.holds links i h.dst
  unfolding to_subnets
  has-to_subnets i =
      has-union_of chain h (prefixes_at plane i)
      ∙ has-chains (prefixes_at plane i) (short_prefixes plane ok i)
      ∙ ap (list_any (λ p. contains p h.dst)) (prefixes_are plane ok i)
      ∙ held i (interface_at plane.network i)
      ∙ ap (λ o. option_map_or (holds h.dst) o false) (sym (port plane.network i))
      ∙ ap (λ (l : Topology). topology.holds l i h.dst) (sym ok.links)

  pub has-taken : (i : IfId) → has (taken plane i) h ≡ list_any (topology.port_is links (owns h.dst)) (topology.linked links i)
  unfolding taken
  has-taken i =
      has-union_of (to_interface plane) h (topology.linked links i)
      ∙ ap (λ (p : IfId → Bool). list_any p (topology.linked links i)) (λ n j. has-to_interface j n)

  -- ---- what is sent

  module _ (q : Pos) where
    -- the router takes the header in, and does not keep it
    abbrev pub is_forwarded : Bool
    is_forwarded = is_let_in plane.network h q && not (topology.is_own links (router_of q) h.dst)

    -- the hop is among those of the destination
    abbrev pub is_hop : Hop → Bool
    is_hop x = list_any (same_hop x) (resolved_hops (fib_of plane (router_of q)) h.dst)

    pub has-forwarded : has (forwarded plane q) h ≡ is_forwarded
    unfolding forwarded
    has-forwarded = has-minus h (let_in plane.network q) (to_router plane (router_of q)) ∙ (λ i. has-let_in q i && not (has-to_router (router_of q) i))

    pub has-sent : (x : Hop) → has (sent plane q x) h ≡ (is_forwarded && is_hop x)
    unfolding sent
    has-sent x =
        has-and h (forwarded plane q) (hop_set (fib_of plane (router_of q)) x)
        ∙ (λ i. has-forwarded i && has-hop_set (fib_of plane (router_of q)) (fib_in_order plane ok (router_of q)) h header x i)

    pub has-leaving : (x : Hop) (i : IfId) → has (leaving plane q x i) h ≡ ((is_forwarded && is_hop x) && is_let_out plane.network h q i)
    unfolding leaving
    has-leaving x i = has-and h (sent plane q x) (let_out plane.network q i) ∙ (λ n. has-sent x n && has-let_out q i n)

    pub has-untaken : (i : IfId) → has (untaken plane q i) h ≡ (((is_forwarded && is_hop (Dev i)) && is_let_out plane.network h q i) && not (list_any (topology.port_is links (owns h.dst)) (topology.linked links i)))
    unfolding untaken
    has-untaken i = has-minus h (leaving plane q (Dev i) i) (taken plane i) ∙ (λ n. has-leaving (Dev i) i n && not (has-taken i n))
