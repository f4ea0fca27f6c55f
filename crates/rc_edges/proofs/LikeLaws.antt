-- What goes on from a position goes on from one that is like it.
use Rattle.std.proofs.Common.{refl, ◌≡◌, ◌≢◌, ap, sym, ◌∙◌, ℕ, ◌==◌, true, false, not, ◌&&◌, cond, List, [], ◌∷◌, Option, Some, None, inl, inr, ◌⊎◌}
use Rattle.std.specs.List.{flat_map}
use Rattle.std.specs.Option.{option_map_or}
use Rattle.std.specs.Str.{bytes_eq}
use Rattle.std.proofs.lemmas.Bool.{and_parts, cases_eq, ne_eqb}
use Rattle.std.proofs.lemmas.Slice.Eq.{bytes_eq-Decides}
use Rattle.rc_base.specs.declared.ending.Kind.{Kind}
use Rattle.rc_base.specs.declared.ending.Kind.TheVariants.{DeniedIn, Accepted, NoRoute, NullRouted, DeniedOut, Unreachable, Exits, Delivered}
use Rattle.rc_base.specs.declared.position.IfId.{IfId}
use Rattle.rc_base.specs.declared.position.Pos.{Pos}
use Rattle.rc_base.specs.declared.position.Pos.TheVariants.{Own, Entering}
use Rattle.rc_config.specs.Interface.{group_of}
use Rattle.rc_config.specs.Members.{interface_at}
use Rattle.rc_config.specs.declared.interface.Direction.TheVariants.{In}
use Rattle.rc_config.specs.declared.interface.Interface.{Interface}
use Rattle.rc_config.specs.declared.network.Network.{Network}
use Rattle.rc_router_sets.specs.Edges.{edge, onto_link, takes, towards, union}
use Rattle.rc_router_sets.specs.Endings.{delivered, denied_out, end, exits, is_none, unreachable}
use Rattle.rc_edges.specs.Likes.{IsLike, group_in, is_like, same_group}
use Rattle.rc_router_sets.specs.Sent.{forwarded, hops_at, leaving, let_in, let_out, passing_at, sent, taken, to_interface, to_router, to_subnets, untaken}
use Rattle.rc_filter.specs.Groups.{access_lists_of}
use Rattle.rc_route.specs.declared.route.Hop.{Hop}
use Rattle.rc_route.specs.declared.route.Hop.TheVariants.{Null, Dev, Via}
use Rattle.rc_sets.specs.AccessLists.{passing_set}
use Rattle.rc_sets.specs.Regions.{hop_set, hops_in}
use Rattle.rc_topology.specs.Links.{are_linked, linked, port_is, takers}
use Rattle.rc_topology.specs.Ports.{is_loopback, is_serial}
use Rattle.rc_trees.specs.Recipes.{given, and, minus, without}
use Rattle.rc_trees.specs.Trees.{always}
use Rattle.rc_moves.specs.Moves.{DataPlane, fib_of}

module _ (plane : DataPlane) (q t : Pos) (like : IsLike plane.network q t) where
  pub forwarded_like : forwarded plane q ≡ forwarded plane t
  unfolding forwarded
  forwarded_like = λ n. minus (like.let_in n) (to_router plane (like.router n))

  sent_like : (x : Hop) → sent plane q x ≡ sent plane t x
  unfolding sent
  sent_like x = λ n. and (forwarded_like n) (hop_set (fib_of plane (like.router n)) x)

  leaving_like : (x : Hop) (i : IfId) → leaving plane q x i ≡ leaving plane t x i
  unfolding leaving
  leaving_like x i = λ n. and (sent_like x n) (like.let_out i n)

  untaken_like : (i : IfId) → untaken plane q i ≡ untaken plane t i
  unfolding untaken
  untaken_like i = λ n. minus (leaving_like (Dev i) i n) (taken plane i)

  pub hops_like : hops_at plane q ≡ hops_at plane t
  hops_like = λ n. hops_in (fib_of plane (like.router n))

  -- ---- edges

  onto_link_like : (to i : IfId) → onto_link plane q to i ≡ onto_link plane t to i
  onto_link_like to i = λ n. and (leaving_like (Dev i) i n) (to_interface plane to) ∷ cond (port_is plane.links is_serial i) (minus (untaken_like i n) (to_subnets plane i) ∷ []) []

  towards_like : (to : IfId) (x : Hop) → towards plane q to x ≡ towards plane t to x
  towards_like to Null = refl
  towards_like to (Dev i) = λ n. cond (port_is plane.links is_loopback i) [] (cond (are_linked plane.links i to) (onto_link_like to i n) [])
  towards_like to (Via g None) = refl
  towards_like to (Via g (Some i)) = λ n. cond (port_is plane.links is_loopback i) [] (cond (takes plane.links i g to) (leaving_like (Via g (Some i)) i n ∷ []) [])

  pub edge_like : (to : Pos) → edge plane q to ≡ edge plane t to
  unfolding edge
  edge_like (Own r) = refl
  edge_like (Entering to) = λ n. union (flat_map (λ x. towards_like to x n) (hops_like n))

  -- ---- endings

  denied_out_like : (x : Hop) → denied_out plane q x ≡ denied_out plane t x
  denied_out_like Null = refl
  denied_out_like (Dev i) = λ n. minus (sent_like (Dev i) n) (like.let_out i n) ∷ []
  denied_out_like (Via g None) = refl
  denied_out_like (Via g (Some i)) = λ n. minus (sent_like (Via g (Some i)) n) (like.let_out i n) ∷ []

  unreachable_like : (x : Hop) → unreachable plane q x ≡ unreachable plane t x
  unreachable_like Null = refl
  unreachable_like (Dev i) = λ n. cond (port_is plane.links is_loopback i) (leaving_like (Dev i) i n ∷ []) []
  unreachable_like (Via g None) = refl
  unreachable_like (Via g (Some i)) = λ n. cond (port_is plane.links is_loopback i) (leaving_like (Via g (Some i)) i n ∷ []) []

  exits_like : (x : Hop) → exits plane q x ≡ exits plane t x
  exits_like Null = refl
  exits_like (Dev i) = λ n. cond (port_is plane.links is_loopback i) [] (cond (port_is plane.links is_serial i && not (is_none (linked plane.links i))) [] (minus (untaken_like i n) (to_subnets plane i) ∷ []))
  exits_like (Via g None) = refl
  exits_like (Via g (Some i)) = λ n. cond (port_is plane.links is_loopback i) [] (cond (is_none (takers plane.links i g)) (leaving_like (Via g (Some i)) i n ∷ []) [])

  delivered_like : (x : Hop) → delivered plane q x ≡ delivered plane t x
  delivered_like Null = refl
  delivered_like (Dev i) = λ n. cond (port_is plane.links is_loopback i) [] (and (untaken_like i n) (to_subnets plane i) ∷ [])
  delivered_like (Via g i) = refl

  pub end_like : (k : Kind) → end plane q k ≡ end plane t k
  unfolding end
  end_like DeniedIn = λ n. minus (given always) (like.let_in n)
  end_like Accepted = λ n. and (like.let_in n) (to_router plane (like.router n))
  end_like NoRoute = λ n. without (hop_set (fib_of plane (like.router n))) (forwarded_like n) (hops_like n)
  end_like NullRouted = sent_like Null
  end_like DeniedOut = λ n. union (flat_map (λ x. denied_out_like x n) (hops_like n))
  end_like Unreachable = λ n. union (flat_map (λ x. unreachable_like x n) (hops_like n))
  end_like Exits = λ n. union (flat_map (λ x. exits_like x n) (hops_like n))
  end_like Delivered = λ n. union (flat_map (λ x. delivered_like x n) (hops_like n))

-- ---- the test

equal_text : (a b : List ℕ) → bytes_eq a b ≡ true → a ≡ b
equal_text a b is = (bytes_eq-Decides a b).0 is

equal_group : (a b : Option (List ℕ)) → same_group a b ≡ true → a ≡ b
equal_group None None is = refl
equal_group None (Some b) is = absurd (let e : false ≡ true = is in cc)
equal_group (Some a) None is = absurd (let e : false ≡ true = is in cc)
equal_group (Some a) (Some b) is = ap Some (equal_text a b is)

equal_number : (m n : ℕ) → (m == n) ≡ true → m ≡ n
equal_number m n is = by (cases_eq m n)
  where
    by : (m ≡ n) ⊎ (m ≢ n) → m ≡ n
    by (inl e) = e
    by (inr other) = absurd (let f = ne_eqb m n other in let g : true ≡ false = sym is ∙ f in cc)

module _ (net : Network) where
  passing_in : (i : IfId) → passing_at net In i ≡ passing_set (access_lists_of net i.router) (group_in net i)
  passing_in i = by (interface_at net i)
    where
      by : (o : Option (List ℕ × Interface)) → option_map_or (λ e. passing_set (access_lists_of net i.router) (group_of e.1 In)) o (given always) ≡ passing_set (access_lists_of net i.router) (option_map_or (λ e. group_of e.1 In) o None)
      by None = refl
      by (Some e) = refl

  pub like : (q t : Pos) → is_like net q t ≡ true → IsLike net q t
  unfolding let_in let_out
  like (Own r) (Own s) is = record { router = equal_number r s is; let_in = refl; let_out = λ i. refl }
  like (Own r) (Entering j) is = absurd (let e : false ≡ true = is in cc)
  like (Entering i) (Own s) is = absurd (let e : false ≡ true = is in cc)
  like (Entering i) (Entering j) is =
      let both = and_parts (i.router == j.router) (same_group (group_in net i) (group_in net j)) is in
      let router = equal_number i.router j.router both.0 in
      let group = equal_group (group_in net i) (group_in net j) both.1 in
      record {
        router = router;
        let_in = passing_in i ∙ (λ n. passing_set (access_lists_of net (router n)) (group n)) ∙ sym (passing_in j);
        let_out = λ k. refl;
      }
