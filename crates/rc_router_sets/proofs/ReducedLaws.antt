-- The sets of positions are made of reduced trees.
use Rattle.std.proofs.Common.{ℕ, zero, suc, Bool, true, false, not, ◌&&◌, cond, List, [], ◌∷◌, ◌++◌, map, length, Option, Some, None}
use Rattle.std.specs.List.{flat_map, fold, AllByRecursion}
use Rattle.std.specs.Option.{option_map_or}
use Rattle.rc_base.specs.Positions.{same_position}
use Rattle.rc_base.specs.Prefix.{Cidr}
use Rattle.rc_base.specs.declared.ending.Ends.{Ends}
use Rattle.rc_base.specs.declared.ending.Kind.{Kind}
use Rattle.rc_base.specs.declared.ending.Kind.TheVariants.{DeniedIn, Accepted, NoRoute, NullRouted, DeniedOut, Unreachable, Exits, Delivered}
use Rattle.rc_base.specs.declared.position.IfId.{IfId}
use Rattle.rc_base.specs.declared.position.Pos.{Pos}
use Rattle.rc_base.specs.declared.position.Pos.TheVariants.{Own, Entering}
use Rattle.rc_config.specs.Interface.{group_of}
use Rattle.rc_config.specs.Members.{interface_at, positions}
use Rattle.rc_config.specs.declared.interface.Direction.{Direction}
use Rattle.rc_config.specs.declared.interface.Direction.TheVariants.{In, Out}
use Rattle.rc_config.specs.declared.interface.Interface.{Interface}
use Rattle.rc_filter.specs.Groups.{access_lists_of}
use Rattle.rc_route.specs.declared.route.Hop.{Hop}
use Rattle.rc_route.specs.declared.route.Hop.TheVariants.{Null, Dev, Via}
use Rattle.rc_topology.specs.Links.{are_linked, linked, port_is, ports_at, takers}
use Rattle.rc_topology.specs.Ports.{is_loopback, is_serial}
use Rattle.rc_moves.specs.Moves.{DataPlane, fib_of, router_of}
use Rattle.rc_trees.specs.Trees.{never, always, IsReduced}
use Rattle.rc_trees.specs.Recipes.{Recipe, given, and, or, minus, tree, IsOfReduced}
use Rattle.rc_trees.proofs.RecipeLaws.{reduced-tree, every, of_reduced-union_of, of_reduced-without}
use Rattle.rc_trees.specs.Fields.{chain, host}
use Rattle.rc_sets.specs.AccessLists.{passing_set}
use Rattle.rc_sets.specs.Regions.{hop_set}
use Rattle.rc_trees.proofs.FieldsReduced.{of_reduced-chain, of_reduced-host}
use Rattle.rc_sets.proofs.AccessListsReduced.{of_reduced-passing_set}
use Rattle.rc_sets.proofs.RegionsReduced.{of_reduced-hop_set}
use Rattle.rc_router_sets.specs.Planes.{IsPlane}
use Rattle.rc_router_sets.proofs.PlaneLaws.{IsShort, fib_in_order, short_prefixes}
use Rattle.rc_router_sets.specs.Sent.{passing_at, let_in, let_out, addresses_of, addresses_at, prefixes_at, to_router, to_interface, to_subnets, taken, forwarded, sent, leaving, untaken, hops_at}
use Rattle.rc_router_sets.specs.Edges.{union, takes, onto_link, towards, edge}
use Rattle.rc_router_sets.specs.Endings.{is_none, denied_out, unreachable, exits, delivered, end}
use Rattle.rc_router_sets.specs.Query.{kinds_of, reached, reaching}

-- ---- lists of sets

abbrev Each : List Recipe → Type 0
Each sets = AllByRecursion IsOfReduced sets

each-choice : (b : Bool) (xs ys : List Recipe) → Each xs → Each ys → Each (cond b xs ys)
each-choice true xs ys one two = one
each-choice false xs ys one two = two

each-append : (xs ys : List Recipe) → Each xs → Each ys → Each (xs ++ ys)
each-append [] ys one two = two
each-append (x ∷ xs) ys one two = (one.0, each-append xs ys one.1 two)

each-flat_map : {A : Type 0} (f : A → List Recipe) → ((x : A) → Each (f x)) → (xs : List A) → Each (flat_map f xs)
each-flat_map f each [] = tt
each-flat_map f each (x ∷ xs) = each-append (f x) (flat_map f xs) (each x) (each-flat_map f each xs)

each-map : {A : Type 0} (f : A → Recipe) → ((x : A) → IsOfReduced (f x)) → (xs : List A) → Each (map f xs)
each-map f each [] = tt
each-map f each (x ∷ xs) = (each x, each-map f each xs)

of_union : (sets : List Recipe) → Each sets → IsOfReduced (union sets)
of_union sets all = of_reduced-union_of (λ set. set) sets all

module _ (plane : DataPlane) (ok : IsPlane plane) where
  of_passing_at : (d : Direction) (i : IfId) → IsOfReduced (passing_at plane.network d i)
  of_passing_at d i = by (interface_at plane.network i)
    where
      by : (o : Option (List ℕ × Interface)) → IsOfReduced (option_map_or (λ e. passing_set (access_lists_of plane.network i.router) (group_of e.1 d)) o (given always))
      by None = tt
      by (Some e) = of_reduced-passing_set (access_lists_of plane.network i.router) (group_of e.1 d)

  of_let_in : (q : Pos) → IsOfReduced (let_in plane.network q)
  unfolding let_in
  of_let_in (Own r) = tt
  of_let_in (Entering i) = of_passing_at In i

  of_let_out : (q : Pos) (i : IfId) → IsOfReduced (let_out plane.network q i)
  unfolding let_out
  of_let_out (Own r) i = tt
  of_let_out (Entering j) i = of_passing_at Out i

  of_to_router : (r : ℕ) → IsOfReduced (to_router plane r)
  unfolding to_router
  of_to_router r = of_reduced-union_of host (flat_map addresses_of (ports_at plane.links r)) (every host of_reduced-host (flat_map addresses_of (ports_at plane.links r)))

  of_to_interface : (i : IfId) → IsOfReduced (to_interface plane i)
  unfolding to_interface
  of_to_interface i = of_reduced-union_of host (addresses_at plane i) (every host of_reduced-host (addresses_at plane i))

  chains : (ps : List Cidr) → AllByRecursion IsShort ps → AllByRecursion (λ p. IsOfReduced (chain p)) ps
  chains [] all = tt
  chains (p ∷ ps) all = (of_reduced-chain p all.0, chains ps all.1)

  of_to_subnets : (i : IfId) → IsOfReduced (to_subnets plane i)
  unfolding to_subnets
  of_to_subnets i = of_reduced-union_of chain (prefixes_at plane i) (chains (prefixes_at plane i) (short_prefixes plane ok i))

  of_taken : (i : IfId) → IsOfReduced (taken plane i)
  unfolding taken
  of_taken i = of_reduced-union_of (to_interface plane) (linked plane.links i) (every (to_interface plane) of_to_interface (linked plane.links i))

  module _ (q : Pos) where
    of_hop_set : (x : Hop) → IsOfReduced (hop_set (fib_of plane (router_of q)) x)
    of_hop_set x = of_reduced-hop_set (fib_of plane (router_of q)) (fib_in_order plane ok (router_of q)) x

    of_forwarded : IsOfReduced (forwarded plane q)
    unfolding forwarded
    of_forwarded = (of_let_in q, of_to_router (router_of q))

    of_sent : (x : Hop) → IsOfReduced (sent plane q x)
    unfolding sent
    of_sent x = (of_forwarded, of_hop_set x)

    of_leaving : (x : Hop) (i : IfId) → IsOfReduced (leaving plane q x i)
    unfolding leaving
    of_leaving x i = (of_sent x, of_let_out q i)

    of_untaken : (i : IfId) → IsOfReduced (untaken plane q i)
    unfolding untaken
    of_untaken i = (of_leaving (Dev i) i, of_taken i)

    -- ---- edges

    of_onto_link : (t i : IfId) → Each (onto_link plane q t i)
    of_onto_link t i =
        ((of_leaving (Dev i) i, of_to_interface t), each-choice (port_is plane.links is_serial i) (minus (untaken plane q i) (to_subnets plane i) ∷ []) [] ((of_untaken i, of_to_subnets i), tt) tt)

    of_towards : (t : IfId) (x : Hop) → Each (towards plane q t x)
    of_towards t Null = tt
    of_towards t (Dev i) =
        each-choice (port_is plane.links is_loopback i) [] (cond (are_linked plane.links i t) (onto_link plane q t i) []) tt
        (each-choice (are_linked plane.links i t) (onto_link plane q t i) [] (of_onto_link t i) tt)
    of_towards t (Via g None) = tt
    of_towards t (Via g (Some i)) =
        each-choice (port_is plane.links is_loopback i) [] (cond (takes plane.links i g t) (leaving plane q (Via g (Some i)) i ∷ []) []) tt
        (each-choice (takes plane.links i g t) (leaving plane q (Via g (Some i)) i ∷ []) [] (of_leaving (Via g (Some i)) i, tt) tt)

    pub of_reduced-edge : (t : Pos) → IsOfReduced (edge plane q t)
    unfolding edge
    of_reduced-edge (Own r) = tt
    of_reduced-edge (Entering t) = of_union (flat_map (towards plane q t) (hops_at plane q)) (each-flat_map (towards plane q t) (of_towards t) (hops_at plane q))

    -- ---- endings

    of_denied_out : (x : Hop) → Each (denied_out plane q x)
    of_denied_out Null = tt
    of_denied_out (Dev i) = ((of_sent (Dev i), of_let_out q i), tt)
    of_denied_out (Via g None) = tt
    of_denied_out (Via g (Some i)) = ((of_sent (Via g (Some i)), of_let_out q i), tt)

    of_unreachable : (x : Hop) → Each (unreachable plane q x)
    of_unreachable Null = tt
    of_unreachable (Dev i) = each-choice (port_is plane.links is_loopback i) (leaving plane q (Dev i) i ∷ []) [] (of_leaving (Dev i) i, tt) tt
    of_unreachable (Via g None) = tt
    of_unreachable (Via g (Some i)) = each-choice (port_is plane.links is_loopback i) (leaving plane q (Via g (Some i)) i ∷ []) [] (of_leaving (Via g (Some i)) i, tt) tt

    of_exits : (x : Hop) → Each (exits plane q x)
    of_exits Null = tt
    of_exits (Dev i) =
        each-choice (port_is plane.links is_loopback i) [] (cond (port_is plane.links is_serial i && not (is_none (linked plane.links i))) [] (minus (untaken plane q i) (to_subnets plane i) ∷ [])) tt
        (each-choice (port_is plane.links is_serial i && not (is_none (linked plane.links i))) [] (minus (untaken plane q i) (to_subnets plane i) ∷ []) tt ((of_untaken i, of_to_subnets i), tt))
    of_exits (Via g None) = tt
    of_exits (Via g (Some i)) =
        each-choice (port_is plane.links is_loopback i) [] (cond (is_none (takers plane.links i g)) (leaving plane q (Via g (Some i)) i ∷ []) []) tt
        (each-choice (is_none (takers plane.links i g)) (leaving plane q (Via g (Some i)) i ∷ []) [] (of_leaving (Via g (Some i)) i, tt) tt)

    of_delivered : (x : Hop) → Each (delivered plane q x)
    of_delivered Null = tt
    of_delivered (Dev i) = each-choice (port_is plane.links is_loopback i) [] (and (untaken plane q i) (to_subnets plane i) ∷ []) tt ((of_untaken i, of_to_subnets i), tt)
    of_delivered (Via g i) = tt

    over_hops : (sets : Hop → List Recipe) → ((x : Hop) → Each (sets x)) → IsOfReduced (union (flat_map sets (hops_at plane q)))
    over_hops sets each = of_union (flat_map sets (hops_at plane q)) (each-flat_map sets each (hops_at plane q))

    pub of_reduced-end : (k : Kind) → IsOfReduced (end plane q k)
    unfolding end
    of_reduced-end DeniedIn = (tt, of_let_in q)
    of_reduced-end Accepted = (of_let_in q, of_to_router (router_of q))
    of_reduced-end NoRoute = of_reduced-without (hop_set (fib_of plane (router_of q))) (forwarded plane q) (hops_at plane q) of_forwarded (every (hop_set (fib_of plane (router_of q))) of_hop_set (hops_at plane q))
    of_reduced-end NullRouted = of_sent Null
    of_reduced-end DeniedOut = over_hops (denied_out plane q) of_denied_out
    of_reduced-end Unreachable = over_hops (unreachable plane q) of_unreachable
    of_reduced-end Exits = over_hops (exits plane q) of_exits
    of_reduced-end Delivered = over_hops (delivered plane q) of_delivered

  -- ---- rounds

  module _ (place : Pos) where
    start : (b : Bool) → IsReduced (cond b always never)
    start true = tt
    start false = tt

    joined_in : (k : ℕ) (q : Pos) → ((p : Pos) → IsOfReduced (reached plane place k p)) → (r : Recipe) (ps : List Pos) → IsOfReduced r → IsOfReduced (fold (λ s p. or s (and (reached plane place k p) (edge plane p q))) r ps)
    joined_in k q each r [] ok = ok
    joined_in k q each r (p ∷ ps) ok = joined_in k q each (or r (and (reached plane place k p) (edge plane p q))) ps (ok, (each p, of_reduced-edge p q))

    pub of_reduced-reached : (k : ℕ) (q : Pos) → IsOfReduced (reached plane place k q)
    unfolding reached
    of_reduced-reached zero q = start (same_position place q)
    of_reduced-reached (suc k) q = joined_in k q (of_reduced-reached k) (reached plane place k q) (positions plane.network) (of_reduced-reached k q)

    -- the answer of a query is a reduced tree
    pub reduced-result : (ends : Ends) → IsReduced (tree (reaching plane place ends))
    unfolding reaching
    reduced-result ends =
        let n = length (positions plane.network) in
        reduced-tree (reaching plane place ends)
        (of_union (flat_map (λ q. map (λ k. and (reached plane place n q) (end plane q k)) (kinds_of ends)) (positions plane.network))
        (each-flat_map (λ q. map (λ k. and (reached plane place n q) (end plane q k)) (kinds_of ends)) (λ q. each-map (λ k. and (reached plane place n q) (end plane q k)) (λ k. (of_reduced-reached n q, of_reduced-end q k)) (kinds_of ends)) (positions plane.network)))
