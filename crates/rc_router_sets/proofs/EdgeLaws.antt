-- The edge from one position to another holds the headers that move so.
use Rattle.std.proofs.Common.{refl, ◌≡◌, ap, sym, ◌∙◌, ℕ, Bool, true, false, not, ◌&&◌, ◌||◌, cond, List, [], ◌∷◌, Some, None}
use Rattle.std.specs.List.{list_any, flat_map}
use Rattle.rc_base.specs.declared.ending.Kind.TheVariants.{DeniedIn, Accepted, NoRoute}
use Rattle.rc_base.specs.declared.header.Header.{Header}
use Rattle.rc_base.specs.declared.position.IfId.{IfId}
use Rattle.rc_base.specs.declared.position.Pos.{Pos}
use Rattle.rc_base.specs.declared.position.Pos.TheVariants.{Own, Entering}
use Rattle.rc_route.specs.declared.route.Hop.{Hop}
use Rattle.rc_route.specs.declared.route.Hop.TheVariants.{Null, Dev, Via}
use Rattle.rc_topology.specs.Links as topology
use Rattle.rc_topology.specs.Ports.{is_loopback, is_serial, owns}
use Rattle.rc_moves.specs.Moves.{DataPlane, fib_of, router_of, is_let_in, is_let_out, moves}
use Rattle.rc_moves.specs.declared.walk.Move.{Move}
use Rattle.rc_moves.specs.declared.walk.Move.TheVariants.{Next, End}
use Rattle.rc_trees.specs.Recipes.{Recipe, minus, has}
use Rattle.rc_trees.proofs.RecipeLaws.{has-and, has-minus, has-union_of}
use Rattle.rc_base.specs.Header.{IsHeader}
use Rattle.rc_sets.proofs.RegionLaws.{any-hops}
use Rattle.rc_router_sets.specs.Planes.{IsPlane}
use Rattle.rc_router_sets.proofs.PlaneLaws.{fib_in_order}
use Rattle.rc_router_sets.specs.Sent.{hops_at, leaving, to_interface, to_subnets, untaken}
use Rattle.rc_router_sets.specs.Edges.{union, takes, onto_link, towards, edge}
use Rattle.rc_router_sets.specs.Endings.{is_none}
use Rattle.rc_router_sets.specs.MoveTests.{same_move}
use Rattle.rc_router_sets.proofs.Tests.{same, implies, equal, implied, implies_from, Tests8, all8, try8}
use Rattle.rc_router_sets.proofs.SentLaws.{any-flat_map, is_forwarded, is_hop, has-leaving, has-to_interface, has-to_subnets, has-untaken}
use Rattle.rc_router_sets.proofs.MemberLaws.{member-linked, member-takers, taker_owns, none-filter}
use Rattle.rc_router_sets.proofs.HopMoveLaws.{by_hop, by_hop-none, any-moves, to_gateway, to_host, hops}

-- ---- lists of sets

module _ (h : Header) where
  abbrev pub some : List Recipe → Bool
  some sets = list_any (λ set. has set h) sets

  pub some-choice : (b : Bool) (xs ys : List Recipe) → some (cond b xs ys) ≡ cond b (some xs) (some ys)
  some-choice true xs ys = refl
  some-choice false xs ys = refl

  or_false : (b : Bool) → (b || false) ≡ b
  or_false true = refl
  or_false false = refl

  pub some-one : (set : Recipe) → some (set ∷ []) ≡ has set h
  some-one set = or_false (has set h)

pub and_false : (b : Bool) → (b && false) ≡ false
and_false true = refl
and_false false = refl

any-out : {A : Type 0} (f : Bool) (p : A → Bool) (xs : List A) → list_any (λ x. f && p x) xs ≡ (f && list_any p xs)
any-out true p xs = refl
any-out false p [] = refl
any-out false p (x ∷ xs) = any-out false p xs

and_step : (a b c : Bool) → ((a && b) && c) ≡ (a && (b && c))
and_step true b c = refl
and_step false b c = refl

module _ (plane : DataPlane) (ok : IsPlane plane) (h : Header) (header : IsHeader h) (q : Pos) where
  abbrev pub is_sent : Hop → Bool
  is_sent x = is_forwarded plane ok h header q && is_hop plane ok h header q x

  -- sets that each hop gives, where the test is one of moves that only hops make
  module _ (m : Move → Bool) (none : (m (End Accepted) ≡ false) × (m (End DeniedIn) ≡ false) × (m (End NoRoute) ≡ false)) where
    asked : (let_in own : Bool) (n x : Bool) → cond let_in (cond own false ((n && false) || x)) false ≡ ((let_in && not own) && x)
    asked true true n x = refl
    asked true false n x = ap (λ b. b || x) (and_false n)
    asked false own n x = refl

    pub by_hops-moves : list_any m (moves plane h q) ≡ (is_forwarded plane ok h header q && list_any (by_hop m plane h q) (hops m plane h q))
    by_hops-moves =
        any-moves m plane h q
        ∙ (λ i. cond (is_let_in plane.network h q) (cond (topology.is_own plane.links (router_of q) h.dst) (none.0 i) ((is_none (hops m plane h q) && none.2 i) || list_any (by_hop m plane h q) (hops m plane h q))) (none.1 i))
        ∙ asked (is_let_in plane.network h q) (topology.is_own plane.links (router_of q) h.dst) (is_none (hops m plane h q)) (list_any (by_hop m plane h q) (hops m plane h q))

    pub has-over_hops : (sets : Hop → List Recipe) → ((x : Hop) → some h (sets x) ≡ (is_sent x && by_hop m plane h q x)) → has (union (flat_map sets (hops_at plane q))) h ≡ list_any m (moves plane h q)
    has-over_hops sets each =
        has-union_of (λ set. set) h (flat_map sets (hops_at plane q))
        ∙ any-flat_map (λ set. has set h) sets (hops_at plane q)
        ∙ (λ i. list_any (λ x. (each x ∙ and_step (is_forwarded plane ok h header q) (is_hop plane ok h header q x) (by_hop m plane h q x)) i) (hops_at plane q))
        ∙ any-out (is_forwarded plane ok h header q) (λ x. is_hop plane ok h header q x && by_hop m plane h q x) (hops_at plane q)
        ∙ ap (λ b. is_forwarded plane ok h header q && b) (sym (any-hops (fib_of plane (router_of q)) (fib_in_order plane ok (router_of q)) h.dst (by_hop m plane h q)))
        ∙ sym by_hops-moves

  -- ---- edges

  module _ (t : IfId) where
    abbrev pub to_t : Move → Bool
    to_t = same_move (Next (Entering t))

    -- what is asked at a hop without a gateway: sent, let out, a loopback, linked, owner, serial, taken, held
    abbrev dev_edge : Tests8
    dev_edge a l lo k o s u d =
        implies (implies (k && o) u) (same
        (cond lo false (cond k (((a && l) && o) || cond s ((((a && l) && not u) && not d) || false) false) false))
        (a && cond l (cond lo false ((k && o) || (not u && cond d false (cond s (k || false) false)))) false))

    every_dev : all8 dev_edge ≡ true
    every_dev = refl

    abbrev via_edge : Tests8
    via_edge a l lo k o s u d =
        same (cond lo false (cond (k && o) ((a && l) || false) false)) (a && cond l (cond lo false ((k && o) || false)) false)

    every_via : all8 via_edge ≡ true
    every_via = refl

    module _ (i : IfId) where
      abbrev sends : Bool
      sends = is_sent (Dev i)

      abbrev pub lets_out : Bool
      lets_out = is_let_out plane.network h q i

      abbrev pub loops_back : Bool
      loops_back = topology.port_is plane.links is_loopback i

      abbrev pub is_line : Bool
      is_line = topology.port_is plane.links is_serial i

      abbrev pub shares : Bool
      shares = topology.are_linked plane.links i t

      abbrev pub owns_it : Bool
      owns_it = topology.port_is plane.links (owns h.dst) t

      abbrev pub some_owner : Bool
      some_owner = list_any (topology.port_is plane.links (owns h.dst)) (topology.linked plane.links i)

      abbrev pub is_held : Bool
      is_held = topology.holds plane.links i h.dst

      -- the sets of a hop without a gateway
      dev_sets : some h (towards plane q t (Dev i)) ≡ cond loops_back false (cond shares (((sends && lets_out) && owns_it) || cond is_line ((((sends && lets_out) && not some_owner) && not is_held) || false) false) false)
      dev_sets =
          some-choice h loops_back [] (cond shares (onto_link plane q t i) [])
          ∙ ap (cond loops_back false) (some-choice h shares (onto_link plane q t i) [])
          ∙ (λ n. cond loops_back false (cond shares ((has-and h (leaving plane q (Dev i) i) (to_interface plane t) ∙ (λ k. has-leaving plane ok h header q (Dev i) i k && has-to_interface plane ok h header t k)) n
          || (some-choice h is_line (minus (untaken plane q i) (to_subnets plane i) ∷ []) [] ∙ (λ k. cond is_line ((has-minus h (untaken plane q i) (to_subnets plane i) ∙ (λ j. has-untaken plane ok h header q i j && not (has-to_subnets plane ok h header i j))) k || false) false)) n) false))

      pub dev_host : to_host to_t plane h i ≡ cond loops_back false ((shares && owns_it) || (not some_owner && cond is_held false (cond is_line (shares || false) false)))
      dev_host =
          (λ n. cond loops_back false (member-takers plane.links i h.dst t n || (none-filter (topology.port_is plane.links (owns h.dst)) (topology.linked plane.links i) n
          && cond is_held false (cond is_line (member-linked plane.links i t n || and_false (is_none (topology.linked plane.links i)) n) false))))

      dev_law : some h (towards plane q t (Dev i)) ≡ (is_sent (Dev i) && by_hop to_t plane h q (Dev i))
      dev_law =
          dev_sets
          ∙ equal _ _ (implied _ _ (try8 dev_edge every_dev sends lets_out loops_back shares owns_it is_line some_owner is_held) (implies_from _ _ (taker_owns plane.links i h.dst t)))
          ∙ (λ n. sends && cond lets_out (sym dev_host n) false)

      -- the sets of a hop over an interface with a gateway
      module _ (g : ℕ) where
        abbrev pub owns_gateway : Bool
        owns_gateway = topology.port_is plane.links (owns g) t

        via_sets : some h (towards plane q t (Via g (Some i))) ≡ cond loops_back false (cond (shares && owns_gateway) ((is_sent (Via g (Some i)) && lets_out) || false) false)
        via_sets =
            some-choice h loops_back [] (cond (takes plane.links i g t) (leaving plane q (Via g (Some i)) i ∷ []) [])
            ∙ ap (cond loops_back false) (some-choice h (takes plane.links i g t) (leaving plane q (Via g (Some i)) i ∷ []) [])
            ∙ (λ n. cond loops_back false (cond (shares && owns_gateway) (has-leaving plane ok h header q (Via g (Some i)) i n || false) false))

        pub via_gateway : to_gateway to_t plane h i g ≡ cond loops_back false ((shares && owns_gateway) || false)
        via_gateway = (λ n. cond loops_back false (member-takers plane.links i g t n || and_false (is_none (topology.takers plane.links i g)) n))

        via_law : some h (towards plane q t (Via g (Some i))) ≡ (is_sent (Via g (Some i)) && by_hop to_t plane h q (Via g (Some i)))
        via_law =
            via_sets
            ∙ equal _ _ (try8 via_edge every_via (is_sent (Via g (Some i))) lets_out loops_back shares owns_gateway true true true)
            ∙ (λ n. is_sent (Via g (Some i)) && cond lets_out (sym via_gateway n) false)

    towards_law : (x : Hop) → some h (towards plane q t x) ≡ (is_sent x && by_hop to_t plane h q x)
    towards_law Null = sym (and_false (is_sent Null))
    towards_law (Dev i) = dev_law i
    towards_law (Via g None) = sym (and_false (is_sent (Via g None)))
    towards_law (Via g (Some i)) = via_law i g

  -- no move leads to a router's own position
  pub no_own : (r : ℕ) (xs : List Hop) → list_any (by_hop (same_move (Next (Own r))) plane h q) xs ≡ false
  no_own r [] = refl
  no_own r (x ∷ xs) = λ n. by_hop-none (same_move (Next (Own r))) (λ j. refl) plane h q (refl, refl, refl, refl, refl) x n || no_own r xs n

  -- the edge to a position holds the headers that have a move to it
  pub has-edge : (t : Pos) → has (edge plane q t) h ≡ list_any (same_move (Next t)) (moves plane h q)
  unfolding edge
  has-edge (Own r) =
      let m = same_move (Next (Own r)) in
      sym (by_hops-moves m (refl, refl, refl) ∙ ap (λ b. is_forwarded plane ok h header q && b) (no_own r (hops m plane h q)) ∙ and_false (is_forwarded plane ok h header q))
  has-edge (Entering t) = has-over_hops (to_t t) (refl, refl, refl) (towards plane q t) (towards_law t)
