-- The set of an ending at a position holds the headers that may end so there.
use Rattle.std.proofs.Common.{refl, ◌≡◌, ap, sym, ◌∙◌, Bool, true, false, not, ◌&&◌, ◌||◌, cond, List, [], ◌∷◌, Some, None}
use Rattle.std.specs.List.{list_any}
use Rattle.rc_base.specs.declared.ending.Kind.{Kind}
use Rattle.rc_base.specs.declared.ending.Kind.TheVariants.{DeniedIn, Accepted, NoRoute, NullRouted, DeniedOut, Unreachable, Exits, Delivered}
use Rattle.rc_base.specs.declared.header.Header.{Header}
use Rattle.rc_base.specs.declared.position.IfId.{IfId}
use Rattle.rc_base.specs.declared.position.Pos.{Pos}
use Rattle.rc_route.specs.Hops.{same_hop}
use Rattle.rc_route.specs.declared.route.Hop.{Hop}
use Rattle.rc_route.specs.declared.route.Hop.TheVariants.{Null, Dev, Via}
use Rattle.rc_topology.specs.Links as topology
use Rattle.rc_topology.specs.Ports.{is_loopback, is_serial}
use Rattle.rc_moves.specs.Moves.{DataPlane, fib_of, router_of, is_let_in, is_let_out, moves}
use Rattle.rc_moves.specs.declared.walk.Move.{Move}
use Rattle.rc_moves.specs.declared.walk.Move.TheVariants.{End}
use Rattle.rc_trees.specs.Trees.{always}
use Rattle.rc_trees.specs.Recipes.{Recipe, given, and, minus, has}
use Rattle.rc_trees.proofs.RecipeLaws.{has-and, has-minus, has-without}
use Rattle.rc_base.specs.Header.{IsHeader}
use Rattle.rc_sets.specs.Regions.{hop_set}
use Rattle.rc_sets.proofs.RegionLaws.{any-hops, has-hop_set}
use Rattle.rc_router_sets.specs.Planes.{IsPlane}
use Rattle.rc_router_sets.proofs.PlaneLaws.{fib_in_order}
use Rattle.rc_router_sets.specs.Sent.{forwarded, hops_at, leaving, let_in, let_out, sent, to_router, to_subnets, untaken}
use Rattle.rc_router_sets.specs.Endings.{is_none, denied_out, unreachable, exits, delivered, end}
use Rattle.rc_router_sets.specs.MoveTests.{same_move}
use Rattle.rc_router_sets.proofs.Tests.{same, equal, Tests8, try8}
use Rattle.rc_router_sets.proofs.SentLaws.{is_forwarded, is_hop, has-forwarded, has-leaving, has-let_in, has-let_out, has-sent, has-to_router, has-to_subnets, has-untaken}
use Rattle.rc_router_sets.proofs.HopMoveLaws.{by_hop, by_hop-ends, by_hop-none, ends_by_hop, any-moves, some_owner, hops}
use Rattle.rc_router_sets.proofs.EdgeLaws.{some, some-choice, and_false, is_sent, has-over_hops}

module _ (plane : DataPlane) (ok : IsPlane plane) (h : Header) (header : IsHeader h) (q : Pos) where
  abbrev ends : Kind → Move → Bool
  ends k = same_move (End k)

  abbrev Law : Kind → (Hop → List Recipe) → Hop → Type 0
  Law k sets x = some h (sets x) ≡ (is_sent plane ok h header q x && by_hop (ends k) plane h q x)

  -- what is known of the interface of a hop
  abbrev lets_out : IfId → Bool
  lets_out i = is_let_out plane.network h q i

  abbrev loops_back : IfId → Bool
  loops_back i = topology.port_is plane.links is_loopback i

  abbrev is_line : IfId → Bool
  is_line i = topology.port_is plane.links is_serial i

  abbrev is_held : IfId → Bool
  is_held i = topology.holds plane.links i h.dst

  abbrev alone : IfId → Bool
  alone i = is_none (topology.linked plane.links i)

  abbrev owner : Kind → IfId → Bool
  owner k i = some_owner (ends k) (λ j. refl) plane h q i

  abbrev sends : Hop → Bool
  sends x = is_sent plane ok h header q x

  -- as the moves of the hop say
  by_ends : (k : Kind) (x : Hop) → (sends x && ends_by_hop (ends k) (λ j. refl) plane h q x) ≡ (sends x && by_hop (ends k) plane h q x)
  by_ends k x = ap (λ b. sends x && b) (sym (by_hop-ends (ends k) (λ j. refl) plane h q x))

  nothing : (b : Bool) → false ≡ (b && false)
  nothing b = sym (and_false b)

  -- ---- denied by an outbound list

  abbrev stopped : Tests8
  stopped a l lo u d s n z = same ((a && not l) || false) (a && cond l (cond lo false (not u && cond d false (cond s (n && false) false))) true)

  abbrev stopped_via : Tests8
  stopped_via a l lo n z y w v = same ((a && not l) || false) (a && cond l (cond lo false (n && false)) true)

  has-stopped : (x : Hop) (i : IfId) → has (minus (sent plane q x) (let_out plane.network q i)) h ≡ (sends x && not (lets_out i))
  has-stopped x i = has-minus h (sent plane q x) (let_out plane.network q i) ∙ (λ n. has-sent plane ok h header q x n && not (has-let_out plane ok h header q i n))

  denied_out-law : (x : Hop) → Law DeniedOut (denied_out plane q) x
  denied_out-law Null = nothing (sends Null)
  denied_out-law (Dev i) =
      ap (λ b. b || false) (has-stopped (Dev i) i)
      ∙ equal _ _ (try8 stopped refl (sends (Dev i)) (lets_out i) (loops_back i) (owner DeniedOut i) (is_held i) (is_line i) (alone i) true)
      ∙ by_ends DeniedOut (Dev i)
  denied_out-law (Via g None) = nothing (sends (Via g None))
  denied_out-law (Via g (Some i)) =
      ap (λ b. b || false) (has-stopped (Via g (Some i)) i)
      ∙ equal _ _ (try8 stopped_via refl (sends (Via g (Some i))) (lets_out i) (loops_back i) (is_none (topology.takers plane.links i g)) true true true true)
      ∙ by_ends DeniedOut (Via g (Some i))

  -- ---- onto a loopback

  abbrev lost : Tests8
  lost a l lo u d s n z = same (cond lo ((a && l) || false) false) (a && cond l (cond lo true (not u && cond d false (cond s (n && false) false))) false)

  abbrev lost_via : Tests8
  lost_via a l lo n z y w v = same (cond lo ((a && l) || false) false) (a && cond l (cond lo true (n && false)) false)

  has-lost : (x : Hop) (i : IfId) → some h (cond (loops_back i) (leaving plane q x i ∷ []) []) ≡ cond (loops_back i) ((sends x && lets_out i) || false) false
  has-lost x i = some-choice h (loops_back i) (leaving plane q x i ∷ []) [] ∙ (λ n. cond (loops_back i) (has-leaving plane ok h header q x i n || false) false)

  unreachable-law : (x : Hop) → Law Unreachable (unreachable plane q) x
  unreachable-law Null = nothing (sends Null)
  unreachable-law (Dev i) =
      has-lost (Dev i) i
      ∙ equal _ _ (try8 lost refl (sends (Dev i)) (lets_out i) (loops_back i) (owner Unreachable i) (is_held i) (is_line i) (alone i) true)
      ∙ by_ends Unreachable (Dev i)
  unreachable-law (Via g None) = nothing (sends (Via g None))
  unreachable-law (Via g (Some i)) =
      has-lost (Via g (Some i)) i
      ∙ equal _ _ (try8 lost_via refl (sends (Via g (Some i))) (lets_out i) (loops_back i) (is_none (topology.takers plane.links i g)) true true true true)
      ∙ by_ends Unreachable (Via g (Some i))

  -- ---- out of the network

  abbrev out : Tests8
  out a l lo u d s n z =
      same (cond lo false (cond (s && not n) false ((((a && l) && not u) && not d) || false))) (a && cond l (cond lo false (not u && cond d false (cond s (n && true) true))) false)

  abbrev out_via : Tests8
  out_via a l lo n z y w v = same (cond lo false (cond n ((a && l) || false) false)) (a && cond l (cond lo false (n && true)) false)

  exits-law : (x : Hop) → Law Exits (exits plane q) x
  exits-law Null = nothing (sends Null)
  exits-law (Dev i) =
      some-choice h (loops_back i) [] (cond (is_line i && not (alone i)) [] (minus (untaken plane q i) (to_subnets plane i) ∷ []))
      ∙ ap (cond (loops_back i) false) (some-choice h (is_line i && not (alone i)) [] (minus (untaken plane q i) (to_subnets plane i) ∷ []))
      ∙ (λ n. cond (loops_back i) false (cond (is_line i && not (alone i)) false ((has-minus h (untaken plane q i) (to_subnets plane i) ∙ (λ k. has-untaken plane ok h header q i k && not (has-to_subnets plane ok h header i k))) n || false)))
      ∙ equal _ _ (try8 out refl (sends (Dev i)) (lets_out i) (loops_back i) (owner Exits i) (is_held i) (is_line i) (alone i) true)
      ∙ by_ends Exits (Dev i)
  exits-law (Via g None) = nothing (sends (Via g None))
  exits-law (Via g (Some i)) =
      some-choice h (loops_back i) [] (cond (is_none (topology.takers plane.links i g)) (leaving plane q (Via g (Some i)) i ∷ []) [])
      ∙ ap (cond (loops_back i) false) (some-choice h (is_none (topology.takers plane.links i g)) (leaving plane q (Via g (Some i)) i ∷ []) [])
      ∙ (λ n. cond (loops_back i) false (cond (is_none (topology.takers plane.links i g)) (has-leaving plane ok h header q (Via g (Some i)) i n || false) false))
      ∙ equal _ _ (try8 out_via refl (sends (Via g (Some i))) (lets_out i) (loops_back i) (is_none (topology.takers plane.links i g)) true true true true)
      ∙ by_ends Exits (Via g (Some i))

  -- ---- to a host of a subnet

  abbrev handed : Tests8
  handed a l lo u d s n z =
      same (cond lo false ((((a && l) && not u) && d) || false)) (a && cond l (cond lo false (not u && cond d true (cond s (n && false) false))) false)

  abbrev handed_via : Tests8
  handed_via a l lo n z y w v = same false (a && cond l (cond lo false (n && false)) false)

  delivered-law : (x : Hop) → Law Delivered (delivered plane q) x
  delivered-law Null = nothing (sends Null)
  delivered-law (Dev i) =
      some-choice h (loops_back i) [] (and (untaken plane q i) (to_subnets plane i) ∷ [])
      ∙ (λ n. cond (loops_back i) false ((has-and h (untaken plane q i) (to_subnets plane i) ∙ (λ k. has-untaken plane ok h header q i k && has-to_subnets plane ok h header i k)) n || false))
      ∙ equal _ _ (try8 handed refl (sends (Dev i)) (lets_out i) (loops_back i) (owner Delivered i) (is_held i) (is_line i) (alone i) true)
      ∙ by_ends Delivered (Dev i)
  delivered-law (Via g None) = nothing (sends (Via g None))
  delivered-law (Via g (Some i)) =
      equal _ _ (try8 handed_via refl (sends (Via g (Some i))) (lets_out i) (loops_back i) (is_none (topology.takers plane.links i g)) true true true true)
      ∙ by_ends Delivered (Via g (Some i))

  -- ---- before any hop

  no_hop : (k : Kind) → (xs : List Hop) → ((x : Hop) → by_hop (ends k) plane h q x ≡ false) → list_any (by_hop (ends k) plane h q) xs ≡ false
  no_hop k [] none = refl
  no_hop k (x ∷ xs) none = λ n. none x n || no_hop k xs none n

  -- the hops of the destination are none, asked hop by hop of the table
  no_hops : (xs : List Hop) → list_any (λ x. true) xs ≡ not (is_none xs)
  no_hops [] = refl
  no_hops (x ∷ xs) = refl

  some_hop : list_any (λ x. has (hop_set (fib_of plane (router_of q)) x) h) (hops_at plane q) ≡ not (is_none (hops (ends NoRoute) plane h q))
  some_hop =
      (λ n. list_any (λ x. (has-hop_set (fib_of plane (router_of q)) (fib_in_order plane ok (router_of q)) h header x ∙ sym (and_true (is_hop plane ok h header q x))) n) (hops_at plane q))
      ∙ sym (any-hops (fib_of plane (router_of q)) (fib_in_order plane ok (router_of q)) h.dst (λ x. true))
      ∙ no_hops (hops (ends NoRoute) plane h q)
    where
      and_true : (b : Bool) → (b && true) ≡ b
      and_true true = refl
      and_true false = refl

  -- null, among the hops of the destination
  abbrev no_null : Tests8
  no_null l lo u d s n y z = same false (cond l (cond lo false (not u && cond d false (cond s (n && false) false))) false)

  abbrev no_null_via : Tests8
  no_null_via l lo n y z w v t = same false (cond l (cond lo false (n && false)) false)

  null_at : (x : Hop) → same_hop Null x ≡ by_hop (ends NullRouted) plane h q x
  null_at Null = refl
  null_at (Dev i) =
      equal _ _ (try8 no_null refl (lets_out i) (loops_back i) (owner NullRouted i) (is_held i) (is_line i) (alone i) true true)
      ∙ sym (by_hop-ends (ends NullRouted) (λ j. refl) plane h q (Dev i))
  null_at (Via g None) = refl
  null_at (Via g (Some i)) =
      equal _ _ (try8 no_null_via refl (lets_out i) (loops_back i) (is_none (topology.takers plane.links i g)) true true true true true)
      ∙ sym (by_hop-ends (ends NullRouted) (λ j. refl) plane h q (Via g (Some i)))

  null_hop : (xs : List Hop) → list_any (same_hop Null) xs ≡ list_any (by_hop (ends NullRouted) plane h q) xs
  null_hop [] = refl
  null_hop (x ∷ xs) = λ n. null_at x n || null_hop xs n

  -- ---- each ending

  abbrev asked : Bool → Bool → Bool → Bool → Kind → Bool
  asked let_in own none by_hops k = cond let_in (cond own (ends k (End Accepted)) ((none && ends k (End NoRoute)) || by_hops)) (ends k (End DeniedIn))

  -- the moves of a header, where no hop ends so
  before_hops : (k : Kind) → (ends k (End NullRouted) ≡ false) × (ends k (End DeniedOut) ≡ false) × (ends k (End Unreachable) ≡ false) × (ends k (End Exits) ≡ false) × (ends k (End Delivered) ≡ false)
      → list_any (ends k) (moves plane h q) ≡ asked (is_let_in plane.network h q) (topology.is_own plane.links (router_of q) h.dst) (is_none (hops (ends k) plane h q)) false k
  before_hops k none =
      any-moves (ends k) plane h q
      ∙ (λ n. asked (is_let_in plane.network h q) (topology.is_own plane.links (router_of q) h.dst) (is_none (hops (ends k) plane h q)) (no_hop k (hops (ends k) plane h q) (by_hop-none (ends k) (λ j. refl) plane h q none) n) k)

  abbrev enters : Bool
  enters = is_let_in plane.network h q

  abbrev own : Bool
  own = topology.is_own plane.links (router_of q) h.dst

  abbrev none : Bool
  none = is_none (hops (ends NoRoute) plane h q)

  abbrev at_entry : Tests8
  at_entry e o n a b c d f = same (true && not e) (cond e (cond o false ((n && false) || false)) true)

  abbrev kept : Tests8
  kept e o n a b c d f = same (e && o) (cond e (cond o true ((n && false) || false)) false)

  abbrev no_way : Tests8
  no_way e o n a b c d f = same ((e && not o) && not (not n)) (cond e (cond o false ((n && true) || false)) false)

  abbrev to_null : Tests8
  to_null e o n a b c d f = same ((e && not o) && a) (cond e (cond o false ((n && false) || a)) false)

  -- the set of an ending holds the headers that have it among their moves
  pub has-end : (k : Kind) → has (end plane q k) h ≡ list_any (same_move (End k)) (moves plane h q)
  unfolding end
  has-end DeniedIn =
      has-minus h (given always) (let_in plane.network q) ∙ (λ n. true && not (has-let_in plane ok h header q n))
      ∙ equal _ _ (try8 at_entry refl enters own none true true true true true)
      ∙ sym (before_hops DeniedIn (refl, refl, refl, refl, refl))
  has-end Accepted =
      has-and h (let_in plane.network q) (to_router plane (router_of q)) ∙ (λ n. has-let_in plane ok h header q n && has-to_router plane ok h header (router_of q) n)
      ∙ equal _ _ (try8 kept refl enters own none true true true true true)
      ∙ sym (before_hops Accepted (refl, refl, refl, refl, refl))
  has-end NoRoute =
      has-without (hop_set (fib_of plane (router_of q))) h (forwarded plane q) (hops_at plane q)
      ∙ (λ n. has-forwarded plane ok h header q n && not (some_hop n))
      ∙ equal _ _ (try8 no_way refl enters own none true true true true true)
      ∙ sym (before_hops NoRoute (refl, refl, refl, refl, refl))
  has-end NullRouted =
      has-sent plane ok h header q Null
      ∙ (λ n. is_forwarded plane ok h header q && null_hop (hops (ends NullRouted) plane h q) n)
      ∙ equal _ _ (try8 to_null refl enters own none (list_any (by_hop (ends NullRouted) plane h q) (hops (ends NullRouted) plane h q)) true true true true)
      ∙ sym (any-moves (ends NullRouted) plane h q)
  has-end DeniedOut = has-over_hops plane ok h header q (ends DeniedOut) (refl, refl, refl) (denied_out plane q) denied_out-law
  has-end Unreachable = has-over_hops plane ok h header q (ends Unreachable) (refl, refl, refl) (unreachable plane q) unreachable-law
  has-end Exits = has-over_hops plane ok h header q (ends Exits) (refl, refl, refl) (exits plane q) exits-law
  has-end Delivered = has-over_hops plane ok h header q (ends Delivered) (refl, refl, refl) (delivered plane q) delivered-law
