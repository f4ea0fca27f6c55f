-- A packet asks tables for one address: states that know the same routes to it, over hops that say where a packet goes, move it alike.
use Rattle.std.proofs.Common.{refl, ◌≡◌, ap, sym, ◌∙◌, subst, ℕ, zero, suc, Bool, true, false, cond, List, [], ◌∷◌, ◌++◌, nat_lt, Some, None, Contains}
use Rattle.std.specs.Prelude.{◌&&◌, flat_map}
use Rattle.std.specs.Bool.{Decides}
use Rattle.std.specs.List.{fold, list_all, reduce, AllByRecursion}
use Rattle.std.specs.Option.{option_map_or}
use Rattle.rc_base.specs.Lists.{first_seen}
use Rattle.rc_base.specs.Prefix.{contains}
use Rattle.rc_base.specs.declared.ending.Ends.{Ends}
use Rattle.rc_base.specs.declared.ending.Kind.TheVariants.{Accepted, DeniedIn}
use Rattle.rc_base.specs.declared.header.Header.{Header}
use Rattle.rc_base.specs.declared.position.Pos.{Pos}
use Rattle.rc_config.specs.declared.network.Network.{Network}
use Rattle.rc_fib.proofs.ForwardingLaws.{resolved_hops-resolved}
use Rattle.rc_fib.specs.Forwarding.{hops_within, is_resolved, resolve_all, resolve_hop, resolved, resolved_hops}
use Rattle.rc_ospf.specs.Internal.{holding}
use Rattle.rc_route.specs.Hops.{same_hop}
use Rattle.rc_route.specs.declared.route.Hop.{Hop}
use Rattle.rc_route.specs.declared.route.Hop.TheVariants.{Null, Dev, Via}
use Rattle.rc_route.specs.declared.route.Route.{Route}
use Rattle.rc_route.specs.declared.state.RouterState.{RouterState}
use Rattle.rc_rounds.specs.AtAddress.{AreAlikeAt}
use Rattle.rc_topology.specs.Links.{is_own}
use Rattle.rc_topology.specs.Ports.{links_of}
use Rattle.rc_moves.specs.Moves.{DataPlane, fib_of, is_let_in, moves, moves_by, moves_by_hops, plane_of, router_of}
use Rattle.rc_moves.specs.Walks.{AreMoves, MayStopAt, last_position}
use Rattle.rc_moves.specs.declared.walk.Move.{Move}
use Rattle.rc_moves.specs.declared.walk.Move.TheVariants.{Next, End}
use Rattle.rc_moves.specs.declared.walk.Stop.{Stop}
use Rattle.rc_moves.specs.declared.walk.Stop.TheVariants.{At, Loop}
use Rattle.rc_failures.specs.AtAddress.{is_plain, knows_plain}
use Rattle.rc_failures.specs.Failures.{Arrives}

both : (a b : Bool) → (a && b) ≡ true → (a ≡ true) × (b ≡ true)
both true true e = (refl, refl)
both true false e = absurd (cc e)
both false b e = absurd (cc e)

-- ---- hops that say where a packet goes need no table

module _ (f g : ℕ → List Hop) where
  one_hop : (x : Hop) → is_resolved x ≡ true → resolve_hop f x ≡ resolve_hop g x
  one_hop Null e = refl
  one_hop (Dev i) e = refl
  one_hop (Via b None) e = absurd (cc e)
  one_hop (Via b (Some i)) e = refl

  all_hops : (xs : List Hop) → list_all is_resolved xs ≡ true → flat_map (resolve_hop f) xs ≡ flat_map (resolve_hop g) xs
  all_hops [] e = refl
  all_hops (x ∷ xs) e = let (here, later) = both (is_resolved x) (list_all is_resolved xs) e in λ i. one_hop x here i ++ all_hops xs later i

  pub plain_hops : (xs : List Hop) → list_all is_resolved xs ≡ true → resolve_all f xs ≡ resolve_all g xs
  plain_hops xs e = ap (first_seen same_hop) (all_hops xs e)

-- ---- the longest of some routes is one of them

abbrev Plain : Route → Type 0
Plain r = is_plain r ≡ true

all_plain : (rs : List Route) → list_all is_plain rs ≡ true → AllByRecursion Plain rs
all_plain [] e = tt
all_plain (r ∷ rs) e = let (here, later) = both (is_plain r) (list_all is_plain rs) e in (here, all_plain rs later)

abbrev longer : Route → Route → Route
longer x y = cond (nat_lt x.prefix.len y.prefix.len) y x

of_longest : (x : Route) (xs : List Route) → Plain x → AllByRecursion Plain xs → Plain (fold longer x xs)
of_longest x [] p all = p
of_longest x (y ∷ ys) p all = of_longest (longer x y) ys (pick (nat_lt x.prefix.len y.prefix.len)) all.1
  where
    pick : (b : Bool) → Plain (cond b y x)
    pick true = all.0
    pick false = p

plain_held : (a : ℕ) (rs : List Route) → AllByRecursion Plain rs → AllByRecursion Plain (holding a rs)
plain_held a [] all = tt
plain_held a (r ∷ rs) all = by (contains r.prefix a) (plain_held a rs all.1)
  where
    by : (b : Bool) → AllByRecursion Plain (holding a rs) → AllByRecursion Plain (cond b (r ∷ holding a rs) (holding a rs))
    by true rest = (all.0, rest)
    by false rest = rest

module _ (t u : List Route) (a : ℕ) where
  same_by : (depth : ℕ) (held : List Route) → AllByRecursion Plain held
      → option_map_or (λ (r : Route). resolve_all (hops_within t depth) r.hops) (reduce longer held) [] ≡ option_map_or (λ (r : Route). resolve_all (hops_within u depth) r.hops) (reduce longer held) []
  same_by depth [] all = refl
  same_by depth (x ∷ xs) all = plain_hops (hops_within t depth) (hops_within u depth) (fold longer x xs).hops (of_longest x xs all.0 all.1)

  same_within : (depth : ℕ) → holding a t ≡ holding a u → AllByRecursion Plain (holding a u) → hops_within t (suc depth) a ≡ hops_within u (suc depth) a
  unfolding hops_within
  same_within depth same all = ap (λ held. option_map_or (λ (r : Route). resolve_all (hops_within t depth) r.hops) (reduce longer held) []) same ∙ same_by depth (holding a u) all

  -- tables with the same routes to an address give it the same hops
  pub same_hops : holding a t ≡ holding a u → list_all is_plain u ≡ true → resolved_hops (resolved t) a ≡ resolved_hops (resolved u) a
  same_hops same plain = resolved_hops-resolved t a ∙ same_within 15 same (plain_held a u (all_plain u plain)) ∙ sym (resolved_hops-resolved u a)

-- ---- planes of the same network

module _ (net : Network) (h : Header) where
  module _ (these those : List RouterState) where
    abbrev this : DataPlane
    this = plane_of net these

    abbrev that : DataPlane
    that = plane_of net those

    one_move : (q : Pos) (x : Hop) → moves_by this h q x ≡ moves_by that h q x
    one_move q Null = refl
    one_move q (Dev i) = refl
    one_move q (Via g None) = refl
    one_move q (Via g (Some i)) = refl

    flat_moves : (q : Pos) (xs : List Hop) → flat_map (moves_by this h q) xs ≡ flat_map (moves_by that h q) xs
    flat_moves q [] = refl
    flat_moves q (x ∷ xs) = λ i. one_move q x i ++ flat_moves q xs i

    by_hops : (q : Pos) (xs : List Hop) → moves_by_hops this h q xs ≡ moves_by_hops that h q xs
    by_hops q [] = refl
    by_hops q (x ∷ xs) = flat_moves q (x ∷ xs)

    inside : Pos → List Move → List Move
    inside q by_table = cond (is_let_in net h q) (cond (is_own (links_of net) (router_of q) h.dst) (End Accepted ∷ []) by_table) (End DeniedIn ∷ [])

    pub same_moves : ((r : ℕ) → resolved_hops (fib_of this r) h.dst ≡ resolved_hops (fib_of that r) h.dst) → (q : Pos) → moves this h q ≡ moves that h q
    unfolding inside
    same_moves same q = ap (inside q) (ap (moves_by_hops this h q) (same (router_of q)) ∙ by_hops q (resolved_hops (fib_of that (router_of q)) h.dst))

  same_fibs : (these those : List RouterState) → AreAlikeAt h.dst these those → list_all knows_plain those ≡ true → (r : ℕ) → resolved_hops (fib_of (plane_of net these) r) h.dst ≡ resolved_hops (fib_of (plane_of net those) r) h.dst
  same_fibs [] [] alike plain r = refl
  same_fibs [] (t ∷ ts) alike plain r = absurd alike
  same_fibs (s ∷ ss) [] alike plain r = absurd alike
  same_fibs (s ∷ ss) (t ∷ ts) alike plain zero = same_hops s.table t.table h.dst alike.0 (both (knows_plain t) (list_all knows_plain ts) plain).0
  same_fibs (s ∷ ss) (t ∷ ts) alike plain (suc r) = same_fibs ss ts alike.1 (both (knows_plain t) (list_all knows_plain ts) plain).1 r

-- ---- so are their walks

module _ (this that : DataPlane) (h : Header) (same : (q : Pos) → moves this h q ≡ moves that h q) where
  each_move : (q : Pos) (ts : List Pos) → AreMoves this h q ts → AreMoves that h q ts
  each_move q [] are = tt
  each_move q (t ∷ ts) are = (subst (λ (ms : List Move). Contains ms (Next t)) (same q) are.0, each_move t ts are.1)

  may_stop : (walked : List Pos) (last : Pos) (stop : Stop) → MayStopAt this h walked last stop → MayStopAt that h walked last stop
  may_stop walked last (At kind) stops = subst (λ (ms : List Move). Contains ms (End kind)) (same last) stops
  may_stop walked last Loop (t, there, back) = (t, subst (λ (ms : List Move). Contains ms (Next t)) (same last) there, back)

  pub arrives_alike : (place : Pos) (ends : Ends) → Arrives this place h ends → Arrives that place h ends
  arrives_alike place ends a =
      let w = a.is_walk in
      record {
        walk = a.walk;
        kind = a.kind;
        is_walk = record { steps = w.steps; positions = w.positions; each = each_move place w.steps w.each; once = w.once; stops = may_stop a.walk.positions (last_position place w.steps) a.walk.stop w.stops };
        stops = a.stops;
        asked = a.asked;
      }

-- whether a packet arrives is the same in both states
pub decides_alike : (net : Network) (h : Header) (place : Pos) (ends : Ends) (these those : List RouterState) → AreAlikeAt h.dst these those → list_all knows_plain those ≡ true → (b : Bool) → Decides b (Arrives (plane_of net those) place h ends) → Decides b (Arrives (plane_of net these) place h ends)
decides_alike net h place ends these those alike plain b decides =
    let same = same_moves net h these those (same_fibs net h these those alike plain) in (
      λ e. arrives_alike (plane_of net those) (plane_of net these) h (λ q. sym (same q)) place ends (decides.0 e),
      λ a. decides.1 (arrives_alike (plane_of net these) (plane_of net those) h same place ends a),
    )
