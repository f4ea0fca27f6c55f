-- The result of a query holds exactly the headers of which a walk from the place may end as asked.
use Rattle.std.proofs.Common.{refl, ◌≡◌, ap, sym, ◌∙◌, subst, ℕ, ◌≤◌, Bool, true, false, ◌||◌, List, [], ◌∷◌, map, length, Contains, inl, inr, arith}
use Rattle.std.specs.Prelude.{◌↔◌}
use Rattle.std.specs.List.{list_any, flat_map, range_with_len, AllByRecursion, IsDistinct}
use Rattle.std.proofs.lemmas.Bool.{and_parts, and_from, or_parts}
use Rattle.rc_base.proofs.KeepLaws.{In, any_yes}
use Rattle.rc_base.specs.Positions.{is_among, same_position}
use Rattle.rc_base.specs.declared.ending.Ends.{Ends}
use Rattle.rc_base.specs.declared.ending.Kind.{Kind}
use Rattle.rc_base.specs.declared.ending.Kind.TheVariants.{DeniedIn, Accepted, NoRoute, NullRouted, DeniedOut, Unreachable, Exits, Delivered}
use Rattle.rc_base.specs.declared.header.Header.{Header}
use Rattle.rc_base.specs.declared.position.Pos.{Pos}
use Rattle.rc_base.specs.declared.position.Pos.TheVariants.{Own, Entering}
use Rattle.rc_config.specs.Lawful.{IsPosition}
use Rattle.rc_config.specs.Members.{interface_ids, interfaces_of, positions, router_ids}
use Rattle.rc_config.specs.declared.network.Network.{Network}
use Rattle.rc_topology.specs.Links.{all_ids}
use Rattle.rc_topology.specs.Ports.{links_of}
use Rattle.rc_trees.specs.Recipes.{has}
use Rattle.rc_trees.proofs.RecipeLaws.{has-and, has-union_of}
use Rattle.rc_base.specs.Header.{IsHeader}
use Rattle.rc_sets.proofs.LongestLaws.{any-in, filter-in, in-filter, map-in}
use Rattle.rc_topology.proofs.ListLaws.{any_map}
use Rattle.rc_moves.proofs.BoundLaws.{few_positions}
use Rattle.rc_moves.proofs.NetworkLaws.{length-positions, some_router}
use Rattle.rc_moves.proofs.PositionLaws.{same_position-Decides}
use Rattle.rc_moves.specs.Moves.{DataPlane, moves}
use Rattle.rc_moves.specs.Walks.{AreMoves, IsWalk, MayStopAt, last_position, stands_in}
use Rattle.rc_moves.specs.declared.walk.Move.TheVariants.{End}
use Rattle.rc_moves.specs.declared.walk.Stop.TheVariants.{At}
use Rattle.rc_moves.specs.declared.walk.Walk.{Walk}
use Rattle.rc_router_sets.specs.Endings.{end}
use Rattle.rc_router_sets.specs.Planes.{IsPlane}
use Rattle.rc_base.specs.Endings.{all_kinds}
use Rattle.rc_router_sets.specs.Query.{IsReaching, kinds_of, reached, reaching}
use Rattle.rc_router_sets.proofs.MemberLaws.{in-flat_map, in-range}
use Rattle.rc_router_sets.proofs.MoveLaws.{end_is_move}
use Rattle.rc_router_sets.proofs.QueryLaws.{ending}
use Rattle.rc_router_sets.proofs.ReachedLaws.{brought, reached_if_brought, stays}
use Rattle.rc_router_sets.proofs.SentLaws.{any-flat_map}

-- ---- positions and endings

pub position_in : (net : Network) (q : Pos) → IsPosition net q → In q (positions net)
position_in net (Own r) there = in-flat_map (λ r. Own r ∷ map Entering (interface_ids net r)) r (Own r) (router_ids net) (in-range r 0 (length net.routers) (omega arith) (omega arith)) (inl refl)
position_in net (Entering i) there =
    let router = there.0 in let index = there.1 in
    in-flat_map (λ r. Own r ∷ map Entering (interface_ids net r)) i.router (Entering i) (router_ids net) (in-range i.router 0 (length net.routers) (omega arith) (omega arith))
    (inr (map-in Entering i (interface_ids net i.router) (map-in (λ n. record { router = i.router; index = n }) i.index (range_with_len 0 (length (interfaces_of net i.router))) (in-range i.index 0 (length (interfaces_of net i.router)) (omega arith) (omega arith)))))

pub every_kind : (k : Kind) → In k all_kinds
every_kind DeniedIn = inl refl
every_kind Accepted = inr (inl refl)
every_kind NoRoute = inr (inr (inl refl))
every_kind NullRouted = inr (inr (inr (inl refl)))
every_kind DeniedOut = inr (inr (inr (inr (inl refl))))
every_kind Unreachable = inr (inr (inr (inr (inr (inl refl)))))
every_kind Exits = inr (inr (inr (inr (inr (inr (inl refl))))))
every_kind Delivered = inr (inr (inr (inr (inr (inr (inr (inl refl)))))))

module _ (plane : DataPlane) (h : Header) where
  -- ---- a repeat can be cut out of a walk, since a move depends on position and header alone

  -- steps from a position to another, no position twice
  pub record IsCut (p q : Pos) : Type 0 where
    pub steps : List Pos
    pub moves : AreMoves plane h p steps
    pub there : last_position p steps ≡ q
    pub once : IsDistinct same_position (p ∷ steps)

  none_alike : (p : Pos) (ts : List Pos) → stands_in ts p ≡ false → AllByRecursion (λ t. same_position p t ≡ false) ts
  none_alike p [] none = tt
  none_alike p (t ∷ ts) none = let parts = or_parts (same_position p t) (stands_in ts p) none in (parts.0, none_alike p ts parts.1)

  -- the steps behind a position that stands among them
  behind : (p t : Pos) (ts : List Pos) → stands_in (t ∷ ts) p ≡ true → AreMoves plane h t ts → IsDistinct same_position (t ∷ ts) → IsCut p (last_position t ts)
  unfolding IsDistinct
  behind p t [] among are once = by (same_position p t) refl
    where
      by : (b : Bool) → same_position p t ≡ b → IsCut p t
      by true same = record { steps = []; moves = tt; there = (same_position-Decides p t).0 same; once = (tt, tt) }
      by false other = absurd (let e : false ≡ true = ap (λ b. b || false) (sym other) ∙ among in cc)
  behind p t (u ∷ us) among are once = by (same_position p t) refl (behind p u us)
    where
      by : (b : Bool) → same_position p t ≡ b → (stands_in (u ∷ us) p ≡ true → AreMoves plane h u us → IsDistinct same_position (u ∷ us) → IsCut p (last_position u us)) → IsCut p (last_position u us)
      by true same later =
          subst (λ x. IsCut x (last_position u us)) (sym ((same_position-Decides p t).0 same)) (record { steps = u ∷ us; moves = are; there = refl; once = once })
      by false other later = later (ap (λ b. b || stands_in (u ∷ us) p) (sym other) ∙ among) are.1 once.1

  pub cut : (p : Pos) (steps : List Pos) → AreMoves plane h p steps → IsCut p (last_position p steps)
  unfolding IsDistinct
  cut p [] are = record { steps = []; moves = tt; there = refl; once = (tt, tt) }
  cut p (t ∷ ts) are = by (cut t ts are.1)
    where
      by : IsCut t (last_position t ts) → IsCut p (last_position t ts)
      by c = at (stands_in (t ∷ c.steps) p) refl
        where
          at : (b : Bool) → stands_in (t ∷ c.steps) p ≡ b → IsCut p (last_position t ts)
          at true among = subst (IsCut p) c.there (behind p t c.steps among c.moves c.once)
          at false none = record { steps = t ∷ c.steps; moves = (are.0, c.moves); there = c.there; once = (none_alike p (t ∷ c.steps) none, c.once) }

module _ (plane : DataPlane) (ok : IsPlane plane) where
  -- a walk has at most as many positions as the network
  few_positions_there : (h : Header) (q : Pos) (w : Walk) → IsPosition plane.network q → IsWalk plane h q w → length w.positions ≤ length (positions plane.network)
  few_positions_there h q w there walk =
      let few = few_positions plane h q w walk in
      let some = some_router plane.network q there in
      let ids : length (all_ids plane.links) ≡ length (all_ids (links_of plane.network)) = ap (λ l. length (all_ids l)) ok.links in
      let count = length-positions plane.network in
      omega (arith, few, some, ids, count)

  module _ (h : Header) (header : IsHeader h) (place : Pos) (start : IsPosition plane.network place) (ends : Ends) where
    abbrev all : List Pos
    all = positions plane.network

    abbrev rounds : ℕ
    rounds = length (positions plane.network)

    -- the reaching, position by position and ending by ending
    has-result : has (reaching plane place ends) h ≡ list_any (λ q. list_any (λ k. has (ending plane place ends q k) h) (kinds_of ends)) all
    unfolding reaching
    has-result =
        has-union_of (λ set. set) h (flat_map (λ q. map (ending plane place ends q) (kinds_of ends)) all)
        ∙ any-flat_map (λ set. has set h) (λ q. map (ending plane place ends q) (kinds_of ends)) all
        ∙ (λ i. list_any (λ q. any_map (ending plane place ends q) (λ set. has set h) (kinds_of ends) i) all)

    pub is_reaching : has (reaching plane place ends) h ≡ true → IsReaching plane h place ends
    is_reaching some =
        let one = any_yes (λ q. list_any (λ k. has (ending plane place ends q k) h) (kinds_of ends)) all (sym has-result ∙ some) in
        let q = one.0 in
        let other = any_yes (λ k. has (ending plane place ends q k) h) (kinds_of ends) one.2 in
        let k = other.0 in
        let parts = and_parts (has (reached plane place rounds q) h) (has (end plane q k) h) (sym (has-and h (reached plane place rounds q) (end plane q k)) ∙ other.2) in
        let way = brought plane ok h header place rounds q parts.0 in
        let short = cut plane h place way.steps way.moves in
        let there : last_position place short.steps ≡ q = short.there ∙ way.there in
        let ends_so : Contains (moves plane h q) (End k) = (end_is_move plane h q k ok header).0 parts.1 in
        record {
          walk = record { positions = place ∷ short.steps; stop = At k };
          kind = k;
          is_walk = record { steps = short.steps; positions = refl; each = short.moves; once = short.once; stops = subst (λ u. Contains (moves plane h u) (End k)) (sym there) ends_so };
          stops = refl;
          asked = (in-filter (is_among ends) k all_kinds other.1).1;
        }

    pub reaching_is_in : IsReaching plane h place ends → has (reaching plane place ends) h ≡ true
    reaching_is_in r =
        let w = r.walk in
        let steps = r.is_walk.steps in
        let q = last_position place steps in
        let few = few_positions_there h place w start r.is_walk in
        let long : length w.positions ≡ length (place ∷ steps) = ap length r.is_walk.positions in
        let within : length steps ≤ rounds = omega arith in
        let in_time = reached_if_brought plane ok h header place (position_in plane.network place start) rounds steps within r.is_walk.each in
        let ending_there : Contains (moves plane h q) (End r.kind) = subst (MayStopAt plane h w.positions q) r.stops r.is_walk.stops in
        let in_end = (end_is_move plane h q r.kind ok header).1 ending_there in
        let in_ending : has (ending plane place ends q r.kind) h ≡ true = has-and h (reached plane place rounds q) (end plane q r.kind) ∙ and_from _ _ in_time in_end in
        let asked : In r.kind (kinds_of ends) = filter-in (is_among ends) r.kind all_kinds (every_kind r.kind) r.asked in
        let there : In q all = stays plane ok h header place place steps (position_in plane.network place start) r.is_walk.each in
        has-result
        ∙ any-in (λ q. list_any (λ k. has (ending plane place ends q k) h) (kinds_of ends)) q all there (any-in (λ k. has (ending plane place ends q k) h) r.kind (kinds_of ends) asked in_ending)

    -- the result holds the headers of which a walk from the place may end as asked
    pub result_is_reaching : (has (reaching plane place ends) h ≡ true) ↔ IsReaching plane h place ends
    result_is_reaching = (is_reaching, reaching_is_in)
