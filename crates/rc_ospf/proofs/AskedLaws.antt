-- Where no router is a border router and none an AS boundary router, the least walks to where an address is offered decide the routes at it.
use Rattle.std.proofs.Common.{refl, ◌≡◌, ap, sym, ◌∙◌, subst, ℕ, zero, suc, ◌+◌, ◌<◌, inl, inr, Bool, true, false, cond, List, [], ◌∷◌, ◌++◌, length, map, Option, Some, None, arith}
use Rattle.std.specs.Prelude.{◌==◌, ◌&&◌, ◌||◌, IfOk, Result, Ok, Err}
use Rattle.std.specs.List.{fold, filter_map, list_any, cons_option, range_with_len, AllByRecursion}
use Rattle.std.specs.Option.{option_map, option_or}
use Rattle.std.specs.Ordering.{nat_cmp}
use Rattle.rc_base.specs.Prefix.{Cidr, is_default}
use Rattle.rc_config.specs.declared.network.Network.{Network}
use Rattle.rc_route.specs.Ways.{best_of}
use Rattle.rc_route.specs.declared.route.Source.TheVariants.{Ospf, OspfIa}
use Rattle.rc_ospf.specs.Areas.{OspfRouter, AreOspfRouters, is_offered_by, inter}
use Rattle.rc_ospf.specs.Asked.{AnswerAlike, AreEndsAt, AnswerOver}
use Rattle.rc_ospf.specs.Boundaries as B
use Rattle.rc_ospf.specs.BoundaryForms.{target_of, boundary_paths}
use Rattle.rc_ospf.specs.Internal.{steps_of, adverts_in, holding}
use Rattle.rc_ospf.specs.Ends.{is_end, end_of, with_end, with_ends, ends_of}
use Rattle.rc_ospf.specs.Members.{known, reach_of, areas_at, areas_in, is_border_at, AreMembersOver}
use Rattle.rc_ospf.specs.Offered.{Offered}
use Rattle.rc_ospf.specs.RouterAreas.{is_in, is_border}
use Rattle.rc_ospf.specs.Routes.{with_default, offered_rows, rows_holding, internal_route_over, internal_route_to, internal_route, internal_routes}
use Rattle.rc_link_state.specs.Tables.{reach_in, AreWalksOf, AreWalksTo}
use Rattle.rc_link_state.specs.Towards.{IsPathTo}
use Rattle.rc_link_state.specs.Walks.{LeastWalks, IsReach}
use Rattle.rc_ospf.specs.Ways.{way_to, way_over, best_way}
use Rattle.rc_link_state.specs.declared.step.Step.{Step}
use Rattle.rc_topology.specs.Topology.{Topology}
use Rattle.rc_ospf.specs.declared.grouping.Row.{Row}
use Rattle.rc_ospf.specs.declared.known_walks.KnownWalks.{KnownWalks}
use Rattle.rc_link_state.specs.declared.end.End.{End}
use Rattle.rc_link_state.specs.declared.table.AreaWalks.{AreaWalks}
use Rattle.rc_ospf.specs.declared.member.Areas.{Areas}
use Rattle.rc_ospf.specs.declared.ospf_router.Member.{Member}
use Rattle.rc_ospf.specs.declared.member.StubAreas.TheVariants.{Kept, LeftOut}
use Rattle.rc_ospf.specs.declared.offer.Advert.{Advert}
use Rattle.rc_ospf.proofs.Existence.{routers_in, are_routers, as_many}
use Rattle.rc_ospf.proofs.HoldingLaws.{found_holding}
use Rattle.rc_ospf.proofs.MemberLaws.{AreMembers, ospf_routers, all_left_out, as_many_members, border_over, knows_over, members_over}
use Rattle.rc_link_state.proofs.Members.{In, all_in}
use Rattle.rc_ospf.proofs.OneAnswer.{one_least}
use Rattle.rc_ospf.proofs.StayLaws.{all_stay, some_stay}
use Rattle.rc_ospf.proofs.SummaryLaws.{borders, border_known, no_summaries}
use Rattle.rc_ospf.specs.Wanted.{nothing}
use Rattle.rc_ospf.proofs.TableLaws.{boundaries_are}

-- ---- routers that are alike but for walks that nobody asks for

module _ (P : Offered → Type 0) where
  record IsAlike (a b : OspfRouter) : Type 0 where
    pub router : a.router ≡ b.router
    pub areas : a.areas ≡ b.areas
    pub reach : (o : Offered) → P o → a.reach o.area o.router ≡ b.reach o.area o.router

  abbrev AreAlike : List OspfRouter → List OspfRouter → Type 0
  AreAlike [] [] = Unit {0}
  AreAlike [] (b ∷ bs) = ⊥
  AreAlike (a ∷ as') [] = ⊥
  AreAlike (a ∷ as') (b ∷ bs) = IsAlike a b × AreAlike as' bs

  none_border : (xs ys : List OspfRouter) → AreAlike xs ys → list_any borders xs ≡ list_any borders ys
  none_border [] [] alike = refl
  none_border [] (y ∷ ys) alike = absurd alike
  none_border (x ∷ xs) [] alike = absurd alike
  none_border (x ∷ xs) (y ∷ ys) alike = ap (λ b. b || list_any borders xs) (ap is_border alike.0.areas) ∙ ap (λ b. borders y || b) (none_border xs ys alike.1)

  ways_alike : (a b : OspfRouter) → IsAlike a b → (offers : List Offered) → ((o : Offered) → In o offers → P o) → filter_map (way_to a.reach) offers ≡ filter_map (way_to b.reach) offers
  ways_alike a b alike [] each = refl
  ways_alike a b alike (o ∷ os) each =
      ap (λ p. cons_option (option_map (λ (e : LeastWalks). way_over (e.cost + o.cost) e) p) (filter_map (way_to a.reach) os)) (alike.reach o (each o (inl refl)))
      ∙ ap (cons_option (way_to b.reach o)) (ways_alike a b alike os (λ x there. each x (inr there)))

  no_way_between : (m : OspfRouter) → inter m nothing ≡ None
  no_way_between m = by (is_in 0 m.areas)
    where
      by : (b : Bool) → cond b (best_way m.reach []) (best_way m.reach []) ≡ None
      by true = refl
      by false = refl

  route_alike : (a b : OspfRouter) → IsAlike a b → (p : Cidr) (offers : List Offered) → ((o : Offered) → In o offers → P o) → internal_route_to a p offers nothing ≡ internal_route_to b p offers nothing
  route_alike a b alike p offers each =
      ap (λ r. cond (list_any (is_offered_by r) offers) None (option_or (option_map (internal_route_over Ospf p) (best_way a.reach offers)) (option_map (internal_route_over OspfIa p) (inter a nothing)))) alike.router
      ∙ ap (λ ways. cond (list_any (is_offered_by b.router) offers) None (option_or (option_map (internal_route_over Ospf p) (best_of nat_cmp ways)) (option_map (internal_route_over OspfIa p) (inter a nothing)))) (ways_alike a b alike offers each)
      ∙ ap (λ i. cond (list_any (is_offered_by b.router) offers) None (option_or (option_map (internal_route_over Ospf p) (best_way b.reach offers)) (option_map (internal_route_over OspfIa p) i)))
      (no_way_between a ∙ sym (no_way_between b))

  module _ (xs ys : List OspfRouter) (no_x : list_any borders xs ≡ false) (no_y : list_any borders ys ≡ false) where
    row_alike : (a b : OspfRouter) → IsAlike a b → (row : Row) → ((o : Offered) → In o row.offers → P o) → internal_route xs a row ≡ internal_route ys b row
    row_alike a b alike row each =
        ap (internal_route_to a row.prefix row.offers) (no_summaries xs (is_default row.prefix) row.offers no_x)
        ∙ route_alike a b alike row.prefix row.offers each
        ∙ sym (ap (internal_route_to b row.prefix row.offers) (no_summaries ys (is_default row.prefix) row.offers no_y))

    rows_alike : (a b : OspfRouter) → IsAlike a b → (rows : List Row) → ((row : Row) → In row rows → (o : Offered) → In o row.offers → P o) → filter_map (internal_route xs a) rows ≡ filter_map (internal_route ys b) rows
    rows_alike a b alike [] each = refl
    rows_alike a b alike (row ∷ rows) each =
        ap (λ o. cons_option o (filter_map (internal_route xs a) rows)) (row_alike a b alike row (each row (inl refl)))
        ∙ ap (cons_option (internal_route ys b row)) (rows_alike a b alike rows (λ x there. each x (inr there)))

    module _ (address : ℕ) (adverts : List Advert) (each : (row : Row) → In row (rows_holding address (with_default (offered_rows adverts))) → (o : Offered) → In o row.offers → P o) where
      table_alike : (a b : OspfRouter) → IsAlike a b → holding address (internal_routes xs adverts a) ≡ holding address (internal_routes ys adverts b)
      unfolding internal_routes
      table_alike a b alike =
          let rows = with_default (offered_rows adverts) in
          sym (found_holding address xs a rows) ∙ rows_alike a b alike (rows_holding address rows) each ∙ found_holding address ys b rows

      tables_alike : (as' bs : List OspfRouter) → AreAlike as' bs → map (holding address) (map (internal_routes xs adverts) as') ≡ map (holding address) (map (internal_routes ys adverts) bs)
      tables_alike [] [] alike = refl
      tables_alike [] (b ∷ bs) alike = absurd alike
      tables_alike (a ∷ as') [] alike = absurd alike
      tables_alike (a ∷ as') (b ∷ bs) alike =
          ap (λ t. t ∷ map (holding address) (map (internal_routes xs adverts) as')) (table_alike a b alike.0)
          ∙ ap (λ ts. holding address (internal_routes ys adverts b) ∷ ts) (tables_alike as' bs alike.1)

-- ---- the ends are where something is offered

kept : (o : Offered) (ends : List End) (e : End) → In e ends → In e (with_end ends o)
kept o ends e there = by (list_any (is_end o) ends)
  where
    front : (xs ys : List End) → In e xs → In e (xs ++ ys)
    front [] ys there = absurd there
    front (x ∷ xs) ys (inl same) = inl same
    front (x ∷ xs) ys (inr later) = inr (front xs ys later)

    by : (b : Bool) → In e (cond b ends (ends ++ end_of o ∷ []))
    by true = there
    by false = front ends (end_of o ∷ []) there

put : (o : Offered) (ends : List End) → In (end_of o) (with_end ends o)
put o ends = by (list_any (is_end o) ends) refl
  where
    last : (xs : List End) → In (end_of o) (xs ++ end_of o ∷ [])
    last [] = inl refl
    last (x ∷ xs) = inr (last xs)

    found : (xs : List End) → list_any (is_end o) xs ≡ true → In (end_of o) xs
    found [] is = absurd (cc)
    found (x ∷ xs) is = one (x.area == o.area) refl (x.router == o.router) refl is (found xs)
      where
        one : (a : Bool) → (x.area == o.area) ≡ a → (b : Bool) → (x.router == o.router) ≡ b → ((a && b) || list_any (is_end o) xs) ≡ true → (list_any (is_end o) xs ≡ true → In (end_of o) xs) → In (end_of o) (x ∷ xs)
        one true at true to is rest = let area : x.area ≡ o.area = grind (arith, at) in let router : x.router ≡ o.router = grind (arith, to) in inl (λ i. record { area = area i; router = router i })
        one true at false to is rest = inr (rest is)
        one false at true to is rest = inr (rest is)
        one false at false to is rest = inr (rest is)

    by : (b : Bool) → list_any (is_end o) ends ≡ b → In (end_of o) (cond b ends (ends ++ end_of o ∷ []))
    by true is = found ends is
    by false is = last ends

kept_all : (offers : List Offered) (ends : List End) (e : End) → In e ends → In e (with_ends ends offers)
kept_all [] ends e there = there
kept_all (o ∷ os) ends e there = kept_all os (with_end ends o) e (kept o ends e there)

put_all : (offers : List Offered) (ends : List End) (o : Offered) → In o offers → In (end_of o) (with_ends ends offers)
put_all [] ends o there = absurd there
put_all (x ∷ os) ends o (inl same) = kept_all os (with_end ends x) (end_of o) (subst (λ y. In (end_of y) (with_end ends x)) same (put x ends))
put_all (x ∷ os) ends o (inr there) = put_all os (with_end ends x) o there

kept_by_rows : (rows : List Row) (ends : List End) (e : End) → In e ends → In e (fold (λ ends (row : Row). with_ends ends row.offers) ends rows)
kept_by_rows [] ends e there = there
kept_by_rows (row ∷ rows) ends e there = kept_by_rows rows (with_ends ends row.offers) e (kept_all row.offers ends e there)

put_by_rows : (rows : List Row) (ends : List End) (row : Row) → In row rows → (o : Offered) → In o row.offers → In (end_of o) (fold (λ ends (row : Row). with_ends ends row.offers) ends rows)
put_by_rows [] ends row there o offered = absurd there
put_by_rows (x ∷ rows) ends row (inl same) o offered = kept_by_rows rows (with_ends ends x.offers) (end_of o) (put_all x.offers ends o (subst (λ (y : Row). In o y.offers) (sym same) offered))
put_by_rows (x ∷ rows) ends row (inr there) o offered = put_by_rows rows (with_ends ends x.offers) row there o offered

-- ---- routers with the least walks to the ends are like those with all of them

one_path : (steps : List Step) (r area s : ℕ) (a b : Option LeastWalks) → IsPathTo steps r area s a → IsPathTo steps r area s b → a ≡ b
one_path steps r area s None None x y = refl
one_path steps r area s None (Some f) x y = (let (w, least, total) = y.cost in absurd (x w least.is_walk))
one_path steps r area s (Some e) None x y = (let (w, least, total) = x.cost in absurd (y w least.is_walk))
one_path steps r area s (Some e) (Some f) x y = ap Some (one_least steps area r s e f x y)

-- a router with its areas, and with the least walks from it to some ends
record IsMemberTo (net : Network) (steps : List Step) (ends : List End) (r : ℕ) (m : Member) : Type 0 where
  router : m.router ≡ r
  areas : m.areas.now ≡ areas_at net r
  reach : AllByRecursion (λ (e : End). IsPathTo steps r e.area e.router (reach_of m e.area e.router)) ends

-- they are the routers of a network from one on
abbrev AreMembersTo : Network → List Step → List End → ℕ → List Member → Type 0
AreMembersTo net steps ends r [] = Unit {0}
AreMembersTo net steps ends r (m ∷ ms) = IsMemberTo net steps ends r m × AreMembersTo net steps ends (suc r) ms

abbrev Ends : List End → Offered → Type 0
Ends ends o = In (end_of o) ends

members_alike : (net : Network) (steps : List Step) (ends : List End) (r : ℕ) (ms : List Member) (routers : List OspfRouter) → length ms ≡ length routers → AreMembersTo net steps ends r ms → AreOspfRouters net steps r routers →
    AreAlike (Ends ends) (map (known Kept) ms) routers
members_alike net steps ends r [] [] long are all = tt
members_alike net steps ends r [] (m ∷ ms) long are all = absurd (omega arith)
members_alike net steps ends r (m ∷ ms) [] long are all = absurd (omega arith)
members_alike net steps ends r (m ∷ ms) (x ∷ xs) long are all = (
  record {
    router = are.0.router ∙ sym all.0.router;
    areas = ap (λ (a : Areas). a.all) are.0.areas ∙ sym all.0.areas;
    reach = λ o there. one_path steps r o.area o.router (reach_of m o.area o.router) (x.reach o.area o.router) (all_in (λ (e : End). IsPathTo steps r e.area e.router (reach_of m e.area e.router)) ends (end_of o) are.0.reach there) (all.0.reach o.area o.router);
  },
  members_alike net steps ends (suc r) ms xs (omega arith) are.1 all.1,
)

no_boundaries : (net : Network) (routers : List OspfRouter) (ms : List Member) → length ms ≡ length routers → B.boundary_routers net ≡ [] →
    map (boundary_paths (map (target_of net (map (known LeftOut) ms)) (B.boundary_routers net))) ms ≡ map (B.boundary_paths net routers) routers
no_boundaries net routers ms long none =
    ap (λ ss. map (boundary_paths (map (target_of net (map (known LeftOut) ms)) ss)) ms) none
    ∙ empty ms routers long
    ∙ sym (ap (λ ss. map (λ m. filter_map (B.boundary_path net routers m) ss) routers) none)
  where
    empty : (xs : List Member) (ys : List OspfRouter) → length xs ≡ length ys → map (boundary_paths []) xs ≡ map (λ m. filter_map (B.boundary_path net routers m) []) ys
    empty [] [] same = refl
    empty [] (y ∷ ys) same = absurd (omega arith)
    empty (x ∷ xs) [] same = absurd (omega arith)
    empty (x ∷ xs) (y ∷ ys) same = ap (λ t. [] ∷ t) (empty xs ys (omega arith))

few_alike : (net : Network) (steps : List Step) (address : ℕ) (ends : List End) (ms : List Member) →
    ends ≡ ends_of (rows_holding address (with_default (offered_rows (adverts_in net)))) → length ms ≡ length net.routers → AreMembersTo net steps ends 0 ms →
    list_any (is_border_at Kept) ms ≡ false → B.boundary_routers net ≡ [] → AnswerAlike net steps (Some address) ms
few_alike net steps address ends ms are long each no_border no_boundary =
    let routers = routers_in net steps in
    let same : length ms ≡ length routers = long ∙ sym (as_many net steps) in
    let alike = members_alike net steps ends 0 ms routers same each (are_routers net steps) in
    let none : list_any borders (map (known Kept) ms) ≡ false = border_known Kept ms ∙ no_border in
    let rows = rows_holding address (with_default (offered_rows (adverts_in net))) in
    record {
      routers = routers;
      as_many = as_many net steps;
      are_routers = are_routers net steps;
      routes = tables_alike (Ends ends) (map (known Kept) ms) routers none (sym (none_border (Ends ends) (map (known Kept) ms) routers alike) ∙ none) address (adverts_in net)
          (λ row there o offered. subst (λ es. In (end_of o) es) (sym are) (put_by_rows rows [] row there o offered)) (map (known Kept) ms) routers alike;
      boundaries = no_boundaries net routers ms same no_boundary;
    }

-- ---- and so are those with all their least walks

all_alike : (net : Network) (steps : List Step) (asked : Option ℕ) (ms : List Member) → length ms ≡ length net.routers → AreMembers net steps 0 ms → AnswerAlike net steps asked ms
all_alike net steps asked ms long each = record {
  routers = map (known Kept) ms;
  as_many = length_known ms ∙ long;
  are_routers = ospf_routers net steps 0 ms each;
  routes = refl;
  boundaries = boundaries_are net steps (map (known Kept) ms) (map (known LeftOut) ms) 0 ms each (all_left_out net steps 0 ms each);
}
  where
    length_known : (xs : List Member) → length (map (known Kept) xs) ≡ length xs
    length_known [] = refl
    length_known (x ∷ xs) = ap suc (length_known xs)

-- ---- what a table tells

-- all least walks
pub over_all : (net : Network) (links : Topology) (these : List Step) (asked : Option ℕ) (walks : KnownWalks) (n : ℕ) → n ≡ length net.routers → these ≡ steps_of net links → AreWalksOf these n walks.table →
    AnswerOver net (steps_of net links) asked walks
over_all net links these asked walks n same are of =
    let each : (k : ℕ) → k < length net.routers → IsReach (steps_of net links) k (reach_in walks.table k) = λ k lt. subst (λ ss. IsReach ss k (reach_in walks.table k)) are (of.reach k (omega (arith, lt, same))) in
    record {
      alike = λ ms over. all_alike net (steps_of net links) asked ms (as_many_members net walks.table ms over) (members_over net (steps_of net links) walks.table ms each over);
      stay = all_stay net links walks each;
    }

members_to_from : (net : Network) (steps : List Step) (ends : List End) (walks : List AreaWalks) (r n : ℕ) (ms : List Member) →
    ((k : ℕ) → k < r + n → AllByRecursion (λ (e : End). IsPathTo steps k e.area e.router (reach_in walks k e.area e.router)) ends) →
    AreMembersOver walks r (map (areas_at net) (range_with_len r n)) ms → AreMembersTo net steps ends r ms
members_to_from net steps ends walks r zero [] each are = tt
members_to_from net steps ends walks r zero (m ∷ ms) each are = absurd are
members_to_from net steps ends walks r (suc n) [] each are = absurd are
members_to_from net steps ends walks r (suc n) (m ∷ ms) each are = (
  record {
    router = are.0.router;
    areas = are.0.areas;
    reach = knows_over walks (λ k reach. AllByRecursion (λ (e : End). IsPathTo steps k e.area e.router (reach e.area e.router)) ends) r (areas_at net r) m are.0 (each r (omega arith));
  },
  members_to_from net steps ends walks (suc r) n ms (λ k lt. each k (omega (arith, lt)))
      (subst (λ k. AreMembersOver walks (suc r) (map (areas_at net) (range_with_len k n)) ms) (let e : r + 1 ≡ suc r = omega arith in e) are.1),
)

pub both_ok : {T E : Type 0} (r : Result T E) (P Q R : T → Type 0) → ((x : T) → P x → Q x → R x) → IfOk r P → IfOk r Q → IfOk r R
both_ok (Ok x) P Q R both p q = both x p q
both_ok (Err e) P Q R both p q = tt

-- those to where the address is offered
pub over_ends : (net : Network) (steps these : List Step) (address : ℕ) (ends : List End) (walks : KnownWalks) (n : ℕ) → n ≡ length net.routers → these ≡ steps → AreEndsAt net address ends → walks.are_all ≡ false →
    AreWalksTo these n ends walks.table → AnswerOver net steps (Some address) walks
over_ends net steps these address ends walks n same are at some to = record {
  alike = λ ms over. few_alike net steps address ends ms at.offered (as_many_members net walks.table ms over)
      (members_to_from net steps ends walks.table 0 (length net.routers) ms
      (λ k lt. subst (λ ss. AllByRecursion (λ (e : End). IsPathTo ss k e.area e.router (reach_in walks.table k e.area e.router)) ends) are (to.reach k (omega (arith, lt, same)))) over)
      (border_over walks.table 0 (areas_in net) ms over ∙ at.no_border) at.no_boundary;
  stay = some_stay walks some 0 (areas_in net);
}
