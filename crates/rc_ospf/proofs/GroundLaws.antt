-- The routes that are made of the grounds, one router after another, are those that OSPF gives.
use Rattle.std.proofs.Common.{refl, ◌≡◌, ap, sym, ◌∙◌, subst, ℕ, zero, suc, ◌+◌, ◌<◌, List, [], ◌∷◌, length, map, None, All, arith}
use Rattle.std.specs.Prelude.{slice_get, slice_index_or, unwrap_or}
use Rattle.std.proofs.lemmas.List.{length-map}
use Rattle.rc_config.specs.Members.{router_ids}
use Rattle.rc_config.specs.declared.network.Network.{Network}
use Rattle.rc_link_state.specs.declared.step.Step.{Step}
use Rattle.rc_route.specs.Tables.{IsTable}
use Rattle.rc_route.specs.declared.route.Route.{Route}
use Rattle.rc_shares.specs.Making.{AreMade}
use Rattle.rc_shares.specs.Stretches.{IsStretch}
use Rattle.rc_shares.proofs.StretchLaws.{stretch_up}
use Rattle.rc_topology.specs.Topology.{Topology}
use Rattle.rc_ospf.specs.Areas.{AreOspfRouters}
use Rattle.rc_ospf.specs.Asked.{AnswerAlike}
use Rattle.rc_ospf.specs.BoundaryPaths.{BoundaryPath}
use Rattle.rc_ospf.specs.Grounds.{AreBoundaries, AreGrounds, AreMadeOfRoutes}
use Rattle.rc_ospf.specs.Internal.{IsInternal, adverts_in, routes_of, steps_of}
use Rattle.rc_ospf.specs.Members.{AreMembersOver, known, table_of}
use Rattle.rc_ospf.specs.Routes.{internal_routes, offered_rows, own_prefixes, rows_asked, with_default}
use Rattle.rc_ospf.specs.Wanted.{IsDestination}
use Rattle.rc_ospf.specs.declared.destination.Destination.{Destination}
use Rattle.rc_ospf.specs.declared.grounds.Grounds.{Grounds}
use Rattle.rc_ospf.specs.declared.member.Areas.{Areas}
use Rattle.rc_ospf.specs.declared.member.StubAreas.TheVariants.{Kept}
use Rattle.rc_ospf.specs.declared.model.Internal.{Internal}
use Rattle.rc_ospf.specs.declared.ospf_router.Member.{Member}
use Rattle.rc_ospf.proofs.HoldingLaws.{all_asked, asked_are}
use Rattle.rc_ospf.proofs.OneAnswer.{one_routers}
use Rattle.rc_ospf.proofs.WantedLaws.{tables_alike}

-- ---- what OSPF gives over the least walks, where its paths to AS boundary routers are known

-- with its routes and the prefixes that routers advertise
abbrev pub whole_of : (net : Network) (links : Topology) (paths : List (List BoundaryPath)) → AreBoundaries net (steps_of net links) paths → Internal
whole_of net links paths b = record { links = links; routes = map (internal_routes b.routers (adverts_in net)) b.routers; boundaries = paths; own = map (own_prefixes net) (router_ids net) }

pub whole_is : (net : Network) (links : Topology) (paths : List (List BoundaryPath)) (b : AreBoundaries net (steps_of net links) paths) → IsInternal net (whole_of net links paths b)
whole_is net links paths b = record { routers = b.routers; as_many = b.as_many; are_routers = b.are_routers; routes = refl; boundaries = b.value; own = refl }

-- ---- lists

-- what holds of what is made of each holds of each
module _ {X Y : Type 0} (P : Y → Type 0) (f : X → Y) where
  at_index : (xs : List X) (k : ℕ) (d : X) → slice_index_or (map f xs) k (f d) ≡ f (slice_index_or xs k d)
  at_index [] k d = refl
  at_index (x ∷ xs) zero d = refl
  at_index (x ∷ xs) (suc k) d = at_index xs k d

  pub each_mapped : (xs : List X) → All P (map f xs) → All (λ x. P (f x)) xs
  each_mapped xs all = λ k d less. subst P (at_index xs k d) (all k (f d) (subst (λ n. k < n) (sym (length-map xs f)) less))

-- what holds of an element, whatever stands past the end, holds of what is found
found_at : {X : Type 0} (f : X → List Route) (P : List Route → Type 0) (xs : List X) (k : ℕ) → k < length xs → ((d : X) → P (f (slice_index_or xs k d))) → P (unwrap_or (slice_get (map f xs) k) [])
found_at f P [] k less each = absurd (let none : ⊥ = omega (arith, less) in none)
found_at f P (x ∷ xs) zero less each = each x
found_at f P (x ∷ xs) (suc k) less each = found_at f P xs k (omega (arith, less)) each

-- a stretch of what is something else as well
other_stretch : {X : Type 0} (P Q : ℕ → X → Type 0) (a b : ℕ) (xs : List X) → ((k : ℕ) (x : X) → k < b → P k x → Q k x) → IsStretch P a b xs → IsStretch Q a b xs
unfolding IsStretch
other_stretch P Q a b [] each is = is
other_stretch P Q a b (x ∷ xs) each is =
    let up = stretch_up P (a + 1) b xs is.1 in
    (each a x (omega (arith, up)) is.0, other_stretch P Q (a + 1) b xs each is.1)

-- ---- the routes of routers that answer as those of the network

module _ (net : Network) (steps : List Step) (ms : List Member) (ds : List Destination) (alike : AnswerAlike net steps None ms)
    (are : AreMade (IsDestination (map (known Kept) ms)) (rows_asked None (with_default (offered_rows (adverts_in net)))) ds) where
  tables_are : map (table_of ds) ms ≡ map (internal_routes alike.routers (adverts_in net)) alike.routers
  tables_are = tables_alike ms (rows_asked None (with_default (offered_rows (adverts_in net)))) ds are ∙ asked_are None (map (known Kept) ms) (adverts_in net) ms ∙ alike.routes

  -- each is a table
  pub each_is_table : All (λ m. IsTable (table_of ds m)) ms
  each_is_table = each_mapped IsTable (table_of ds) ms (subst (All IsTable) (sym tables_are) (all_asked None alike.routers (adverts_in net) alike.routers))

  module _ (i : Internal) (is : IsInternal net i) (same : steps ≡ steps_of net i.links) where
    routes_are : map (table_of ds) ms ≡ i.routes
    routes_are =
        let routers = one_routers net (steps_of net i.links) 0 alike.routers is.routers (alike.as_many ∙ sym is.as_many) (subst (λ s. AreOspfRouters net s 0 alike.routers) same alike.are_routers) is.are_routers in
        tables_are ∙ ap (λ rs. map (internal_routes rs (adverts_in net)) rs) routers ∙ sym is.routes

    as_many : length ms ≡ length net.routers
    as_many =
        sym (length-map ms (table_of ds)) ∙ ap length routes_are ∙ ap length is.routes ∙ length-map is.routers (internal_routes is.routers (adverts_in net)) ∙ is.as_many

    -- and what is made of them is made of the routes that OSPF gives
    pub made_of_them : {M : Type 0} (makes : ℕ → List Route → M → Type 0) (all : List M)
        → IsStretch (λ k made. (d : Member) → makes k (table_of ds (slice_index_or ms k d)) made) 0 (length ms) all → AreMadeOfRoutes makes net i all
    made_of_them {M} makes all made =
        subst (λ n. IsStretch (λ r. makes r (routes_of i r)) 0 n all) as_many
        (other_stretch (λ k x. (d : Member) → makes k (table_of ds (slice_index_or ms k d)) x) (λ r. makes r (routes_of i r)) 0 (length ms) all
        (λ k x less each. subst (λ ts. makes k (unwrap_or (slice_get ts k) []) x) routes_are (found_at (table_of ds) (λ t. makes k t x) ms k less each)) made)

-- routers over the walks of the grounds answer as those of the network
pub alike_over : (net : Network) (g : Grounds) → AreGrounds net g → (areas : List Areas) (found members : List Member) → areas ≡ g.areas → members ≡ found → AreMembersOver g.walks.table 0 areas found → AnswerAlike net (steps_of net g.internal.links) None members
alike_over net g are areas found members same is over =
    are.walks.alike members (subst (λ own. AreMembersOver g.walks.table 0 own members) (same ∙ are.areas) (subst (AreMembersOver g.walks.table 0 areas) (sym is) over))
