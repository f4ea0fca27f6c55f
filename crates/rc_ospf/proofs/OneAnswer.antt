-- The steps decide the least walks, and these decide the routes and paths.
use Rattle.std.proofs.Common.{◌≡◌, ℕ, suc, ◌≤◌, List, [], ◌∷◌, length, map, Option, Some, None, MatchOption, sym, ◌∙◌, ap, refl, arith, subst}
use Rattle.rc_config.specs.declared.network.Network.{Network}
use Rattle.rc_route.proofs.OrderLaws.{hop_cmp_total}
use Rattle.rc_route.specs.Hops.{hop_cmp}
use Rattle.rc_route.specs.declared.route.Hop.{Hop}
use Rattle.rc_ospf.specs.Areas.{OspfRouter, IsOspfRouter, AreOspfRouters}
use Rattle.rc_ospf.specs.Boundaries.{boundary_paths}
use Rattle.rc_ospf.specs.Internal.{HasOneInternal, steps_of, adverts_in}
use Rattle.rc_ospf.specs.Routes.{internal_routes}
use Rattle.rc_link_state.specs.Walks.{LeastWalks, Reach, IsWalk, walk_cost, AreLeastWalks, IsReach}
use Rattle.rc_link_state.specs.declared.step.Step.{Step}
use Rattle.rc_link_state.proofs.Members.{contains_in, in_contains, same_by_members}

made_of : ℕ → List Hop → LeastWalks
made_of cost hops = record { cost = cost; hops = hops }

pub one_least : (steps : List Step) (area r s : ℕ) (e f : LeastWalks) → AreLeastWalks steps area r s e → AreLeastWalks steps area r s f → e ≡ f
unfolding made_of
one_least steps area r s e f a b = ap (λ c. made_of c e.hops) costs ∙ ap (made_of f.cost) hops
  where
    costs : e.cost ≡ f.cost
    costs =
        let (w, least, total) = a.cost in
        let (v, least', total') = b.cost in
        let x : walk_cost w ≤ walk_cost v = least.least v least'.is_walk in
        let y : walk_cost v ≤ walk_cost w = least'.least w least.is_walk in omega arith

    hops : e.hops ≡ f.hops
    hops = same_by_members hop_cmp hop_cmp_total e.hops f.hops a.in_order b.in_order (λ h. (
      λ there. contains_in f.hops h ((b.hops h).1 ((a.hops h).0 (in_contains e.hops h there))),
      λ there. contains_in e.hops h ((a.hops h).1 ((b.hops h).0 (in_contains f.hops h there))),
    ))

one_reach : (steps : List Step) (r : ℕ) (a b : Reach) → IsReach steps r a → IsReach steps r b → (area s : ℕ) → a area s ≡ b area s
one_reach steps r a b here there area s = by (a area s) (b area s) (here area s) (there area s)
  where
    Walks : Option LeastWalks → Type 0
    Walks o = MatchOption o ((walk : List Step) → IsWalk steps area r walk s → ⊥) (AreLeastWalks steps area r s)

    by : (o p : Option LeastWalks) → Walks o → Walks p → o ≡ p
    by None None x y = refl
    by None (Some f) x y = (let (w, least, total) = y.cost in absurd (x w least.is_walk))
    by (Some e) None x y = (let (w, least, total) = x.cost in absurd (y w least.is_walk))
    by (Some e) (Some f) x y = ap Some (one_least steps area r s e f x y)

one_router : (net : Network) (steps : List Step) (r : ℕ) (a b : OspfRouter) → IsOspfRouter net steps r a → IsOspfRouter net steps r b → a ≡ b
one_router net steps r a b x y =
    let routers : a.router ≡ b.router = x.router ∙ sym y.router in
    let areas : a.areas ≡ b.areas = x.areas ∙ sym y.areas in
    λ i. record { router = routers i; areas = areas i; reach = λ area s. one_reach steps r a.reach b.reach x.reach y.reach area s i }

pub one_routers : (net : Network) (steps : List Step) (r : ℕ) (xs ys : List OspfRouter) → length xs ≡ length ys → AreOspfRouters net steps r xs → AreOspfRouters net steps r ys → xs ≡ ys
one_routers net steps r [] [] long a b = refl
one_routers net steps r [] (y ∷ ys) long a b = absurd (omega arith)
one_routers net steps r (x ∷ xs) [] long a b = absurd (omega arith)
one_routers net steps r (x ∷ xs) (y ∷ ys) long a b =
    ap (λ z. z ∷ xs) (one_router net steps r x y a.0 b.0) ∙ ap (λ zs. y ∷ zs) (one_routers net steps (suc r) xs ys (omega arith) a.1 b.1)

pub one_internal : HasOneInternal
one_internal net these those links a b =
    let same : a.routers ≡ b.routers = one_routers net (steps_of net those.links) 0 a.routers b.routers (a.as_many ∙ sym b.as_many)
    (subst (λ l. AreOspfRouters net (steps_of net l) 0 a.routers) links a.are_routers) b.are_routers in
    let routes : these.routes ≡ those.routes = a.routes ∙ ap (λ rs. map (internal_routes rs (adverts_in net)) rs) same ∙ sym b.routes in
    let boundaries : these.boundaries ≡ those.boundaries = a.boundaries ∙ ap (λ rs. map (boundary_paths net rs) rs) same ∙ sym b.boundaries in
    let own : these.own ≡ those.own = a.own ∙ sym b.own in
    λ i. record { links = links i; routes = routes i; boundaries = boundaries i; own = own i }
