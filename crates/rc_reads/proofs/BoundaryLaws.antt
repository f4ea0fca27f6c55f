-- A router without an OSPF process has no path to an AS boundary router.
use Rattle.std.proofs.Common.{refl, ◌≡◌, inl, inr, ap, sym, ◌∙◌, subst, ℕ, zero, suc, ◌+◌, ◌==◌, Bool, true, false, cond, List, [], ◌∷◌, map, length, Contains, Option, Some, None, IfSome, MatchOption, is_some, eqb-true, arith}
use Rattle.std.specs.Prelude.{slice_get, unwrap_or}
use Rattle.std.specs.List.{AllByRecursion, cons_option, filter, filter_map, flat_map, range_with_len}
use Rattle.std.specs.Option.{option_map, option_map_or, option_or}
use Rattle.std.proofs.lemmas.Bool.{eqb-false}
use Rattle.std.proofs.lemmas.Option.{same_Some, slice_get-map}
use Rattle.rc_base.proofs.KeepLaws.{In}
use Rattle.rc_base.specs.declared.position.IfId.{IfId}
use Rattle.rc_config.specs.Down.{Entries, is_down}
use Rattle.rc_config.specs.Members.{router_at, router_ids}
use Rattle.rc_config.specs.declared.interface.IfAddr.{IfAddr}
use Rattle.rc_config.specs.declared.network.Network.{Network}
use Rattle.rc_config.specs.declared.ospf.OspfProcess.{OspfProcess}
use Rattle.rc_config.specs.declared.router_text.RouterText.{RouterText}
use Rattle.rc_topology.specs.Topology.{Topology}
use Rattle.rc_link_state.specs.Adjacency.{adjacencies, is_adjacent, step_over}
use Rattle.rc_ospf.specs.Areas.{AreOspfRouters, IsOspfRouter, OspfRouter, inter, inter_cost, inter_in_backbone, intra_cost, offer, offers_into, offers_of, outward_offers, outward_summaries, outward_summary, stub_default, summaries_of, without_stubs, backbone_summaries}
use Rattle.rc_ospf.specs.Boundaries.{boundary_offers, boundary_path, boundary_path_by, boundary_paths, boundary_routers, path_over}
use Rattle.rc_ospf_interfaces.specs.Interfaces.{interface_at, interface_on, interfaces_at, interfaces_of, ospf_interface, ospf_interfaces, area_of}
use Rattle.rc_ospf.specs.Internal.{IsInternal, boundaries_of, steps_of}
use Rattle.rc_ospf.specs.Offered.{Offered}
use Rattle.rc_ospf.specs.RouterAreas.{areas_in_file, areas_of, is_border, is_in, is_outside, open_areas, router_areas}
use Rattle.rc_link_state.specs.Walks.{AreLeastWalks, IsReach, IsWalk, LeastWalks, Reach}
use Rattle.rc_ospf.specs.Ways.{best_way, way_over, way_to}
use Rattle.rc_route.specs.Ways.{best_of}
use Rattle.std.specs.Ordering.{nat_cmp}
use Rattle.rc_link_state.specs.declared.step.Step.{Step}
use Rattle.rc_ospf_interfaces.specs.declared.interface.OspfInterface.{OspfInterface}
use Rattle.rc_ospf.specs.declared.model.Internal.{Internal}
use Rattle.rc_ospf.specs.declared.router_area.RouterArea.{RouterArea}
use Rattle.rc_reads.specs.Reads.{runs_ospf}
use Rattle.rc_reads.proofs.ListLaws.{all_members, all_joined, all_flat_map, all_map, all_filter_map, then_some, map_some, unless_some, any_some, nothing_made}

contained : {X : Type 0} (P : X → Type 0) (xs : List X) (x : X) → AllByRecursion P xs → Contains xs x → P x
contained P [] x all (k, less, is) = absurd (omega arith)
contained P (y ∷ ys) x all (zero, less, is) = subst P is all.0
contained P (y ∷ ys) x all (suc k, less, is) = contained P ys x all.1 (k, omega arith, is)

-- ---- no step leaves it

module _ (net : Network) (r : ℕ) (silent : runs_ospf net r ≡ false) where
  no_areas : router_areas net r ≡ []
  no_areas = by (router_at net r) silent
    where
      of : (file : RouterText) (p : Option OspfProcess) → is_some p ≡ false → option_map_or (λ (q : OspfProcess). areas_of q (interfaces_of r file)) p [] ≡ []
      of file None e = refl
      of file (Some p) e = absurd (cc)

      by : (o : Option RouterText) → option_map_or (λ (file : RouterText). is_some file.ospf) o false ≡ false → option_map_or (areas_in_file r) o [] ≡ []
      by None e = refl
      by (Some file) e = of file file.ospf e

  no_interfaces : interfaces_at net r ≡ []
  no_interfaces = by (router_at net r) silent
    where
      of : (file : RouterText) (p : Option OspfProcess) → is_some p ≡ false → option_map_or (λ (q : OspfProcess). filter_map (interface_at r file.interfaces q) (range_with_len 0 (length file.interfaces))) p [] ≡ []
      of file None e = refl
      of file (Some p) e = absurd (cc)

      by : (o : Option RouterText) → option_map_or (λ (file : RouterText). is_some file.ospf) o false ≡ false → option_map_or (interfaces_of r) o [] ≡ []
      by None e = refl
      by (Some file) e = of file file.ospf e

  abbrev IsElsewhere : ℕ → Type 0
  IsElsewhere s = s ≡ r → ⊥

  interface_router : (q : ℕ) (entries : Entries) (p : OspfProcess) (index : ℕ) → IfSome (interface_at q entries p index) (λ (i : OspfInterface). i.id.router ≡ q)
  interface_router q entries p index =
      let id : IfId = record { router = q; index = index } in
      then_some (λ _. Unit {0}) (λ (i : OspfInterface). i.id.router ≡ q) (interface_on entries p id) (slice_get entries index) (any_some (slice_get entries index))
      (λ e _. unless_some (λ (i : OspfInterface). i.id.router ≡ q) (is_down entries e.0) _
      (then_some (λ _. Unit {0}) (λ (i : OspfInterface). i.id.router ≡ q) (λ (primary : IfAddr). option_map (ospf_interface p id e.0 e.1 primary) (area_of p e.1.ospf primary.addr)) e.1.primary (any_some e.1.primary)
      (λ primary _. map_some (λ _. Unit {0}) (λ (i : OspfInterface). i.id.router ≡ q) (ospf_interface p id e.0 e.1 primary) (area_of p e.1.ospf primary.addr) (any_some (area_of p e.1.ospf primary.addr)) (λ area _. refl))))

  at_router : (q : ℕ) → AllByRecursion (λ (i : OspfInterface). i.id.router ≡ q) (interfaces_at net q)
  at_router q = by (router_at net q)
    where
      of : (file : RouterText) (p : Option OspfProcess) → AllByRecursion (λ (i : OspfInterface). i.id.router ≡ q) (option_map_or (λ (o : OspfProcess). filter_map (interface_at q file.interfaces o) (range_with_len 0 (length file.interfaces))) p [])
      of file None = tt
      of file (Some p) = all_filter_map (λ (i : OspfInterface). i.id.router ≡ q) (interface_at q file.interfaces p) (range_with_len 0 (length file.interfaces)) (interface_router q file.interfaces p)

      by : (o : Option RouterText) → AllByRecursion (λ (i : OspfInterface). i.id.router ≡ q) (option_map_or (interfaces_of q) o [])
      by None = tt
      by (Some file) = of file file.ospf

  weaker : {K : Type 0} (P Q : K → Type 0) → ((x : K) → P x → Q x) → (xs : List K) → AllByRecursion P xs → AllByRecursion Q xs
  weaker P Q f [] h = tt
  weaker P Q f (x ∷ xs) h = (f x h.0, weaker P Q f xs h.1)

  elsewhere_at : (q : ℕ) (b : Bool) → (q == r) ≡ b → AllByRecursion (λ (i : OspfInterface). IsElsewhere i.id.router) (interfaces_at net q)
  elsewhere_at q true e = subst (AllByRecursion (λ (i : OspfInterface). IsElsewhere i.id.router)) (sym (ap (interfaces_at net) (eqb-true q r e) ∙ no_interfaces)) tt
  elsewhere_at q false e = weaker (λ (i : OspfInterface). i.id.router ≡ q) (λ (i : OspfInterface). IsElsewhere i.id.router) (λ i at same. eqb-false q r e (sym at ∙ same)) (interfaces_at net q) (at_router q)

  all_elsewhere : AllByRecursion (λ (i : OspfInterface). IsElsewhere i.id.router) (ospf_interfaces net)
  unfolding ospf_interfaces
  all_elsewhere = all_flat_map (λ (i : OspfInterface). IsElsewhere i.id.router) (interfaces_at net) (router_ids net) (λ q there. elsewhere_at q (q == r) refl)

  in_all : (P : OspfInterface → Type 0) (xs : List OspfInterface) (i : OspfInterface) → AllByRecursion P xs → In i xs → P i
  in_all P [] i all there = absurd there
  in_all P (j ∷ js) i all (inl same) = subst P same all.0
  in_all P (j ∷ js) i all (inr later) = in_all P js i all.1 later

  none_leaves : (links : Topology) → AllByRecursion (λ (x : Step). IsElsewhere x.out.router) (steps_of net links)
  unfolding adjacencies
  none_leaves links =
      let all = ospf_interfaces net in
      all_flat_map (λ (x : Step). IsElsewhere x.out.router) (λ i. map (step_over i) (filter (is_adjacent links i) all)) all
      (λ i there. all_map (λ (x : Step). IsElsewhere x.out.router) (step_over i) (filter (is_adjacent links i) all) (λ j _. in_all (λ (k : OspfInterface). IsElsewhere k.id.router) all i all_elsewhere there))

  -- ---- so it reaches no other router

  no_walk : (steps : List Step) → AllByRecursion (λ (x : Step). IsElsewhere x.out.router) steps → (area s : ℕ) → IsElsewhere s → (walk : List Step) → IsWalk steps area r walk s → ⊥
  no_walk steps all area s other [] is = other (sym is)
  no_walk steps all area s other (x ∷ walk) is = contained (λ (y : Step). IsElsewhere y.out.router) steps x all is.0 is.2

  reaches_none : (steps : List Step) → AllByRecursion (λ (x : Step). IsElsewhere x.out.router) steps → (reach : Reach) → IsReach steps r reach → (area s : ℕ) → IsElsewhere s → reach area s ≡ None
  reaches_none steps all reach is area s other = by (reach area s) (is area s)
    where
      by : (o : Option LeastWalks) → MatchOption o ((walk : List Step) → IsWalk steps area r walk s → ⊥) (AreLeastWalks steps area r s) → o ≡ None
      by None at = refl
      by (Some e) at = (let cost = at.cost in absurd (no_walk steps all area s other cost.0 cost.1.is_walk))

  module _ (reach : Reach) (none : (area s : ℕ) → IsElsewhere s → reach area s ≡ None) where
    no_way : (offers : List Offered) → AllByRecursion (λ (o : Offered). IsElsewhere o.router) offers → best_way reach offers ≡ None
    no_way offers all = ap (best_of nat_cmp) (nothing_made (way_to reach) offers (weaker (λ (o : Offered). IsElsewhere o.router) (λ o. way_to reach o ≡ None) (λ o other. ap (option_map (λ (e : LeastWalks). way_over (e.cost + o.cost) e)) (none o.area o.router other)) offers all))

  -- ---- summaries come from others

  into_elsewhere : (q : ℕ) → IsElsewhere q → (is_default : Bool) (summary : Option ℕ) (a : RouterArea) → AllByRecursion (λ (o : Offered). IsElsewhere o.router) (offers_into q is_default summary a)
  into_elsewhere q other is_default summary a = by summary (stub_default is_default a)
    where
      last : (t : Option ℕ) → AllByRecursion (λ (o : Offered). IsElsewhere o.router) (cons_option (option_map (offer q a.area) t) [])
      last None = tt
      last (Some c) = (other, tt)

      by : (s t : Option ℕ) → AllByRecursion (λ (o : Offered). IsElsewhere o.router) (cons_option (option_map (offer q a.area) s) (cons_option (option_map (offer q a.area) t) []))
      by None t = last t
      by (Some c) t = (other, last t)

  -- a router with the areas that the network gives it
  abbrev HasItsAreas : OspfRouter → Type 0
  HasItsAreas m = m.areas ≡ router_areas net m.router

  outward_elsewhere : (is_default : Bool) (inside backbone : List Offered) (m : OspfRouter) → HasItsAreas m → AllByRecursion (λ (o : Offered). IsElsewhere o.router) (outward_offers is_default inside backbone (without_stubs m))
  outward_elsewhere is_default inside backbone m its = by (m.router == r) refl
    where
      all : (b : Bool) → IsElsewhere m.router → AllByRecursion (λ (o : Offered). IsElsewhere o.router) (cond b (flat_map (offers_of (without_stubs m) is_default inside (intra_cost (without_stubs m) inside) (inter_cost (without_stubs m) backbone (intra_cost (without_stubs m) inside))) (filter is_outside (open_areas m.areas))) [])
      all true other = all_flat_map (λ (o : Offered). IsElsewhere o.router) (offers_of (without_stubs m) is_default inside (intra_cost (without_stubs m) inside) (inter_cost (without_stubs m) backbone (intra_cost (without_stubs m) inside))) (filter is_outside (open_areas m.areas))
          (λ a there. into_elsewhere m.router other is_default (outward_summary m.reach inside (intra_cost (without_stubs m) inside) (inter_cost (without_stubs m) backbone (intra_cost (without_stubs m) inside)) a) a)
      all false other = tt

      at_border : (b : Bool) → b ≡ false → AllByRecursion (λ (o : Offered). IsElsewhere o.router) (cond b (flat_map (offers_of (without_stubs m) is_default inside (intra_cost (without_stubs m) inside) (inter_cost (without_stubs m) backbone (intra_cost (without_stubs m) inside))) (filter is_outside (open_areas m.areas))) [])
      at_border true e = absurd (cc)
      at_border false e = tt

      by : (b : Bool) → (m.router == r) ≡ b → AllByRecursion (λ (o : Offered). IsElsewhere o.router) (outward_offers is_default inside backbone (without_stubs m))
      by true e = at_border (is_border (open_areas m.areas)) (ap (λ areas. is_border (open_areas areas)) (its ∙ ap (router_areas net) (eqb-true m.router r e) ∙ no_areas))
      by false e = all (is_border (open_areas m.areas)) (eqb-false m.router r e)

  all_outward : (is_default : Bool) (inside backbone : List Offered) (routers : List OspfRouter) → AllByRecursion HasItsAreas routers → AllByRecursion (λ (o : Offered). IsElsewhere o.router) (outward_summaries (map without_stubs routers) is_default inside backbone)
  all_outward is_default inside backbone [] its = tt
  all_outward is_default inside backbone (m ∷ ms) its =
      all_joined (λ (o : Offered). IsElsewhere o.router) (outward_offers is_default inside backbone (without_stubs m)) (outward_summaries (map without_stubs ms) is_default inside backbone)
      (outward_elsewhere is_default inside backbone m its.0) (all_outward is_default inside backbone ms its.1)

  -- ---- its paths

  module _ (steps : List Step) (leaves : AllByRecursion (λ (x : Step). IsElsewhere x.out.router) steps) (routers : List OspfRouter) (its : AllByRecursion HasItsAreas routers) (m : OspfRouter) (here : IsOspfRouter net steps r m) where
    no_reach : (area s : ℕ) → IsElsewhere s → m.reach area s ≡ None
    no_reach = reaches_none steps leaves m.reach here.reach

    no_path : (s : ℕ) → boundary_path net routers m s ≡ None
    no_path s = by (m.router == s) refl
      where
        inside : List Offered
        inside = boundary_offers net s

        by : (b : Bool) → (m.router == s) ≡ b → cond b None (option_map (path_over s) (option_or (best_way m.reach (boundary_offers net s)) (inter (without_stubs m) (summaries_of (map without_stubs routers) false (boundary_offers net s))))) ≡ None
        by true e = refl
        by false e =
            let other : IsElsewhere s = λ same. eqb-false m.router s e (here.router ∙ sym same) in
            let first : best_way m.reach (boundary_offers net s) ≡ None = no_way m.reach no_reach (boundary_offers net s) (all_map (λ (o : Offered). IsElsewhere o.router) (λ (a : RouterArea). offer s a.area 0) (open_areas (router_areas net s)) (λ a _. other)) in
            let areas : is_in 0 (open_areas m.areas) ≡ false = ap (λ as'. is_in 0 (open_areas as')) (here.areas ∙ no_areas) in
            let out = outward_summaries (map without_stubs routers) false (boundary_offers net s) (backbone_summaries (map without_stubs routers) (boundary_offers net s)) in
            let then : inter (without_stubs m) (summaries_of (map without_stubs routers) false (boundary_offers net s)) ≡ None
            = ap (λ b. cond b (inter_in_backbone (without_stubs m) (backbone_summaries (map without_stubs routers) (boundary_offers net s))) (best_way m.reach out)) areas
            ∙ no_way m.reach no_reach out (all_outward false (boundary_offers net s) (backbone_summaries (map without_stubs routers) (boundary_offers net s)) routers its)
            in
            λ i. option_map (path_over s) (option_or (first i) (then i))

    no_paths : boundary_paths net routers m ≡ []
    no_paths = nothing_made (boundary_path net routers m) (boundary_routers net) (all_members (λ s. boundary_path net routers m s ≡ None) (boundary_routers net) (λ s _. no_path s))

  have_areas : (steps : List Step) (k : ℕ) (ms : List OspfRouter) → AreOspfRouters net steps k ms → AllByRecursion HasItsAreas ms
  have_areas steps k [] are = tt
  have_areas steps k (m ∷ ms) are = (are.0.areas ∙ ap (router_areas net) (sym are.0.router), have_areas steps (suc k) ms are.1)

  one_of : (steps : List Step) (k : ℕ) (ms : List OspfRouter) (i : ℕ) (m : OspfRouter) → AreOspfRouters net steps k ms → slice_get ms i ≡ Some m → IsOspfRouter net steps (k + i) m
  one_of steps k [] i m are e = absurd (cc)
  one_of steps k (n ∷ ms) zero m are e = let at : k ≡ k + 0 = omega arith in subst (λ j. IsOspfRouter net steps j m) at (subst (IsOspfRouter net steps k) (same_Some n m e) are.0)
  one_of steps k (n ∷ ms) (suc i) m are e = let at : suc k + i ≡ k + suc i = omega arith in subst (λ j. IsOspfRouter net steps j m) at (one_of steps (suc k) ms i m are.1 e)

  pub no_boundaries : (internal : Internal) → IsInternal net internal → boundaries_of internal r ≡ []
  no_boundaries internal is =
      ap (λ all. unwrap_or (slice_get all r) []) is.boundaries ∙ ap (λ o. unwrap_or o []) (slice_get-map (boundary_paths net is.routers) is.routers r) ∙ by (slice_get is.routers r) refl
    where
      by : (o : Option OspfRouter) → slice_get is.routers r ≡ o → unwrap_or (option_map (boundary_paths net is.routers) o) [] ≡ []
      by None e = refl
      by (Some m) e =
          no_paths (steps_of net internal.links) (none_leaves internal.links) is.routers (have_areas (steps_of net internal.links) 0 is.routers is.are_routers) m
          (let at : 0 + r ≡ r = omega arith in subst (λ j. IsOspfRouter net (steps_of net internal.links) j m) at (one_of (steps_of net internal.links) 0 is.routers r m is.are_routers e))
