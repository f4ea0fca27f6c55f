-- The best ways by the least cost and the hops at it.
use Rattle.std.proofs.Common.{refl, ◌≡◌, ap, sym, ◌∙◌, ℕ, ◌+◌, ◌==◌, Bool, true, false, cond, List, [], ◌∷◌, ◌++◌, filter, Option, Some, None, MatchOption}
use Rattle.std.specs.Prelude.{not, ◌&&◌, is_some}
use Rattle.std.specs.List.{filter_map, cons_option, flat_map}
use Rattle.std.specs.Option.{option_map, option_map_or, option_or}
use Rattle.std.specs.Ordering.{eq_by_cmp, nat_cmp}
use Rattle.rc_route.specs.Ways.{Way, least_cost, hops_at, best_of}
use Rattle.rc_route.proofs.WayLaws.{same_number}
use Rattle.rc_ospf.specs.Areas.{OspfRouter, is_offered_by, of_others, inter}
use Rattle.rc_ospf.specs.Offered.{Offered}
use Rattle.rc_ospf.specs.RouterAreas.{is_in}
use Rattle.rc_link_state.specs.Tables.{cost_of as walks_cost}
use Rattle.rc_link_state.specs.Walks.{LeastWalks, Reach}
use Rattle.rc_ospf.specs.Ways.{way_over, way_to, best_way, cost_of}
use Rattle.rc_ospf.specs.ByPrefix.{path_to_offer, ways_of, cost_to, hops_for, summary_offers}
use Rattle.rc_ospf.specs.declared.summaries.Summaries.{Summaries}

-- the best of some ways has their least cost, and the hops of all that cost as much
pub best_by_cost : (ways : List (Way ℕ)) (o : Option ℕ) → o ≡ cost_of (best_of nat_cmp ways) →
    MatchOption o (best_of nat_cmp ways ≡ None) (λ c. best_of nat_cmp ways ≡ Some (record { cost = c; hops = hops_at nat_cmp c ways }))
best_by_cost [] None is = refl
best_by_cost [] (Some c) is = absurd (cc)
best_by_cost (w ∷ ws) None is = absurd (cc)
best_by_cost (w ∷ ws) (Some c) is = let least : least_cost nat_cmp w ws ≡ c = cc in ap (λ k. Some (record { cost = k; hops = hops_at nat_cmp k (w ∷ ws) })) least

module _ (reach : Reach) (others : Bool) (r : ℕ) where
  -- the hops of all offers are those of all ways
  pub hops_are : (cost : ℕ) (offers : List Offered) → flat_map (hops_for reach others r cost) offers ≡ hops_at nat_cmp cost (ways_of reach others r offers)
  hops_are cost [] = refl
  hops_are cost (o ∷ os) = by (path_to_offer reach others r o) (hops_are cost os)
    where
      at : (b : Bool) (e : LeastWalks) → flat_map (hops_for reach others r cost) os ≡ hops_at nat_cmp cost (ways_of reach others r os) →
          cond b e.hops [] ++ flat_map (hops_for reach others r cost) os
          ≡ flat_map (λ (w : Way ℕ). w.hops) (cond b (way_over (e.cost + o.cost) e ∷ filter (λ (w : Way ℕ). eq_by_cmp nat_cmp cost w.cost) (ways_of reach others r os)) (filter (λ (w : Way ℕ). eq_by_cmp nat_cmp cost w.cost) (ways_of reach others r os)))
      at true e rest = ap (λ hs. e.hops ++ hs) rest
      at false e rest = rest

      by : (p : Option LeastWalks) → flat_map (hops_for reach others r cost) os ≡ hops_at nat_cmp cost (ways_of reach others r os) →
          option_map_or (λ (e : LeastWalks). cond (e.cost + o.cost == cost) e.hops []) p [] ++ flat_map (hops_for reach others r cost) os
          ≡ hops_at nat_cmp cost (cons_option (option_map (λ (e : LeastWalks). way_over (e.cost + o.cost) e) p) (ways_of reach others r os))
      by None rest = rest
      by (Some e) rest =
          at (e.cost + o.cost == cost) e rest
          ∙ ap (λ b. flat_map (λ (w : Way ℕ). w.hops) (cond b (way_over (e.cost + o.cost) e ∷ filter (λ (w : Way ℕ). eq_by_cmp nat_cmp cost w.cost) (ways_of reach others r os)) (filter (λ (w : Way ℕ). eq_by_cmp nat_cmp cost w.cost) (ways_of reach others r os))))
          (sym (same_number cost (e.cost + o.cost)))

-- where the offers of the router itself are left out the others are left
pub ways_to_others : (reach : Reach) (r : ℕ) (offers : List Offered) → ways_of reach true r offers ≡ filter_map (way_to reach) (of_others r offers)
ways_to_others reach r [] = refl
ways_to_others reach r (o ∷ os) = by (is_offered_by r o) (ways_to_others reach r os)
  where
    by : (b : Bool) → ways_of reach true r os ≡ filter_map (way_to reach) (of_others r os) →
        cons_option (option_map (λ (e : LeastWalks). way_over (e.cost + o.cost) e) (cond b None (reach o.area o.router))) (ways_of reach true r os)
        ≡ filter_map (way_to reach) (cond (not b) (o ∷ of_others r os) (of_others r os))
    by true rest = rest
    by false rest = ap (cons_option (way_to reach o)) rest

-- the way between areas is the best to what is heard
pub inter_is : (m : OspfRouter) (s : Summaries) → best_of nat_cmp (ways_of m.reach (is_in 0 m.areas) m.router (summary_offers (is_in 0 m.areas) s)) ≡ inter m s
inter_is m s = by (is_in 0 m.areas)
  where
    by : (b : Bool) → best_of nat_cmp (ways_of m.reach b m.router (summary_offers b s)) ≡ cond b (best_way m.reach (of_others m.router s.backbone)) (best_way m.reach s.outward)
    by true = ap (best_of nat_cmp) (ways_to_others m.reach m.router s.backbone)
    by false = refl

pub over_either : {X Y : Type 0} (f : X → Y) (a b : Option X) → option_map f (option_or a b) ≡ option_or (option_map f a) (option_map f b)
over_either f None b = refl
over_either f (Some x) b = refl

pub inter_by : (m : OspfRouter) (s : Summaries) (b : Bool) (offers : List Offered) → b ≡ is_in 0 m.areas → offers ≡ summary_offers b s → best_of nat_cmp (ways_of m.reach b m.router offers) ≡ inter m s
inter_by m s b offers is are =
    ap (λ os. best_of nat_cmp (ways_of m.reach b m.router os)) are ∙ ap (λ x. best_of nat_cmp (ways_of m.reach x m.router (summary_offers x s))) is ∙ inter_is m s

-- ---- by the cost of the least walks

-- with the offer's cost it is the way's
pub cost_over : (p : Option LeastWalks) (o c : ℕ) → walks_cost p ≡ Some c → option_map (λ (e : LeastWalks). e.cost + o) p ≡ Some (c + o)
cost_over None o c is = absurd (cc)
cost_over (Some e) o c is = let same : e.cost ≡ c = cc in ap (λ k. Some (k + o)) same

-- ---- where no walks lead

pub no_cost : (reach : Reach) (others : Bool) (r : ℕ) (o : Offered) → is_some (reach o.area o.router) ≡ false → None ≡ cost_to reach others r o
no_cost reach others r o none = by (others && is_offered_by r o) (reach o.area o.router) none
  where
    by : (b : Bool) (p : Option LeastWalks) → is_some p ≡ false → None ≡ option_map (λ (e : LeastWalks). e.cost + o.cost) (cond b None p)
    by true p none = refl
    by false None none = refl
    by false (Some e) none = absurd (cc)

pub no_hops : (reach : Reach) (others : Bool) (r cost : ℕ) (o : Offered) → is_some (reach o.area o.router) ≡ false → hops_for reach others r cost o ≡ []
no_hops reach others r cost o none = by (others && is_offered_by r o) (reach o.area o.router) none
  where
    by : (b : Bool) (p : Option LeastWalks) → is_some p ≡ false → option_map_or (λ (e : LeastWalks). cond (e.cost + o.cost == cost) e.hops []) (cond b None p) [] ≡ []
    by true p none = refl
    by false None none = refl
    by false (Some e) none = absurd (cc)
