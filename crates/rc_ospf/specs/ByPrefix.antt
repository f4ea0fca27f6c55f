-- Offers put under their prefixes, and ways taken one after another, as the code does it.
use Rattle.std.specs.Prelude.{ℕ, ◌+◌, ◌==◌, Bool, true, false, ◌&&◌, if◌then◌else◌, List, [], ◌∷◌, ◌++◌, Option, Some, None}
use Rattle.std.specs.List.{filter_map}
use Rattle.std.specs.Option.{option_map, option_map_or}
use Rattle.rc_base.specs.Prefix.{Cidr, is_default}
use Rattle.rc_route.specs.declared.route.Hop.{Hop}
use Rattle.rc_route.specs.declared.route.Route.{Route}
use Rattle.rc_route.specs.Ways.{Way}
use Rattle.rc_ospf.specs.Areas.{OspfRouter, is_offered_by, summaries_of}
use Rattle.rc_ospf.specs.Offered.{Offered}
use Rattle.rc_ospf.specs.Routes.{internal_route_to}
use Rattle.rc_link_state.specs.Walks.{LeastWalks, Reach}
use Rattle.rc_ospf.specs.Ways.{way_over}
use Rattle.rc_ospf.specs.declared.destination.Destination.{Destination}
use Rattle.rc_ospf.specs.declared.grouping.Row.{Row}
use Rattle.rc_ospf.specs.declared.offer.Advert.{Advert}
use Rattle.rc_ospf.specs.declared.summaries.Summaries.{Summaries}

abbrev pub with_offer : Option (List Offered) → Advert → List Offered
with_offer None a = a.offer ∷ []
with_offer (Some offers) a = offers ++ a.offer ∷ []

abbrev pub row_of : Cidr × List Offered → Row
row_of e = record { prefix = e.0; offers = e.1 }

-- the least walks to the router of an offer; those of router r itself may be left out
abbrev pub path_to_offer : Reach → Bool → ℕ → Offered → Option LeastWalks
path_to_offer reach others r o = if others && is_offered_by r o then None else reach o.area o.router

abbrev pub way_to_offer : Reach → Bool → ℕ → Offered → Option (Way ℕ)
way_to_offer reach others r o = option_map (λ (e : LeastWalks). way_over (e.cost + o.cost) e) (path_to_offer reach others r o)

-- the ways to some offers
abbrev pub ways_of : Reach → Bool → ℕ → List Offered → List (Way ℕ)
ways_of reach others r offers = filter_map (way_to_offer reach others r) offers

abbrev pub cost_to : Reach → Bool → ℕ → Offered → Option ℕ
cost_to reach others r o = option_map (λ (e : LeastWalks). e.cost + o.cost) (path_to_offer reach others r o)

-- the hops of the way to an offer, where it costs so much
abbrev pub hops_for : Reach → Bool → ℕ → ℕ → Offered → List Hop
hops_for reach others r cost o = option_map_or (λ (e : LeastWalks). if e.cost + o.cost == cost then e.hops else []) (path_to_offer reach others r o) []

-- the offers that border routers summarise: for a router in the backbone those sent into it, for another one those sent out of it
abbrev pub summary_offers : Bool → Summaries → List Offered
summary_offers true s = s.backbone
summary_offers false s = s.outward

-- a prefix with its summaries
abbrev pub destination_of : List OspfRouter → Row → Destination
destination_of routers row = record { prefix = row.prefix; inside = row.offers; summaries = summaries_of routers (is_default row.prefix) row.offers }

abbrev pub destination_route : OspfRouter → Destination → Option Route
destination_route m d = internal_route_to m d.prefix d.inside d.summaries
