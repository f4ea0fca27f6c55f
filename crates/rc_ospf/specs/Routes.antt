-- The routes of a router inside and between areas (RFC 2328 s.16.1 and 16.2).
use Rattle.std.specs.Prelude.{ℕ, ◌^◌, ◌<◌, Bool, false, if◌then◌else◌, List, [], ◌∷◌, map, filter, Option, Some, None}
use Rattle.std.specs.List.{filter_map, flat_map, list_any}
use Rattle.std.specs.Option.{option_map, option_or}
use Rattle.rc_base.specs.Lists.{in_order}
use Rattle.rc_base.specs.Prefix.{Cidr, contains, prefix_cmp, same_prefix, default_prefix, is_default}
use Rattle.rc_config.specs.declared.network.Network.{Network}
use Rattle.rc_route.specs.Hops.{hop_cmp}
use Rattle.rc_route.specs.declared.route.Route.{Route}
use Rattle.rc_route.specs.declared.route.Source.{Source}
use Rattle.rc_route.specs.declared.route.Source.TheVariants.{Ospf, OspfIa}
use Rattle.rc_route.specs.Ways.{Way}
use Rattle.rc_ospf.specs.Adverts.{adverts_of}
use Rattle.rc_ospf.specs.Areas.{OspfRouter, is_offered_by, summaries_of, inter}
use Rattle.rc_ospf_interfaces.specs.Interfaces.{interfaces_at}
use Rattle.rc_ospf.specs.Offered.{Offered}
use Rattle.rc_ospf.specs.Ways.{best_way}
use Rattle.rc_ospf.specs.declared.grouping.Row.{Row}
use Rattle.rc_ospf.specs.declared.offer.Advert.{Advert}
use Rattle.rc_ospf.specs.declared.summaries.Summaries.{Summaries}

abbrev pub advert_prefix : Advert → Cidr
advert_prefix a = a.prefix

abbrev pub offers_at : Cidr → List Advert → List Offered
offers_at p adverts = map (λ (a : Advert). a.offer) (filter (λ (a : Advert). same_prefix p a.prefix) adverts)

-- a prefix with its offers, if it has any
abbrev pub offered_row : Cidr → List Offered → Option Row
offered_row p [] = None
offered_row p (o ∷ offers) = Some (record { prefix = p; offers = o ∷ offers })

-- each prefix that is advertised, by address, then length, with its offers in the order of the adverts
unfoldable pub offered_rows : List Advert → List Row
offered_rows adverts = filter_map (λ p. offered_row p (offers_at p adverts)) (in_order prefix_cmp (map advert_prefix adverts))

abbrev pub default_row : Row
default_row = record { prefix = default_prefix; offers = [] }

abbrev pub starts_with_default : List Row → Bool
starts_with_default [] = false
starts_with_default (row ∷ rows) = is_default row.prefix

-- the default route in front, where no interface advertises it: border routers send it into stub areas
abbrev pub with_default : List Row → List Row
with_default rows = if starts_with_default rows then rows else default_row ∷ rows

abbrev pub internal_route_over : Source → Cidr → Way ℕ → Route
internal_route_over source p w = record { prefix = p; source = source; distance = 110; metric = w.cost; hops = in_order hop_cmp w.hops }

-- those of some rows whose prefix holds an address
abbrev pub rows_holding : ℕ → List Row → List Row
rows_holding a rows = filter (λ (row : Row). contains row.prefix a) rows

-- all rows, or those of the address that is asked for
abbrev pub rows_asked : Option ℕ → List Row → List Row
rows_asked None rows = rows
rows_asked (Some a) rows = rows_holding a rows

-- its metric, with one from outside of the AS added (below 2^24), stays below 2^32
abbrev pub IsShortRoute : Route → Type 0
IsShortRoute route = route.metric < 2 ^ 27

-- inside areas before between areas, whatever they cost, and none to a prefix that the router advertises itself
abbrev pub internal_route_to : OspfRouter → Cidr → List Offered → Summaries → Option Route
internal_route_to m p inside summaries =
    if list_any (is_offered_by m.router) inside then None
    else option_or (option_map (internal_route_over Ospf p) (best_way m.reach inside)) (option_map (internal_route_over OspfIa p) (inter m summaries))

abbrev pub internal_route : List OspfRouter → OspfRouter → Row → Option Route
internal_route routers m row = internal_route_to m row.prefix row.offers (summaries_of routers (is_default row.prefix) row.offers)

-- the routes of a router inside and between areas, by address, then length
unfoldable pub internal_routes : List OspfRouter → List Advert → OspfRouter → List Route
internal_routes routers adverts m = filter_map (internal_route routers m) (with_default (offered_rows adverts))

-- the prefixes that a router advertises itself, by address, then length
abbrev pub own_prefixes : Network → ℕ → List Cidr
own_prefixes net r = in_order prefix_cmp (map advert_prefix (flat_map (adverts_of net) (interfaces_at net r)))
