-- The connected routes of a router, from the interfaces of its file.
use Rattle.std.specs.Prelude.{ℕ, List, [], map, length, slice_get, filter}
use Rattle.std.specs.List.{list_any, flat_map, range_with_len}
use Rattle.std.specs.Option.{option_map_or}
use Rattle.rc_base.specs.Lists.{in_order}
use Rattle.rc_base.specs.Prefix.{Cidr, prefix_cmp, same_prefix}
use Rattle.rc_config.specs.Down.{Entries, prefixes_of}
use Rattle.rc_route.specs.declared.route.Hop.{Hop}
use Rattle.rc_route.specs.declared.route.Hop.TheVariants.{Dev}
use Rattle.rc_route.specs.declared.route.Route.{Route}
use Rattle.rc_route.specs.declared.route.Source.TheVariants.{Connected}

-- the prefixes of the interface at an index
abbrev pub prefixes_at : Entries → ℕ → List Cidr
prefixes_at entries index = option_map_or (prefixes_of entries) (slice_get entries index) []

-- the indexes of all interfaces, in the order of declaration
abbrev pub indexes : Entries → List ℕ
indexes entries = range_with_len 0 (length entries)

-- the hop out of the interface at an index of router r
abbrev pub out_of : ℕ → ℕ → Hop
out_of r index = Dev (record { router = r; index = index })

-- the connected route of a prefix over the interfaces at these indexes
abbrev pub connected_route_over : ℕ → Cidr → List ℕ → Route
connected_route_over r p interfaces = record { prefix = p; source = Connected; distance = 0; metric = 0; hops = map (out_of r) interfaces }

-- the route of a prefix: over all the interfaces that have it
abbrev pub route_of : ℕ → Entries → Cidr → Route
route_of r entries p = connected_route_over r p (filter (λ index. list_any (same_prefix p) (prefixes_at entries index)) (indexes entries))

-- a route for each prefix of an interface that is up, by address, then length
unfoldable pub connected : ℕ → Entries → List Route
connected r entries = map (route_of r entries) (in_order prefix_cmp (flat_map (prefixes_at entries) (indexes entries)))
