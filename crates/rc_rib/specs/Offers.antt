-- Interfaces, candidates and static lines put under their prefixes one by one, as the code does it.
use Rattle.std.specs.Prelude.{ℕ, ◌==◌, if◌then◌else◌, List, [], ◌∷◌, ◌++◌, map, Option, Some, None, nat_lt}
use Rattle.std.specs.List.{range_with_len}
use Rattle.rc_base.specs.Lists.{in_order}
use Rattle.rc_base.specs.Prefix.{Cidr}
use Rattle.rc_base.specs.declared.position.IfId.{IfId}
use Rattle.rc_config.specs.Down.{Entries}
use Rattle.rc_route.specs.Hops.{hop_cmp}
use Rattle.rc_route.specs.declared.route.Hop.TheVariants.{Dev}
use Rattle.rc_route.specs.declared.route.Source.TheVariants.{Connected, Static}
use Rattle.rc_route.specs.declared.route.Route.{Route}
use Rattle.rc_rib.specs.Best.{better}
use Rattle.rc_rib.specs.Connected.{prefixes_at}
use Rattle.rc_rib.specs.declared.active.ActiveLine.{ActiveLine}
use Rattle.rc_rib.specs.declared.grouping.StaticHops.{StaticHops}

-- an interface of router r, by its index
abbrev pub id_at : ℕ → ℕ → IfId
id_at r index = record { router = r; index = index }

-- the interfaces of router r before an index
abbrev pub ids_before : ℕ → ℕ → List IfId
ids_before r index = map (id_at r) (range_with_len 0 index)

-- the prefixes of an interface of a router
abbrev pub prefixes_of_id : Entries → IfId → List Cidr
prefixes_of_id entries i = prefixes_at entries i.index

-- the connected route of a prefix over interfaces
abbrev pub route_of_members : Cidr → List IfId → Route
route_of_members p ids = record { prefix = p; source = Connected; distance = 0; metric = 0; hops = map Dev ids }

abbrev pub prefix_of : Route → Cidr
prefix_of r = r.prefix

-- the preferred route after one more offer
abbrev pub offered : Option Route → Route → Route
offered None y = y
offered (Some x) y = better x y

abbrev pub line_prefix : ActiveLine → Cidr
line_prefix l = l.prefix

-- the hops of the least distance after one more line, in the order of the lines
abbrev pub with_line : Option StaticHops → ActiveLine → StaticHops
with_line None l = record { distance = l.distance; hops = l.hop ∷ [] }
with_line (Some v) l = if nat_lt l.distance v.distance then record { distance = l.distance; hops = l.hop ∷ [] } else (if l.distance == v.distance then record { distance = v.distance; hops = v.hops ++ l.hop ∷ [] } else v)

-- the static route of a prefix over the hops of its lines
abbrev pub route_of_hops : Cidr → StaticHops → Route
route_of_hops p v = record { prefix = p; source = Static; distance = v.distance; metric = 0; hops = in_order hop_cmp v.hops }
