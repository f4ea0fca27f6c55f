-- The headers that a router's table sends over a hop (RFC 1812 s.5.2.4.3), as recipes of trees.
use Rattle.std.specs.Prelude.{Bool, ◌&&◌, nat_lt, List, filter, map, flat_map}
use Rattle.std.specs.List.{list_any}
use Rattle.rc_base.specs.Lists.{in_order}
use Rattle.rc_base.specs.Prefix.{Cidr, covers}
use Rattle.rc_route.specs.Hops.{hop_cmp, same_hop}
use Rattle.rc_route.specs.declared.route.Hop.{Hop}
use Rattle.rc_fib.specs.Entry.{Entry}
use Rattle.rc_trees.specs.Recipes.{Recipe, union_of, without}
use Rattle.rc_trees.specs.Fields.{chain}

-- q is longer than p and inside it
abbrev pub is_within : Cidr → Cidr → Bool
is_within p q = nat_lt p.len q.len && covers p q

-- the longer prefixes of a table inside one
abbrev pub longer_within : List Entry → Cidr → List Cidr
longer_within fib p = filter (is_within p) (map (λ (e : Entry). e.prefix) fib)

-- the headers to the addresses of which a prefix of the table is the longest that holds them: its chain without those of the
-- longer prefixes inside it
unfoldable pub region : List Entry → Cidr → Recipe
region fib p = without chain (chain p) (longer_within fib p)

-- the route gives the hop
abbrev pub gives : Hop → Entry → Bool
gives x e = list_any (same_hop x) e.hops

-- the headers that the table sends over a hop: the regions of the routes that give it
unfoldable pub hop_set : List Entry → Hop → Recipe
hop_set fib x = union_of (λ (e : Entry). region fib e.prefix) (filter (gives x) fib)

-- the hops of a table, in their order, each once
abbrev pub hops_in : List Entry → List Hop
hops_in fib = in_order hop_cmp (flat_map (λ (e : Entry). e.hops) fib)
