-- The hops of an address in a route table: the longest prefix that holds it (RFC 1812 s.5.2.4.3), and gateways resolved through the table.
use Rattle.std.specs.Prelude.{ℕ, zero, suc, Bool, true, false, List, [], ◌∷◌, map, Option, Some, None}
use Rattle.std.specs.List.{flat_map, list_any}
use Rattle.std.specs.Option.{option_map, option_map_or}
use Rattle.rc_base.specs.Lists.{first_seen}
use Rattle.rc_base.specs.Prefix.{Cidr}
use Rattle.rc_trie.specs.Tree.{longest_by}
use Rattle.rc_route.specs.Hops.{same_hop}
use Rattle.rc_route.specs.declared.route.Hop.{Hop}
use Rattle.rc_route.specs.declared.route.Hop.TheVariants.{Null, Dev, Via}
use Rattle.rc_route.specs.declared.route.Route.{Route}
use Rattle.rc_fib.specs.Entry.{Entry}

-- ---- the longest prefix

-- the route of an address: of those whose prefix holds it the one with the longest (RFC 1812 s.5.2.4.3)
abbrev pub longest : List Route → ℕ → Option Route
longest table a = longest_by (λ r. r.prefix) table a

-- ---- hops

-- a packet leaves over the hop: it names an interface
abbrev pub has_interface : Hop → Bool
has_interface Null = false
has_interface (Dev i) = true
has_interface (Via g None) = false
has_interface (Via g (Some i)) = true

-- a hop that says where a packet goes: nowhere, or over an interface
abbrev pub is_resolved : Hop → Bool
is_resolved Null = true
is_resolved (Dev i) = true
is_resolved (Via g None) = false
is_resolved (Via g (Some i)) = true

-- a hop that has an interface and no gateway gets this one
abbrev pub with_gateway : ℕ → Hop → Hop
with_gateway g (Dev i) = Via g (Some i)
with_gateway g Null = Null
with_gateway g (Via h i) = Via h i

-- ---- hops resolved, where a function gives the hops of each gateway

-- null and a hop with an interface give themselves, a gateway without an interface the hops of its address
abbrev pub resolve_hop : (ℕ → List Hop) → Hop → List Hop
resolve_hop hops Null = Null ∷ []
resolve_hop hops (Dev i) = Dev i ∷ []
resolve_hop hops (Via g (Some i)) = Via g (Some i) ∷ []
resolve_hop hops (Via g None) = map (with_gateway g) (hops g)

-- what the hops give in order, without repeats after the first
abbrev pub resolve_all : (ℕ → List Hop) → List Hop → List Hop
resolve_all hops xs = first_seen same_hop (flat_map (resolve_hop hops) xs)

-- the hops of an address, where at most so many look-ups follow one another
unfoldable pub hops_within : List Route → ℕ → ℕ → List Hop
hops_within table zero a = []
hops_within table (suc depth) a =
    option_map_or (λ (r : Route). resolve_all (hops_within table depth) r.hops) (longest table a) []

-- the hops of an address by its longest prefix: a gateway without an interface is looked up in turn, 16 look-ups deep
abbrev pub hops_of : List Route → ℕ → List Hop
hops_of table a = hops_within table 16 a

-- ---- a prepared table

-- each route's prefix with its hops, where after the route's own at most so many look-ups follow one another
abbrev pub resolved_within : List Route → ℕ → List Entry
resolved_within table depth =
    map (λ (r : Route). record { prefix = r.prefix; hops = resolve_all (hops_within table depth) r.hops }) table

-- a table with its hops resolved: for each route the hops of its prefix
abbrev pub resolved : List Route → List Entry
resolved table = resolved_within table 15

-- the entry of an address
abbrev pub entry_of : List Entry → ℕ → Option Entry
entry_of entries a = longest_by (λ (e : Entry). e.prefix) entries a

-- the longest prefix of a resolved table that holds an address
abbrev pub resolved_prefix : List Entry → ℕ → Option Cidr
resolved_prefix entries a = option_map (λ (e : Entry). e.prefix) (entry_of entries a)

-- the hops of an address in a table whose hops are resolved
abbrev pub resolved_hops : List Entry → ℕ → List Hop
resolved_hops entries a = option_map_or (λ (e : Entry). e.hops) (entry_of entries a) []

-- an address resolves where some hop of it has an interface
abbrev pub resolves : List Entry → ℕ → Bool
resolves entries a = list_any has_interface (resolved_hops entries a)
