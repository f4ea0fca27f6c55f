-- The static routes of a router, from the lines of its file and its previous table.
use Rattle.std.specs.Prelude.{ℕ, ◌==◌, Bool, true, false, not, ◌&&◌, if◌then◌else◌, List, [], ◌∷◌, map, filter, Option, Some, None}
use Rattle.std.specs.List.{filter_map}
use Rattle.std.specs.Option.{option_map, option_map_or}
use Rattle.std.specs.Ordering.{nat_cmp}
use Rattle.rc_base.specs.Lists.{in_order}
use Rattle.rc_base.specs.Prefix.{Cidr, prefix_cmp, same_prefix}
use Rattle.rc_base.specs.declared.position.IfId.{IfId}
use Rattle.rc_config.specs.Down.{Entries, is_down}
use Rattle.rc_config.specs.Named.{index_of}
use Rattle.rc_config.specs.declared.static_route.StaticRoute.{StaticRoute}
use Rattle.rc_config.specs.declared.static_route.Target.{Target}
use Rattle.rc_config.specs.declared.static_route.Target.TheVariants as target
use Rattle.rc_fib.specs.Forwarding.{resolves, resolved_prefix}
use Rattle.rc_fib.specs.Entry.{Entry}
use Rattle.rc_route.specs.Hops.{hop_cmp}
use Rattle.rc_route.specs.Ways.{Way, best_of}
use Rattle.rc_route.specs.declared.route.Hop.{Hop}
use Rattle.rc_route.specs.declared.route.Hop.TheVariants.{Null, Dev, Via}
use Rattle.rc_route.specs.declared.route.Route.{Route}
use Rattle.rc_route.specs.declared.route.Source.TheVariants.{Static}
use Rattle.rc_rib.specs.declared.active.ActiveLine.{ActiveLine}

-- the interface of a name, where router r declares it and it is up
abbrev pub up_interface : ℕ → Entries → List ℕ → Option IfId
up_interface r entries name = if is_down entries name then None else option_map (λ index. record { router = r; index = index }) (index_of entries name)

-- A next hop resolves in the previous table, by another route than one of this prefix: the longest prefix there that holds it is another one.
abbrev pub is_reachable : List Entry → Cidr → ℕ → Bool
is_reachable old p g = resolves old g && not (option_map_or (same_prefix p) (resolved_prefix old g) false)

-- The hop of a line that is active: to Null0 always, over an interface while that is up, to a next hop alone where the
-- previous table reaches it.
abbrev pub active_hop : ℕ → Entries → List Entry → Cidr → Target → Option Hop
active_hop r entries old p target.Null = Some Null
active_hop r entries old p (target.Dev name) = option_map Dev (up_interface r entries name)
active_hop r entries old p (target.ViaDev g name) = option_map (λ i. Via g (Some i)) (up_interface r entries name)
active_hop r entries old p (target.Via g) = if is_reachable old p g then Some (Via g None) else None

-- whether a line of this target is active is for the previous table to say: it names a next hop alone
abbrev pub asks_table : Target → Bool
asks_table target.Null = false
asks_table (target.Dev name) = false
asks_table (target.ViaDev g name) = false
asks_table (target.Via g) = true

-- a line that is active, with its hop; distance 255 is never used
abbrev pub active_line : ℕ → Entries → List Entry → StaticRoute → Option ActiveLine
active_line r entries old s = if s.distance == 255 then None else option_map (λ hop. record { prefix = s.prefix; distance = s.distance; hop = hop }) (active_hop r entries old s.prefix s.target)

abbrev pub active_lines : ℕ → Entries → List Entry → List StaticRoute → List ActiveLine
active_lines r entries old lines = filter_map (active_line r entries old) lines

-- the way of a line costs its administrative distance
abbrev pub line_way : ActiveLine → Way ℕ
line_way l = record { cost = l.distance; hops = l.hop ∷ [] }

abbrev pub static_over : Cidr → Way ℕ → Route
static_over p w = record { prefix = p; source = Static; distance = w.cost; metric = 0; hops = in_order hop_cmp w.hops }

-- the lines of a prefix
abbrev pub lines_at : Cidr → List ActiveLine → List ActiveLine
lines_at p lines = filter (λ (l : ActiveLine). same_prefix p l.prefix) lines

-- the static route of a prefix, from its active lines: over the hops of those of the least distance
abbrev pub static_route : Cidr → List ActiveLine → Option Route
static_route p lines = option_map (static_over p) (best_of nat_cmp (map line_way lines))

-- a route for each prefix of an active line, by address, then length
unfoldable pub static_routes : List ActiveLine → List Route
static_routes lines = filter_map (λ p. static_route p (lines_at p lines)) (in_order prefix_cmp (map (λ (l : ActiveLine). l.prefix) lines))
