-- Worked cases of static routes and of the best routes, each by computation.
use Rattle.std.specs.Prelude.{◌≡◌, ℕ, ◌+◌, ◌*◌, true, List, [], ◌∷◌, Some, None, codes, refl}
use Rattle.rc_base.specs.Prefix.{Cidr, prefix_at}
use Rattle.rc_base.specs.declared.position.IfId.{IfId}
use Rattle.rc_config.specs.Down.{Entries}
use Rattle.rc_config.specs.Interface.{fresh}
use Rattle.rc_config.specs.Update.{empty}
use Rattle.rc_config.specs.declared.router_text.RouterText.{RouterText}
use Rattle.rc_config.specs.declared.static_route.StaticRoute.{StaticRoute}
use Rattle.rc_config.specs.declared.static_route.Target.{Target}
use Rattle.rc_config.specs.declared.static_route.Target.TheVariants as target
use Rattle.rc_fib.specs.Forwarding.{hops_within}
use Rattle.rc_rib.specs.Best.{best_routes}
use Rattle.rc_rib.specs.Connected.{connected, connected_route_over}
use Rattle.rc_rib.specs.Next.{table_after}
use Rattle.rc_rib.specs.Static.{static_routes}
use Rattle.rc_route.specs.declared.route.Hop.{Hop}
use Rattle.rc_route.specs.declared.route.Hop.TheVariants.{Null, Dev, Via}
use Rattle.rc_route.specs.declared.route.Route.{Route}
use Rattle.rc_route.specs.declared.route.Source.TheVariants.{Static}

-- 10.0.m.n, and 10.0.m.0/24
abbrev address : ℕ → ℕ → ℕ
address m n = 10 * 16777216 + m * 256 + n

abbrev subnet : ℕ → Cidr
subnet m = prefix_at (address m 0) 24

abbrev first : List ℕ
first = codes "Gi0/0"

abbrev second : List ℕ
second = codes "Gi0/1"

-- two interfaces: 10.0.1.1/24 and 10.0.2.1/24
abbrev interfaces : Entries
interfaces = (first, record fresh { primary = Some (record { addr = address 1 1; len = 24 }) }) ∷ (second, record fresh { primary = Some (record { addr = address 2 1; len = 24 }) }) ∷ []

abbrev file : List StaticRoute → RouterText
file lines = record empty { interfaces = interfaces; static_routes = lines }

abbrev line : Cidr → Target → ℕ → StaticRoute
line p t d = record { prefix = p; target = t; distance = d }

abbrev static : Cidr → ℕ → List Hop → Route
static p d hops = record { prefix = p; source = Static; distance = d; metric = 0; hops = hops }

-- an interface of router 7
abbrev interface : ℕ → IfId
interface n = record { router = 7; index = n }

-- the connected routes, which the previous table has
abbrev before : List Route
before = connected_route_over 7 (subnet 1) (0 ∷ []) ∷ connected_route_over 7 (subnet 2) (1 ∷ []) ∷ []

-- the next table, with a route for 10.0.9.0/24 behind the connected ones
abbrev Gives : List StaticRoute → List Route → Type 0
Gives lines routes = table_after 7 (file lines) [] [] before ≡ connected_route_over 7 (subnet 1) (0 ∷ []) ∷ connected_route_over 7 (subnet 2) (1 ∷ []) ∷ routes

pub no_lines : Gives [] []
unfolding connected static_routes best_routes
no_lines = refl

-- a next hop on a connected prefix
pub next_hop : Gives (line (subnet 9) (target.Via (address 1 2)) 1 ∷ []) (static (subnet 9) 1 (Via (address 1 2) None ∷ []) ∷ [])
unfolding connected static_routes best_routes hops_within
next_hop = refl

-- a next hop that nothing reaches
pub unreached : Gives (line (subnet 9) (target.Via (address 5 2)) 1 ∷ []) []
unfolding connected static_routes best_routes hops_within
unreached = refl

-- a next hop that the route's own prefix holds
pub own_prefix : table_after 7 (file (line (subnet 9) (target.Via (address 9 2)) 1 ∷ [])) [] [] (static (subnet 9) 1 (Dev (interface 0) ∷ []) ∷ []) ≡ before
unfolding connected static_routes best_routes hops_within
own_prefix = refl

-- Null0 is always active, also for a next hop that leads to it: that resolves to no interface
pub to_null : Gives (line (subnet 9) target.Null 1 ∷ []) (static (subnet 9) 1 (Null ∷ []) ∷ [])
unfolding connected static_routes best_routes hops_within
to_null = refl

pub over_null : table_after 7 (file (line (subnet 9) (target.Via (address 8 2)) 1 ∷ [])) [] [] (static (subnet 8) 1 (Null ∷ []) ∷ []) ≡ before
unfolding connected static_routes best_routes hops_within
over_null = refl

-- distance 255 is never used
pub never_used : Gives (line (subnet 9) target.Null 255 ∷ []) []
unfolding connected static_routes best_routes hops_within
never_used = refl

-- the least distance alone counts, wherever its line stands
pub least_alone : Gives (line (subnet 9) target.Null 5 ∷ line (subnet 9) (target.Via (address 1 2)) 2 ∷ line (subnet 9) (target.Via (address 1 3)) 7 ∷ []) (static (subnet 9) 2 (Via (address 1 2) None ∷ []) ∷ [])
unfolding connected static_routes best_routes hops_within
least_alone = refl

-- the least distance of an inactive line doesn't count
pub inactive_least : Gives (line (subnet 9) (target.Via (address 5 2)) 1 ∷ line (subnet 9) target.Null 5 ∷ []) (static (subnet 9) 5 (Null ∷ []) ∷ [])
unfolding connected static_routes best_routes hops_within
inactive_least = refl

-- hops stand in their order, each once: null, then without a gateway, then by gateway
pub hops_in_their_order : Gives (line (subnet 9) (target.Via (address 1 3)) 1 ∷ line (subnet 9) (target.Via (address 1 2)) 1 ∷ line (subnet 9) (target.ViaDev (address 1 2) second) 1 ∷ line (subnet 9) (target.Dev first) 1 ∷ line (subnet 9) (target.Via (address 1 2)) 1 ∷ line (subnet 9) target.Null 1 ∷ [])
    (static (subnet 9) 1 (Null ∷ Dev (interface 0) ∷ Via (address 1 2) None ∷ Via (address 1 2) (Some (interface 1)) ∷ Via (address 1 3) None ∷ []) ∷ [])
unfolding connected static_routes best_routes hops_within
hops_in_their_order = refl

-- a line over an interface that isn't declared
pub undeclared : Gives (line (subnet 9) (target.Dev (codes "Gi0/2")) 1 ∷ line (subnet 9) (target.ViaDev (address 1 2) (codes "Gi0/2")) 1 ∷ []) []
unfolding connected static_routes best_routes hops_within
undeclared = refl

-- a line over an interface that is shut, or whose parent is
abbrev shut : Entries
shut = (first, record fresh { shutdown = true }) ∷ (codes "Gi0/0.7", fresh) ∷ []

pub over_shut : table_after 7 (record empty { interfaces = shut; static_routes = line (subnet 9) (target.Dev first) 1 ∷ line (subnet 8) (target.Dev (codes "Gi0/0.7")) 1 ∷ [] }) [] [] [] ≡ []
unfolding connected static_routes best_routes hops_within
over_shut = refl

-- an interface needs no address
pub over_unnumbered : table_after 7 (record empty { interfaces = (first, fresh) ∷ []; static_routes = line (subnet 9) (target.Dev first) 1 ∷ [] }) [] [] [] ≡ static (subnet 9) 1 (Dev (interface 0) ∷ []) ∷ []
unfolding connected static_routes best_routes hops_within
over_unnumbered = refl

-- a connected route stays in place of a static one of its prefix
pub connected_wins : Gives (line (subnet 2) target.Null 1 ∷ []) []
unfolding connected static_routes best_routes hops_within
connected_wins = refl

-- routes stand by address, then length
pub by_prefix : Gives (line (prefix_at (address 9 0) 25) target.Null 1 ∷ line (subnet 9) target.Null 1 ∷ []) (static (subnet 9) 1 (Null ∷ []) ∷ static (prefix_at (address 9 0) 25) 1 (Null ∷ []) ∷ [])
unfolding connected static_routes best_routes hops_within
by_prefix = refl

-- a default route
pub default_route : table_after 7 (file (line (prefix_at 0 0) (target.Via (address 2 9)) 1 ∷ [])) [] [] before ≡ static (prefix_at 0 0) 1 (Via (address 2 9) None ∷ []) ∷ before
unfolding connected static_routes best_routes hops_within
default_route = refl
