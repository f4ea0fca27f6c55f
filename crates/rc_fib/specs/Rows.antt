-- Worked cases of the definitions, each by computation.
use Rattle.std.specs.Prelude.{◌≡◌, ℕ, zero, suc, ◌+◌, ◌*◌, true, false, List, [], ◌∷◌, ◌++◌, Some, None, slice_get, refl}
use Rattle.rc_base.specs.declared.position.IfId.{IfId}
use Rattle.rc_route.specs.declared.route.Hop.{Hop}
use Rattle.rc_route.specs.declared.route.Hop.TheVariants.{Null, Dev, Via}
use Rattle.rc_route.specs.declared.route.Route.{Route}
use Rattle.rc_route.specs.declared.route.Source.TheVariants.{Static}
use Rattle.rc_fib.specs.Forwarding.{hops_within, hops_of, resolved, resolved_hops, resolved_prefix, resolves}

-- 10.0.m.n
abbrev address : ℕ → ℕ → ℕ
address m n = 10 * 16777216 + m * 256 + n

abbrev port : ℕ → IfId
port n = record { router = 3; index = n }

abbrev route : ℕ → ℕ → List Hop → Route
route network len hops = record { prefix = record { network = network; len = len }; source = Static; distance = 1; metric = 0; hops = hops }

-- 10.0.m.0/24
abbrev subnet : ℕ → List Hop → Route
subnet m hops = route (address m 0) 24 hops

-- by way of 10.0.m.1
abbrev via : ℕ → Hop
via m = Via (address m 1) None

abbrev over : ℕ → ℕ → Hop
over m n = Via (address m 1) (Some (port n))

-- ---- one look-up

pub default_route : hops_of (route 0 0 (Dev (port 0) ∷ []) ∷ []) (address 7 7) ≡ Dev (port 0) ∷ []
unfolding hops_within
default_route = refl

pub longest_prefix_wins : hops_of (route 0 0 (Dev (port 0) ∷ []) ∷ route (address 0 0) 16 (Dev (port 1) ∷ []) ∷ subnet 0 (Dev (port 2) ∷ []) ∷ []) (address 0 9) ≡ Dev (port 2) ∷ []
unfolding hops_within
longest_prefix_wins = refl

pub shorter_where_the_longer_does_not_hold : hops_of (route 0 0 (Dev (port 0) ∷ []) ∷ route (address 0 0) 16 (Dev (port 1) ∷ []) ∷ subnet 0 (Dev (port 2) ∷ []) ∷ []) (address 4 9) ≡ Dev (port 1) ∷ []
unfolding hops_within
shorter_where_the_longer_does_not_hold = refl

pub no_route : hops_of (subnet 0 (Dev (port 0) ∷ []) ∷ []) (address 1 1) ≡ []
unfolding hops_within
no_route = refl

-- ---- gateways

abbrev connected : Route
connected = subnet 0 (Dev (port 2) ∷ [])

-- a connected hop gets the gateway, one with a gateway of its own keeps it
pub recursive_over_connected : hops_of (connected ∷ subnet 1 (via 0 ∷ []) ∷ []) (address 1 9) ≡ over 0 2 ∷ []
unfolding hops_within
recursive_over_connected = refl

pub own_gateway_stays : hops_of (subnet 0 (over 8 2 ∷ []) ∷ subnet 1 (via 0 ∷ []) ∷ []) (address 1 9) ≡ over 8 2 ∷ []
unfolding hops_within
own_gateway_stays = refl

pub gateway_resolves_to_null : hops_of (subnet 0 (Null ∷ []) ∷ subnet 1 (via 0 ∷ []) ∷ []) (address 1 9) ≡ Null ∷ []
unfolding hops_within
gateway_resolves_to_null = refl

pub gateway_without_a_route : hops_of (subnet 1 (via 0 ∷ []) ∷ []) (address 1 9) ≡ []
unfolding hops_within
gateway_without_a_route = refl

-- a route is a way to its own gateway
pub gateway_in_its_own_prefix : hops_of (subnet 1 (via 1 ∷ []) ∷ []) (address 1 9) ≡ []
unfolding hops_within
gateway_in_its_own_prefix = refl

-- hops stand in their order
pub hops_in_order : hops_of (subnet 0 (Dev (port 2) ∷ Dev (port 5) ∷ []) ∷ subnet 1 (Null ∷ via 0 ∷ over 9 1 ∷ []) ∷ []) (address 1 9) ≡ Null ∷ over 0 2 ∷ over 0 5 ∷ over 9 1 ∷ []
unfolding hops_within
hops_in_order = refl

-- two ways to one hop count once, the first
pub repeats_count_once : hops_of (subnet 0 (over 9 4 ∷ []) ∷ subnet 1 (Dev (port 3) ∷ over 9 4 ∷ []) ∷ subnet 2 (via 0 ∷ via 1 ∷ []) ∷ []) (address 2 9) ≡ over 9 4 ∷ over 1 3 ∷ []
unfolding hops_within
repeats_count_once = refl

pub two_routes_through_each_other : hops_of (subnet 0 (via 1 ∷ []) ∷ subnet 1 (via 0 ∷ []) ∷ []) (address 0 9) ≡ []
unfolding hops_within
two_routes_through_each_other = refl

-- ---- so many gateways, each by way of the one before it

abbrev chain : ℕ → List Route
chain zero = connected ∷ []
chain (suc n) = chain n ++ subnet (suc n) (via n ∷ []) ∷ []

pub fifteen_gateways : hops_of (chain 15) (address 15 9) ≡ over 0 2 ∷ []
unfolding hops_within
fifteen_gateways = refl

pub sixteen_gateways : hops_of (chain 16) (address 16 9) ≡ []
unfolding hops_within
sixteen_gateways = refl

pub seventeen_gateways : hops_of (chain 17) (address 17 9) ≡ []
unfolding hops_within
seventeen_gateways = refl

-- ---- a prepared table

abbrev table : List Route
table = route 0 0 (via 1 ∷ []) ∷ subnet 0 (Null ∷ []) ∷ subnet 1 (Dev (port 6) ∷ []) ∷ []

pub prepared_hops : resolved_hops (resolved table) (address 5 5) ≡ over 1 6 ∷ []
unfolding hops_within
prepared_hops = refl

pub prepared_prefix : resolved_prefix (resolved table) (address 1 5) ≡ Some (record { network = address 1 0; len = 24 })
prepared_prefix = refl

pub no_prefix : resolved_prefix (resolved (connected ∷ [])) (address 1 5) ≡ None
no_prefix = refl

pub resolves_over_an_interface : resolves (resolved table) (address 5 5) ≡ true
unfolding hops_within
resolves_over_an_interface = refl

pub null_does_not_resolve : resolves (resolved table) (address 0 5) ≡ false
unfolding hops_within
null_does_not_resolve = refl

-- ---- the parts of a prepared table: a default route by way of 10.0.0.1, 10.0.0.0/8 to nowhere, 10.0.0.0/24 connected, and 10.0.1.0/24 by way of 10.0.0.9

abbrev ninth : Hop
ninth = Via (address 0 9) (Some (port 2))

abbrev nested : List Route
nested = route 0 0 (via 0 ∷ []) ∷ route (address 0 0) 8 (Null ∷ []) ∷ connected ∷ subnet 1 (Via (address 0 9) None ∷ []) ∷ []

-- an entry for each route, in order, each with one hop
pub an_entry_for_each : resolved nested
    ≡ record { prefix = record { network = 0; len = 0 }; hops = over 0 2 ∷ [] }
    ∷ record { prefix = record { network = address 0 0; len = 8 }; hops = Null ∷ [] }
    ∷ record { prefix = record { network = address 0 0; len = 24 }; hops = Dev (port 2) ∷ [] }
    ∷ record { prefix = record { network = address 1 0; len = 24 }; hops = ninth ∷ [] } ∷ []
unfolding hops_within
an_entry_for_each = refl

pub the_last_one : slice_get (resolved nested) 3 ≡ Some (record { prefix = record { network = address 1 0; len = 24 }; hops = ninth ∷ [] })
unfolding hops_within
the_last_one = refl

pub none_behind_it : slice_get (resolved nested) 4 ≡ None
none_behind_it = refl

pub through_the_connected_one : resolved_hops (resolved nested) (address 1 5) ≡ ninth ∷ []
unfolding hops_within
through_the_connected_one = refl

pub to_nowhere : resolved_hops (resolved nested) (address 2 5) ≡ Null ∷ []
unfolding hops_within
to_nowhere = refl

pub by_eight_bits : resolved_prefix (resolved nested) (address 2 5) ≡ Some (record { network = address 0 0; len = 8 })
by_eight_bits = refl

-- 192.168.0.1 by the default route, and 10.255.0.1 to nowhere
pub resolves_by_default : resolves (resolved nested) 3232235521 ≡ true
unfolding hops_within
resolves_by_default = refl

pub nowhere_does_not_resolve : resolves (resolved nested) 184483841 ≡ false
unfolding hops_within
nowhere_does_not_resolve = refl
