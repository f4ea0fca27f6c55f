-- Resolving an address level by level: the address, then the gateways of its route, then those of theirs.
use Rattle.std.specs.Prelude.{ℕ, Bool, List, []}
use Rattle.std.specs.List.{filter_map, list_any}
use Rattle.std.specs.Option.{option_map_or}
use Rattle.rc_fib.specs.Entries.{gateway_of}
use Rattle.rc_fib.specs.Forwarding.{has_interface, longest}
use Rattle.rc_route.specs.declared.route.Hop.{Hop}
use Rattle.rc_route.specs.declared.route.Route.{Route}

-- the hops of the route of an address
abbrev pub first_hops : List Route → ℕ → List Hop
first_hops table a = option_map_or (λ (r : Route). r.hops) (longest table a) []

-- one of them names an interface
abbrev pub is_direct : List Route → ℕ → Bool
is_direct table a = list_any has_interface (first_hops table a)

-- the gateways among hops that name no interface
abbrev pub gateways : List Hop → List ℕ
gateways hops = filter_map gateway_of hops

abbrev pub gateways_of : List Route → ℕ → List ℕ
gateways_of table a = gateways (first_hops table a)
