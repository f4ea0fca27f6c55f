-- Whether an address resolves in a table, and the metric of the route to it (RFC 4271 s.9.1.2.1).
use Rattle.std.specs.Prelude.{ℕ, Bool, if◌then◌else◌, List, Option, None}
use Rattle.std.specs.List.{list_any}
use Rattle.std.specs.Option.{option_map}
use Rattle.rc_fib.specs.Forwarding.{has_interface, hops_of, longest}
use Rattle.rc_route.specs.declared.route.Route.{Route}

-- some hop of the address, gateways resolved through the table, names an interface
abbrev pub reaches : List Route → ℕ → Bool
reaches table a = list_any has_interface (hops_of table a)

-- the metric of the longest prefix that holds an address which resolves
abbrev pub metric_to : List Route → ℕ → Option ℕ
metric_to table a = if reaches table a then option_map (λ (x : Route). x.metric) (longest table a) else None
