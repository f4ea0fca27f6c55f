-- The table of a router that reads no table.
use Rattle.std.specs.Prelude.{ℕ, List, [], ◌++◌}
use Rattle.std.specs.Option.{option_map_or}
use Rattle.rc_config.specs.declared.network.Network.{Network}
use Rattle.rc_config.specs.declared.router_text.RouterText.{RouterText}
use Rattle.rc_config.specs.Members.{router_at}
use Rattle.rc_rib.specs.Best.{best_routes}
use Rattle.rc_rib.specs.Connected.{connected}
use Rattle.rc_route.specs.declared.route.Route.{Route}

-- its connected routes and these by OSPF: of two for one prefix the preferred one
abbrev pub lone_table : Network → ℕ → List Route → List Route
lone_table net r routes = option_map_or (λ (file : RouterText). best_routes (connected r file.interfaces ++ routes)) (router_at net r) []
