-- All paths that a router originates.
use Rattle.std.specs.Prelude.{◌≡◌, ℕ, List, [], ◌∷◌}
use Rattle.std.specs.List.{AllByRecursion}
use Rattle.std.specs.Option.{option_map_or}
use Rattle.rc_base.specs.Prefix.{Cidr}
use Rattle.rc_config.specs.Members.{router_at}
use Rattle.rc_config.specs.declared.bgp.BgpProcess.{BgpProcess}
use Rattle.rc_config.specs.declared.network.Network.{Network}
use Rattle.rc_config.specs.declared.router_text.RouterText.{RouterText}
use Rattle.rc_route.specs.declared.path.BgpPath.{BgpPath}
use Rattle.rc_route.specs.declared.path.PathSource.TheVariants.{Connected, Static}
use Rattle.rc_route.specs.declared.route.Route.{Route}
use Rattle.rc_bgp.specs.Originating.{by_networks, metric_for}
use Rattle.rc_bgp.specs.Redistributing.{no_kinds, of_ospf, of_source, own_ospf_line}

-- those of a process: by lines `network`, then redistributed connected, static and OSPF routes; each in order of prefix
abbrev pub paths_of_process : Network → ℕ → RouterText → List Route → BgpProcess → List (List BgpPath)
paths_of_process net r file table process =
    by_networks r table process.networks
    ∷ of_source r file Connected no_kinds [] table process.redistributions.connected
    ∷ of_source r file Static no_kinds [] table process.redistributions.static_routes
    ∷ of_ospf net r file table (own_ospf_line file process)
    ∷ []

-- those of a router with this table; none without a process
abbrev pub own_paths : Network → List Route → ℕ → List (List BgpPath)
own_paths net table r = option_map_or (λ (file : RouterText). option_map_or (paths_of_process net r file table) file.bgp []) (router_at net r) []

-- two tables say the same for the prefixes of these lines `network`
abbrev pub SayAlike : List Route → List Route → List Cidr → Type 0
SayAlike t u networks = AllByRecursion (λ p. metric_for t p ≡ metric_for u p) networks
