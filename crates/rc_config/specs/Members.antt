-- What a network holds at an id or under a name.
--
-- Ids are indexes, counted from 0: a router's in the list of the network, an interface's in the list of its router.
use Rattle.std.specs.Prelude.{ℕ, List, [], ◌∷◌, length, map, Option, slice_get}
use Rattle.std.specs.List.{range_with_len, flat_map}
use Rattle.std.specs.Option.{option_map, option_map_or}
use Rattle.rc_base.specs.declared.position.IfId.{IfId}
use Rattle.rc_base.specs.declared.position.Pos.{Pos}
use Rattle.rc_base.specs.declared.position.Pos.TheVariants.{Own, Entering}
use Rattle.rc_config.specs.declared.interface.Interface.{Interface}
use Rattle.rc_config.specs.declared.router_text.RouterText.{RouterText}
use Rattle.rc_config.specs.declared.network.Network.{Network}
use Rattle.rc_config.specs.Named.{index_of}

-- all routers, in their order
abbrev pub router_ids : Network → List ℕ
router_ids net = range_with_len 0 (length net.routers)

-- the router at an index of a network
abbrev pub router_at : Network → ℕ → Option RouterText
router_at net r = option_map (λ e. e.1) (slice_get net.routers r)

-- the interfaces of a router with their names, as declared; none where there is no such router
abbrev pub interfaces_of : Network → ℕ → List (List ℕ × Interface)
interfaces_of net r = option_map_or (λ (text : RouterText). text.interfaces) (router_at net r) []

-- the interfaces of a router, as declared
abbrev pub interface_ids : Network → ℕ → List IfId
interface_ids net r = map (λ n. record { router = r; index = n }) (range_with_len 0 (length (interfaces_of net r)))

-- the interface at an index of a router: its name and what its block says
abbrev pub interface_at : Network → IfId → Option (List ℕ × Interface)
interface_at net i = slice_get (interfaces_of net i.router) i.index

-- all interfaces, in position order: by router, then as declared
abbrev pub all_interfaces : Network → List IfId
all_interfaces net = flat_map (interface_ids net) (router_ids net)

-- all positions, in their order: by router, its own position first, then its interfaces as declared
abbrev pub positions : Network → List Pos
positions net = flat_map (λ r. Own r ∷ map Entering (interface_ids net r)) (router_ids net)

-- the router of a host name
abbrev pub router_named : Network → List ℕ → Option ℕ
router_named net name = index_of net.routers name

-- the interface of a router that has this name
abbrev pub interface_named : Network → ℕ → List ℕ → Option IfId
interface_named net r name = option_map (λ n. record { router = r; index = n }) (index_of (interfaces_of net r) name)
