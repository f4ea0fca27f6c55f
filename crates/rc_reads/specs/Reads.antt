-- Which routers a router's next table and best paths are made from.
use Rattle.std.specs.Prelude.{◌≡◌, ℕ, ◌==◌, Bool, false, ◌&&◌, ◌||◌, List, map, filter, Option, is_some, slice_get}
use Rattle.std.specs.List.{AllByRecursion, flat_map, list_any}
use Rattle.std.specs.Option.{option_map_or}
use Rattle.rc_config.specs.Bgp.{address_of}
use Rattle.rc_config.specs.ByNumber.{has_number}
use Rattle.rc_config.specs.Interface.{declared_addresses}
use Rattle.rc_config.specs.Members.{interfaces_of, router_at, router_ids}
use Rattle.rc_config.specs.declared.bgp.BgpProcess.{BgpProcess}
use Rattle.rc_config.specs.declared.interface.IfAddr.{IfAddr}
use Rattle.rc_config.specs.declared.interface.Interface.{Interface}
use Rattle.rc_config.specs.declared.network.Network.{Network}
use Rattle.rc_config.specs.declared.router_text.RouterText.{RouterText}
use Rattle.rc_ospf.specs.Boundaries.{is_boundary}
use Rattle.rc_route.specs.declared.state.RouterState.{RouterState}

-- a `neighbor` statement names the address
abbrev pub named_by : Option BgpProcess → ℕ → Bool
named_by bgp a = option_map_or (λ (process : BgpProcess). has_number address_of a process.neighbors) bgp false

abbrev pub names_address : Network → ℕ → ℕ → Bool
names_address net r a = option_map_or (λ (file : RouterText). named_by file.bgp a) (router_at net r) false

-- the addresses that are declared on an interface, and on a router
abbrev pub addresses_of : Interface → List ℕ
addresses_of i = map (λ (a : IfAddr). a.addr) (declared_addresses i)

abbrev pub addresses_of_entry : List ℕ × Interface → List ℕ
addresses_of_entry e = addresses_of e.1

abbrev pub addresses_on : Network → ℕ → List ℕ
addresses_on net s = flat_map addresses_of_entry (interfaces_of net s)

-- a `neighbor` statement of one router names an address that is declared on another
abbrev pub names : Network → ℕ → ℕ → Bool
names net r s = list_any (names_address net r) (addresses_on net s)

abbrev pub runs_ospf : Network → ℕ → Bool
runs_ospf net r = option_map_or (λ (file : RouterText). is_some file.ospf) (router_at net r) false

-- a router reads itself, whom it names and who names it in BGP, and by OSPF whoever sends routes from outside of the AS
abbrev pub is_read : Network → ℕ → ℕ → Bool
is_read net r s = (s == r) || (names net r s || (names net s r || (runs_ospf net r && is_boundary net s)))

-- in the network's order
abbrev pub reads : Network → ℕ → List ℕ
reads net r = filter (is_read net r) (router_ids net)

-- two states tell the same of each of these routers
abbrev pub AreEqualAt : List ℕ → List RouterState → List RouterState → Type 0
AreEqualAt routers old now = AllByRecursion (λ s. slice_get old s ≡ slice_get now s) routers
