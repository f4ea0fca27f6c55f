-- Files and networks as configurations give them: what every call that is given a network relies on.
--
-- What a type says by itself (a name its bytes, a number its width) is not said again.
use Rattle.std.specs.Prelude.{◌≡◌, ℕ, ◌≤◌, ◌<◌, List, All, length, IsSome, IfSome, Some}
use Rattle.std.specs.Ordering.{nat_cmp}
use Rattle.std.specs.Cmp.Lexicographic.{slice_cmp}
use Rattle.std.specs.List.Sorted.{IsStrictlySortedBy}
use Rattle.std.specs.Map.{keys_of}
use Rattle.std.specs.Option.{option_map}
use Rattle.rc_base.specs.declared.position.IfId.{IfId}
use Rattle.rc_base.specs.declared.position.Pos.{Pos}
use Rattle.rc_base.specs.declared.position.Pos.TheVariants.{Own, Entering}
use Rattle.rc_config.specs.declared.command.Command.{Command}
use Rattle.rc_config.specs.declared.command.Command.TheVariants.{Passed, Remark, Hostname, Interface, InterfaceLine, StaticRoute, ListLine, MapOpened, MapLine, OspfOpened, OspfLine, BgpOpened, BgpLine, FamilyOpened, OtherFamilyOpened, FamilyClosed}
use Rattle.rc_config.specs.declared.network.Network.{Network}
use Rattle.rc_config.specs.declared.router_text.RouterText.{RouterText}
use Rattle.rc_config.specs.declared.static_route.StaticRoute.{StaticRoute as Route}
use Rattle.rc_config.specs.Bgp.{IsAsn, IsLawfulBgp, IsLawfulBgpLine}
use Rattle.rc_config.specs.AccessList.{IsLawfulAccessList}
use Rattle.rc_config.specs.LawfulInterface.{IsLawfulInterface, IsLawfulInterfaceLine}
use Rattle.rc_config.specs.Lists.{FitsLists, IsLawfulListLine}
use Rattle.rc_config.specs.Members.{interfaces_of}
use Rattle.rc_config.specs.Ospf.{IsLawfulOspfLine, IsLawfulProcess, IsOspfNumber}
use Rattle.rc_config.specs.PrefixList.{IsLawfulList as IsLawfulPrefixList}
use Rattle.rc_config.specs.RouteMap.{IsLawfulMap, IsLawfulMapLine}

-- each interface is lawful under its name
abbrev pub HasLawfulInterfaces : RouterText → Type 0
HasLawfulInterfaces r = All (λ e. IsLawfulInterface e.0 e.1) r.interfaces

-- an administrative distance of a static route
abbrev pub IsDistance : ℕ → Type 0
IsDistance distance = (1 ≤ distance) × (distance ≤ 255)

-- each static route has a distance from 1 to 255
abbrev pub HasLawfulRoutes : RouterText → Type 0
HasLawfulRoutes r = All (λ (s : Route). IsDistance s.distance) r.static_routes

-- each access list and each prefix list has lawful lines by rising number, and each route map lawful entries by rising number
pub record HasLawfulLists (r : RouterText) : Type 0 where
  pub access_lists : All (λ e. IsLawfulAccessList e.1) r.lists.access_lists
  pub prefix_lists : All (λ e. IsLawfulPrefixList e.1) r.lists.prefix_lists
  pub route_maps : All (λ e. IsLawfulMap e.1) r.route_maps

-- the values of an OSPF process are in range
abbrev pub HasLawfulOspf : RouterText → Type 0
HasLawfulOspf r = IfSome r.ospf IsLawfulProcess

-- the values of a BGP process are in range, and its neighbours stand by address
abbrev pub HasLawfulBgp : RouterText → Type 0
HasLawfulBgp r = IfSome r.bgp IsLawfulBgp

-- a file's model with a host name, at most 256 interfaces, each lawful, static routes with distances from 1 to 255, lawful lists and
-- route maps, and a lawful OSPF process and a lawful BGP process where there is one
pub record IsLawfulFile (r : RouterText) : Type 0 where
  pub has_host : IsSome r.host
  pub few : length r.interfaces ≤ 256
  pub interfaces : HasLawfulInterfaces r
  pub static_routes : HasLawfulRoutes r
  pub lists : HasLawfulLists r
  pub ospf : HasLawfulOspf r
  pub bgp : HasLawfulBgp r

-- a command that keeps a file lawful: an address goes to an interface of a named type, a line of an access list is one of a list
-- of its kind, and values are in range
abbrev pub IsInRange : Command → Type 0
IsInRange Passed = Unit {0}
IsInRange Remark = Unit {0}
IsInRange (Hostname name line) = Unit {0}
IsInRange (Interface name line) = Unit {0}
IsInRange (InterfaceLine name line) = IsLawfulInterfaceLine name line
IsInRange (StaticRoute route) = IsDistance route.distance
IsInRange (ListLine name line) = IsLawfulListLine line
IsInRange (MapOpened name n action) = n ≤ 65535
IsInRange (MapLine name n line) = IsLawfulMapLine line
IsInRange (OspfOpened process) = IsOspfNumber process
IsInRange (OspfLine line) = IsLawfulOspfLine line
IsInRange (BgpOpened asn) = IsAsn asn
IsInRange (BgpLine line) = IsLawfulBgpLine line
IsInRange FamilyOpened = Unit {0}
IsInRange OtherFamilyOpened = Unit {0}
IsInRange FamilyClosed = Unit {0}

-- a command that the lists of a file have room for
abbrev pub FitsFile : RouterText → Command → Type 0
FitsFile r (ListLine name line) = FitsLists r.lists name line
FitsFile r Passed = Unit {0}
FitsFile r Remark = Unit {0}
FitsFile r (Hostname name line) = Unit {0}
FitsFile r (Interface name line) = Unit {0}
FitsFile r (InterfaceLine name line) = Unit {0}
FitsFile r (StaticRoute route) = Unit {0}
FitsFile r (MapOpened name n action) = Unit {0}
FitsFile r (MapLine name n line) = Unit {0}
FitsFile r (OspfOpened process) = Unit {0}
FitsFile r (OspfLine line) = Unit {0}
FitsFile r (BgpOpened asn) = Unit {0}
FitsFile r (BgpLine line) = Unit {0}
FitsFile r FamilyOpened = Unit {0}
FitsFile r OtherFamilyOpened = Unit {0}
FitsFile r FamilyClosed = Unit {0}

-- the model of a router stands under its own host name
abbrev pub IsNamed : List ℕ → RouterText → Type 0
IsNamed name r = option_map (λ h. h.name) r.host ≡ Some name

-- at most 512 routers, each a lawful file under its own host name, in byte order of these
pub record IsLawful (net : Network) : Type 0 where
  pub few : length net.routers ≤ 512
  pub in_order : IsStrictlySortedBy (slice_cmp nat_cmp) (keys_of net.routers)
  pub named : All (λ e. IsNamed e.0 e.1) net.routers
  pub each : All (λ e. IsLawfulFile e.1) net.routers

-- the index of a router of the network
abbrev pub IsRouter : Network → ℕ → Type 0
IsRouter net r = r < length net.routers

abbrev pub IsInterface : Network → IfId → Type 0
IsInterface net i = IsRouter net i.router × (i.index < length (interfaces_of net i.router))

-- a router of the network, or an interface of one
abbrev pub IsPosition : Network → Pos → Type 0
IsPosition net (Own r) = IsRouter net r
IsPosition net (Entering i) = IsInterface net i
