-- Worked cases of routes at one address, each by computation.
use Rattle.std.specs.Prelude.{◌≡◌, [], ◌∷◌, refl}
use Rattle.rc_base.specs.Prefix.{default_prefix}
use Rattle.rc_route.specs.declared.route.Route.{Route}
use Rattle.rc_ospf.specs.Internal.{holding}
use Rattle.rc_ospf.specs.RouteRows.{prefix, route}
use Rattle.rc_ospf.specs.InterfaceRows.{ten}

abbrev subnet : Route
subnet = route (prefix 256 24) 2 []

abbrev host : Route
host = route (prefix 265 32) 3 []

abbrev default : Route
default = route default_prefix 4 []

-- an address in a subnet that has a host route: all three hold it
pub all_hold_the_host : holding (ten 265) (default ∷ subnet ∷ host ∷ []) ≡ default ∷ subnet ∷ host ∷ []
all_hold_the_host = refl

-- its neighbour is held by the subnet and the default route
pub two_hold_its_neighbour : holding (ten 266) (default ∷ subnet ∷ host ∷ []) ≡ default ∷ subnet ∷ []
two_hold_its_neighbour = refl

-- an address elsewhere by the default route alone
pub one_holds_another : holding (ten 600) (default ∷ subnet ∷ host ∷ []) ≡ default ∷ []
one_holds_another = refl
