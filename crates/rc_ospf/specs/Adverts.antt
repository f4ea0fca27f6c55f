-- What the interfaces advertise (RFC 2328 s.12.4.1): the prefixes of their addresses, secondary ones too.
use Rattle.std.specs.Prelude.{ℕ, Bool, false, not, if◌then◌else◌, List, [], map, Option, Some}
use Rattle.std.specs.Option.{option_map_or}
use Rattle.rc_base.specs.Prefix.{Cidr, prefix_at}
use Rattle.rc_config.specs.Down.{prefix_of}
use Rattle.rc_config.specs.IfType.{type_of}
use Rattle.rc_config.specs.Interface.{declared_addresses}
use Rattle.rc_config.specs.Members.{interface_at}
use Rattle.rc_config.specs.declared.if_type.IfType.{IfType}
use Rattle.rc_config.specs.declared.if_type.IfType.TheVariants.{Loopback}
use Rattle.rc_config.specs.declared.interface.IfAddr.{IfAddr}
use Rattle.rc_config.specs.declared.interface.Interface.{Interface}
use Rattle.rc_config.specs.declared.network.Network.{Network}
use Rattle.rc_config.specs.declared.ospf.NetworkType.TheVariants.{PointToPoint}
use Rattle.rc_link_state.specs.Adjacency.{is_same_network}
use Rattle.rc_ospf_interfaces.specs.declared.interface.OspfInterface.{OspfInterface}
use Rattle.rc_ospf.specs.declared.offer.Advert.{Advert}

abbrev pub is_host_type : Option IfType → OspfInterface → Bool
is_host_type (Some Loopback) i = not (is_same_network i.network PointToPoint)
is_host_type _ i = false

-- a loopback's addresses are hosts, unless its network type is point-to-point
abbrev pub is_host : OspfInterface → List ℕ → Bool
is_host i name = is_host_type (type_of name) i

abbrev pub host_prefix : IfAddr → Cidr
host_prefix a = prefix_at a.addr 32

-- an address is advertised at the interface's cost, in its area
abbrev pub advert_of : OspfInterface → Bool → IfAddr → Advert
advert_of i as_host a = record { prefix = if as_host then host_prefix a else prefix_of a; offer = record { router = i.id.router; area = i.area; cost = i.cost } }

abbrev pub adverts_of_block : OspfInterface → List ℕ × Interface → List Advert
adverts_of_block i e = map (advert_of i (is_host i e.0)) (declared_addresses e.1)

abbrev pub adverts_of : Network → OspfInterface → List Advert
adverts_of net i = option_map_or (adverts_of_block i) (interface_at net i.id) []
