-- The openings of a line under `interface`.
use Rattle.std.specs.Prelude.{List, [], ◌∷◌, ◌++◌, codes}
use Rattle.rc_openings.specs.declared.form.Form.TheVariants.{Interface}
use Rattle.rc_openings.specs.declared.form.InterfaceForm.TheVariants.{IpAddress, Shutdown, NoShutdown, Bandwidth, AccessGroup, OspfCost, OspfHelloInterval, OspfDeadInterval, OspfNetworkType, OspfNetworkBroadcast, OspfNetworkPointToPoint, OspfArea}
use Rattle.rc_openings.specs.Opening.{Row, form, refused, ignored}

-- with these begin the forms
unfoldable pub interface_forms : List Row
interface_forms =
    form (codes "ip address") (Interface IpAddress)
    ∷ form (codes "shutdown") (Interface Shutdown)
    ∷ form (codes "no shutdown") (Interface NoShutdown)
    ∷ form (codes "bandwidth") (Interface Bandwidth)
    ∷ form (codes "ip access-group") (Interface AccessGroup)
    ∷ form (codes "ip ospf cost") (Interface OspfCost)
    ∷ form (codes "ip ospf hello-interval") (Interface OspfHelloInterval)
    ∷ form (codes "ip ospf dead-interval") (Interface OspfDeadInterval)
    ∷ form (codes "ip ospf network") (Interface OspfNetworkType)
    ∷ form (codes "ip ospf network broadcast") (Interface OspfNetworkBroadcast)
    ∷ form (codes "ip ospf network point-to-point") (Interface OspfNetworkPointToPoint)
    ∷ form (codes "ip ospf * area") (Interface OspfArea)
    ∷ []

-- with these begin lines whose meaning is not modelled
unfoldable pub interface_refused : List Row
interface_refused =
    refused (codes "ip address dhcp")
    ∷ refused (codes "ip address negotiated")
    ∷ refused (codes "ip unnumbered")
    ∷ refused (codes "ip nat")
    ∷ refused (codes "ip policy")
    ∷ refused (codes "ip vrf")
    ∷ refused (codes "vrf")
    ∷ refused (codes "ip verify")
    ∷ refused (codes "ip inspect")
    ∷ refused (codes "zone-member")
    ∷ refused (codes "standby")
    ∷ refused (codes "vrrp")
    ∷ refused (codes "glbp")
    ∷ refused (codes "crypto map")
    ∷ refused (codes "switchport")
    ∷ refused (codes "tunnel")
    ∷ refused (codes "mpls")
    ∷ refused (codes "ip router")
    ∷ refused (codes "ip ospf")
    ∷ refused (codes "bridge-group")
    ∷ refused (codes "xconnect")
    ∷ refused (codes "backup")
    ∷ []

-- with these begin lines that do not matter
unfoldable pub interface_ignored : List Row
interface_ignored =
    ignored (codes "") (codes "description duplex speed negotiation media-type encapsulation clock keepalive mtu ipv6 cdp lldp")
    ++ ignored (codes "") (codes "load-interval service-policy channel-group arp logging snmp carrier-delay delay hold-queue")
    ++ ignored (codes "") (codes "tx-ring-limit fair-queue random-detect max-reserved-bandwidth spanning-tree storm-control udld")
    ++ ignored (codes "") (codes "power mls auto bfd ppp serial mop ntp lacp no exit")
    ++ ignored (codes "ip") (codes "mtu redirects unreachables proxy-arp tcp pim igmp flow route-cache helper-address nbar")
    ++ ignored (codes "ip") (codes "directed-broadcast virtual-reassembly accounting load-sharing")
    ++ ignored (codes "ip ospf") (codes "priority mtu-ignore bfd retransmit-interval transmit-delay flood-reduction")

unfoldable pub interface : List Row
interface = interface_forms ++ interface_refused ++ interface_ignored
