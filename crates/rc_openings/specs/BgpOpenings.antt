-- The openings of a line under `router bgp`.
use Rattle.std.specs.Prelude.{List, [], ◌∷◌, ◌++◌, codes}
use Rattle.rc_openings.specs.declared.form.Form.TheVariants.{Bgp}
use Rattle.rc_openings.specs.declared.form.BgpForm.TheVariants.{RouterId, MaximumPaths, MaximumPathsIbgp, Network, NeighborRemoteAs, NeighborUpdateSource, NeighborEbgpMultihop, NeighborNextHopSelf, NeighborShutdown, NeighborDefaultOriginate, NeighborActivate, NoNeighborActivate, NeighborSendCommunity, NeighborRouteMap, NeighborPrefixList, NeighborWeight, NeighborPeerGroup, NoDefaultIpv4Unicast, RedistributeConnected, RedistributeStatic, RedistributeOspf, AddressFamilyIpv4, AddressFamilyIpv6}
use Rattle.rc_openings.specs.Opening.{Row, form, refused, ignored}

-- with these begin the forms
unfoldable pub bgp_forms : List Row
bgp_forms =
    form (codes "bgp router-id") (Bgp RouterId)
    ∷ form (codes "maximum-paths") (Bgp MaximumPaths)
    ∷ form (codes "maximum-paths ibgp") (Bgp MaximumPathsIbgp)
    ∷ form (codes "network") (Bgp Network)
    ∷ form (codes "neighbor * remote-as") (Bgp NeighborRemoteAs)
    ∷ form (codes "neighbor * update-source") (Bgp NeighborUpdateSource)
    ∷ form (codes "neighbor * ebgp-multihop") (Bgp NeighborEbgpMultihop)
    ∷ form (codes "neighbor * next-hop-self") (Bgp NeighborNextHopSelf)
    ∷ form (codes "neighbor * shutdown") (Bgp NeighborShutdown)
    ∷ form (codes "neighbor * default-originate") (Bgp NeighborDefaultOriginate)
    ∷ form (codes "neighbor * activate") (Bgp NeighborActivate)
    ∷ form (codes "no neighbor * activate") (Bgp NoNeighborActivate)
    ∷ form (codes "neighbor * send-community") (Bgp NeighborSendCommunity)
    ∷ form (codes "neighbor * route-map") (Bgp NeighborRouteMap)
    ∷ form (codes "neighbor * prefix-list") (Bgp NeighborPrefixList)
    ∷ form (codes "neighbor * weight") (Bgp NeighborWeight)
    ∷ form (codes "neighbor * peer-group") (Bgp NeighborPeerGroup)
    ∷ form (codes "no bgp default ipv4-unicast") (Bgp NoDefaultIpv4Unicast)
    ∷ form (codes "redistribute connected") (Bgp RedistributeConnected)
    ∷ form (codes "redistribute static") (Bgp RedistributeStatic)
    ∷ form (codes "redistribute ospf") (Bgp RedistributeOspf)
    ∷ form (codes "address-family ipv4") (Bgp AddressFamilyIpv4)
    ∷ form (codes "address-family ipv4 unicast") (Bgp AddressFamilyIpv4)
    ∷ form (codes "address-family ipv6") (Bgp AddressFamilyIpv6)
    ∷ []

-- with these begin lines whose meaning is not modelled
unfoldable pub bgp_refused : List Row
bgp_refused =
    refused (codes "bgp")
    ∷ refused (codes "neighbor")
    ∷ refused (codes "no neighbor")
    ∷ refused (codes "aggregate-address")
    ∷ refused (codes "address-family")
    ∷ refused (codes "address-family ipv4 vrf")
    ∷ refused (codes "address-family ipv4 multicast")
    ∷ refused (codes "address-family ipv4 mdt")
    ∷ refused (codes "maximum-paths eibgp")
    ∷ refused (codes "distance")
    ∷ refused (codes "default-information")
    ∷ refused (codes "default-metric")
    ∷ refused (codes "redistribute")
    ∷ refused (codes "template")
    ∷ refused (codes "table-map")
    ∷ []

-- with these begin lines that do not matter
unfoldable pub bgp_ignored : List Row
bgp_ignored =
    ignored (codes "bgp") (codes "log-neighbor-changes graceful-restart deterministic-med")
    ++ ignored (codes "bgp bestpath") (codes "compare-routerid")
    ++ ignored (codes "") (codes "timers no exit")
    ++ ignored (codes "neighbor *") (codes "description timers password version soft-reconfiguration fall-over advertisement-interval")

unfoldable pub bgp : List Row
bgp = bgp_forms ++ bgp_refused ++ bgp_ignored
