-- The openings of a line with no indent.
use Rattle.std.specs.Prelude.{List, [], ◌∷◌, ◌++◌, codes}
use Rattle.rc_openings.specs.declared.form.Form.TheVariants.{General, AccessList, Policy, Ospf, Bgp}
use Rattle.rc_openings.specs.declared.form.AccessListForm.TheVariants.{Numbered, Standard, Extended}
use Rattle.rc_openings.specs.declared.form.BgpForm.TheVariants.{RouterBgp}
use Rattle.rc_openings.specs.declared.form.GeneralForm.TheVariants.{Hostname, Interface, StaticRoute}
use Rattle.rc_openings.specs.declared.form.OspfForm.TheVariants.{RouterOspf}
use Rattle.rc_openings.specs.declared.form.PolicyForm.TheVariants.{PrefixList, CommunityList, StandardCommunityList, RouteMap}
use Rattle.rc_openings.specs.Opening.{Row, form, refused, ignored}

-- with these begin the forms
unfoldable pub global_forms : List Row
global_forms =
    form (codes "hostname") (General Hostname)
    ∷ form (codes "interface") (General Interface)
    ∷ form (codes "access-list") (AccessList Numbered)
    ∷ form (codes "ip access-list standard") (AccessList Standard)
    ∷ form (codes "ip access-list extended") (AccessList Extended)
    ∷ form (codes "ip prefix-list") (Policy PrefixList)
    ∷ form (codes "ip community-list") (Policy CommunityList)
    ∷ form (codes "ip community-list standard") (Policy StandardCommunityList)
    ∷ form (codes "route-map") (Policy RouteMap)
    ∷ form (codes "ip route") (General StaticRoute)
    ∷ form (codes "router ospf") (Ospf RouterOspf)
    ∷ form (codes "router bgp") (Bgp RouterBgp)
    ∷ []

-- with these begin lines whose meaning is not modelled
unfoldable pub global_refused : List Row
global_refused =
    refused (codes "ip nat")
    ∷ refused (codes "ip vrf")
    ∷ refused (codes "vrf")
    ∷ refused (codes "ip local")
    ∷ refused (codes "ip default-network")
    ∷ refused (codes "ip route vrf")
    ∷ refused (codes "ip access-list")
    ∷ refused (codes "ip community-list expanded")
    ∷ refused (codes "router")
    ∷ refused (codes "mpls")
    ∷ refused (codes "track")
    ∷ refused (codes "object-group")
    ∷ refused (codes "time-range")
    ∷ refused (codes "zone")
    ∷ refused (codes "zone-pair")
    ∷ refused (codes "ip inspect")
    ∷ refused (codes "bridge")
    ∷ refused (codes "no ip routing")
    ∷ refused (codes "no ip classless")
    ∷ []

-- with these begin lines that do not matter
unfoldable pub global_ignored : List Row
global_ignored =
    ignored (codes "") (codes "version service boot-start-marker boot-end-marker boot enable username line ntp sntp")
    ++ ignored (codes "") (codes "snmp-server logging aaa clock memory memory-size mmi transceiver license redundancy archive")
    ++ ignored (codes "") (codes "scheduler control-plane mgcp multilink tacacs tacacs-server radius radius-server alias")
    ++ ignored (codes "") (codes "privilege cdp lldp spanning-tree vtp vlan crypto class-map policy-map parameter-map key ipv6")
    ++ ignored (codes "") (codes "login security process exception parser file platform hw-module card controller voice")
    ++ ignored (codes "") (codes "voice-card dial-peer diagnostic errdisable udld lacp port-channel mac arp call-home event flow")
    ++ ignored (codes "") (codes "monitor subscriber kron netconf restconf wsma sdm switch transport no end exit")
    ++ ignored (codes "") (codes "Building Current Using")
    ++ ignored (codes "ip") (codes "cef http ssh scp ftp tftp domain domain-name domain-lookup name-server host forward-protocol")
    ++ ignored (codes "ip") (codes "classless subnet-zero source-route tcp icmp options finger rcmd dhcp sla flow-export flow-cache")
    ++ ignored (codes "ip") (codes "multicast-routing mroute pim radius tacacs bgp-community routing default-gateway as-path")
    ++ ignored (codes "ip") (codes "extcommunity-list")
    ++ ignored (codes "ip prefix-list *") (codes "description")
    ++ ignored (codes "ip prefix-list") (codes "sequence-number")

unfoldable pub global : List Row
global = global_forms ++ global_refused ++ global_ignored
