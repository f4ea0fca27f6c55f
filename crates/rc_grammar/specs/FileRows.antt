-- Whole files with the models that their lines make, by computation.
use Rattle.std.specs.Fmt.{digits}
use Rattle.std.specs.Prelude.{◌≡◌, ◌==◌, if◌then◌else◌, refl, ℕ, true, false, List, [], ◌∷◌, ◌++◌, replicate, map, Some, None, Ok, Err, codes, decimal}
use Rattle.rc_base.specs.Addr.{mask_len}
use Rattle.std.specs.List.{range_with_len}
use Rattle.rc_base.specs.declared.origin.Origin.TheVariants.{Igp}
use Rattle.rc_openings.specs.AccessListOpenings.{access_list, access_list_forms, access_list_refused, access_list_ignored}
use Rattle.rc_openings.specs.BgpOpenings.{bgp, bgp_forms, bgp_refused, bgp_ignored}
use Rattle.rc_openings.specs.GlobalOpenings.{global, global_forms, global_refused, global_ignored}
use Rattle.rc_openings.specs.InterfaceOpenings.{interface, interface_forms, interface_refused, interface_ignored}
use Rattle.rc_openings.specs.Opening.{decisive_row}
use Rattle.rc_openings.specs.OspfOpenings.{ospf, ospf_forms, ospf_refused, ospf_ignored}
use Rattle.rc_openings.specs.Reading.{decided}
use Rattle.rc_openings.specs.RouteMapOpenings.{route_map, route_map_forms, route_map_refused, route_map_ignored}
use Rattle.rc_openings.specs.Words.{words_of}
use Rattle.rc_openings.specs.declared.reading.LineRefusal.TheVariants.{BadValue, OutOfPlace}
use Rattle.rc_lines.specs.Banners.{is_banner}
use Rattle.rc_config.specs.AccessList.{any_address, host_address, standard_line}
use Rattle.rc_config.specs.declared.bgp.OspfRedistribution.{OspfRedistribution}
use Rattle.rc_config.specs.Bgp.{no_lines as no_bgp_lines, fresh as fresh_neighbor}
use Rattle.rc_config.specs.IfType.{type_of}
use Rattle.rc_config.specs.Interface.{fresh}
use Rattle.rc_config.specs.Lists.{no_lists}
use Rattle.rc_config.specs.Ospf.{no_settings}
use Rattle.rc_config.specs.Peering.{no_peering}
use Rattle.rc_config.specs.RouteMap.{fresh_entry}
use Rattle.rc_config.specs.Settings.{no_settings as no_neighbor_settings}
use Rattle.rc_config.specs.Update.{after, empty}
use Rattle.rc_config.specs.declared.access_list.AccessListKind.TheVariants.{Standard, Extended}
use Rattle.rc_config.specs.declared.access_list.Action.TheVariants.{Permit, Deny}
use Rattle.rc_config.specs.declared.access_list.FurtherTest.TheVariants as further
use Rattle.rc_config.specs.declared.access_list.PortTest.TheVariants as port
use Rattle.rc_config.specs.declared.access_list.ProtocolTest.TheVariants as protocol
use Rattle.rc_config.specs.declared.command.Command.TheVariants.{OspfLine}
use Rattle.rc_config.specs.declared.ospf.NetworkType.TheVariants.{PointToPoint}
use Rattle.rc_config.specs.declared.ospf.OspfLine.TheVariants.{ReferenceBandwidth}
use Rattle.rc_config.specs.declared.ospf.RedistributedSource.TheVariants as source
use Rattle.rc_config.specs.declared.route_map.Mention.{Mention}
use Rattle.rc_config.specs.declared.router_text.RouterText.{RouterText}
use Rattle.rc_config.specs.declared.sets.CommunityChange.TheVariants.{Add}
use Rattle.rc_config.specs.declared.sets.MetricType.TheVariants.{Type2}
use Rattle.rc_config.specs.declared.static_route.Target.TheVariants as target
use Rattle.rc_gram_acl.specs.NumberName.{protocol_names, port_names}
use Rattle.rc_gram_acl.specs.Refused.{refused_words as of_access_lists}
use Rattle.rc_gram_ospf.specs.Rows.{refused_words as of_ospf}
use Rattle.rc_gram_policy.specs.Refused.{refused_in_entry, refused_in_list}
use Rattle.rc_grammar.specs.Codes.{cause_code}
use Rattle.rc_grammar.specs.File.{file_of, is_one_too_many, read_by, step}
use Rattle.rc_grammar.specs.declared.refusal.FileCause.{FileCause}
use Rattle.rc_grammar.specs.declared.refusal.FileCause.TheVariants.{Line, LineTooLong, NoHostName, OpenBanner, TooManyInterfaces}

-- the model of a file
abbrev Makes : List ℕ → RouterText → Type 0
Makes text file = file_of text ≡ Ok file

-- how a file is refused
abbrev Refuses : List ℕ → ℕ → FileCause → Type 0
Refuses text line cause = file_of text ≡ Err (record { line = line; cause = cause })

-- the model of the file of the router X, whose host name is the first line
abbrev x : RouterText
x = record empty { host = Some (record { name = codes "X"; line = 1 }) }

abbrev named : List ℕ → ℕ → Mention
named name line = record { name = name; line = line }

-- the front of a running configuration as a router prints it: comments and a certificate are passed over
pub running :
    Makes (codes "Building configuration...\n\nCurrent configuration : 1492 bytes\n!\nversion 15.7\nno service password-encryption\n!\nhostname R1\n!\nenable secret 5 $1$abcd\nip cef\ncrypto pki certificate chain self\n certificate self-signed 01\n  30820240 308201A9\n  \tquit\n!\ninterface Embedded-Service-Engine0/0\n no ip address\n shutdown\n")
    (record empty { host = Some (record { name = codes "R1"; line = 8 }); interfaces = (codes "Embedded-Service-Engine0/0", record fresh { shutdown = true }) ∷ [] })
unfolding read_by step decided decisive_row global global_forms global_refused global_ignored interface interface_forms interface_refused interface_ignored access_list access_list_forms access_list_refused access_list_ignored route_map route_map_forms route_map_refused route_map_ignored ospf ospf_forms ospf_refused ospf_ignored bgp bgp_forms bgp_refused bgp_ignored words_of is_banner mask_len type_of protocol_names port_names of_access_lists refused_in_entry refused_in_list of_ospf digits
running = refl

-- of an interface the second address counts, and so does the last of `shutdown` and `no shutdown`
pub interface_of_a_running_one :
    Makes (codes "hostname X\ninterface GigabitEthernet0/0\n description LAN\n ip address 10.0.0.1 255.255.255.0\n ip address 10.0.0.2 255.255.255.0\n ip address 10.0.1.1 255.255.255.0 secondary\n duplex auto\n shutdown\n!\ninterface GigabitEthernet0/0\n no shutdown\n!\nend\n")
    (record x { interfaces = (codes "GigabitEthernet0/0", record fresh { primary = Some (record { addr = 0x0a000002; len = 24 }); secondary = record { addr = 0x0a000101; len = 24 } ∷ [] }) ∷ [] })
unfolding read_by step decided decisive_row global global_forms global_refused global_ignored interface interface_forms interface_refused interface_ignored access_list access_list_forms access_list_refused access_list_ignored route_map route_map_forms route_map_refused route_map_ignored ospf ospf_forms ospf_refused ospf_ignored bgp bgp_forms bgp_refused bgp_ignored words_of is_banner mask_len type_of protocol_names port_names of_access_lists refused_in_entry refused_in_list of_ospf digits
interface_of_a_running_one = refl

-- what stands in a banner is passed over
pub banner : Makes (codes "hostname X\nno ip http server\nbanner motd ^C\ninterface text in a banner\n^C\nline con 0\nline vty 0 4\n transport input ssh\n!\nend\n") x
unfolding read_by step decided decisive_row global global_forms global_refused global_ignored interface interface_forms interface_refused interface_ignored access_list access_list_forms access_list_refused access_list_ignored route_map route_map_forms route_map_refused route_map_ignored ospf ospf_forms ospf_refused ospf_ignored bgp bgp_forms bgp_refused bgp_ignored words_of is_banner mask_len type_of protocol_names port_names of_access_lists refused_in_entry refused_in_list of_ospf digits
banner = refl

-- static routes stand as written, the same one twice too; over an interface that isn't declared
pub static_routes :
    Makes (codes "interface Serial0\nhostname X\nip route 10.1.0.0 255.255.0.0 Serial9 200\nip route 10.1.0.0 255.255.0.0 Null0\nip route 10.1.0.0 255.255.0.0 Serial9 200 name again\n")
    (record empty {
      host = Some (record { name = codes "X"; line = 2 });
      interfaces = (codes "Serial0", fresh) ∷ [];
      static_routes =
          record { prefix = record { network = 0x0a010000; len = 16 }; target = target.Dev (codes "Serial9"); distance = 200 }
          ∷ record { prefix = record { network = 0x0a010000; len = 16 }; target = target.Null; distance = 1 }
          ∷ record { prefix = record { network = 0x0a010000; len = 16 }; target = target.Dev (codes "Serial9"); distance = 200 }
          ∷ [];
    })
unfolding read_by step decided decisive_row global global_forms global_refused global_ignored interface interface_forms interface_refused interface_ignored access_list access_list_forms access_list_refused access_list_ignored route_map route_map_forms route_map_refused route_map_ignored ospf ospf_forms ospf_refused ospf_ignored bgp bgp_forms bgp_refused bgp_ignored words_of is_banner mask_len type_of protocol_names port_names of_access_lists refused_in_entry refused_in_list of_ospf digits
static_routes = refl

-- of access groups the last one of each direction counts, and a list that is named isn't there by that
pub access_groups :
    Makes (codes "hostname X\ninterface Serial0\n ip access-group 5 in\n ip access-group WEB out\n ip access-group 6 in\n")
    (record x { interfaces = (codes "Serial0", record fresh { access_group_in = Some (codes "6"); access_group_out = Some (codes "WEB") }) ∷ [] })
unfolding read_by step decided decisive_row global global_forms global_refused global_ignored interface interface_forms interface_refused interface_ignored access_list access_list_forms access_list_refused access_list_ignored route_map route_map_forms route_map_refused route_map_ignored ospf ospf_forms ospf_refused ospf_ignored bgp bgp_forms bgp_refused bgp_ignored words_of is_banner mask_len type_of protocol_names port_names of_access_lists refused_in_entry refused_in_list of_ospf digits
access_groups = refl

-- access lists: lines without a number get the next ten, a remark makes no line and no list, 005 is the list 5, and a list is there by its opening alone
pub access_lists :
    Makes (codes "hostname X\nip access-list extended WEB\n permit tcp any host 10.0.0.1 eq www\n 5 deny icmp any any\n 20 remark nothing\n exit\naccess-list 5 remark nothing\naccess-list 5 permit 10.0.0.0 0.0.255.0\naccess-list 005 deny any\naccess-list 9 remark nothing\nip access-list standard EMPTY\nip access-list extended WEB\n deny ip any any\n")
    (record x {
      lists = record no_lists {
        access_lists = (
          codes "WEB",
          record {
            kind = Extended;
            lines =
                record { sequence = 5; action = Deny; protocol = protocol.Is 1; source = any_address; source_port = port.Any; destination = any_address; destination_port = port.Any; further = further.Any }
                ∷ record { sequence = 10; action = Permit; protocol = protocol.Is 6; source = any_address; source_port = port.Any; destination = host_address 0x0a000001; destination_port = port.Equal (80 ∷ []); further = further.Any }
                ∷ record { sequence = 20; action = Deny; protocol = protocol.Any; source = any_address; source_port = port.Any; destination = any_address; destination_port = port.Any; further = further.Any }
                ∷ [];
          },
        )
            ∷ (codes "5", record { kind = Standard; lines = standard_line 10 Permit (record { addr = 0x0a000000; wildcard = 0x0000ff00 }) ∷ standard_line 20 Deny any_address ∷ [] })
            ∷ (codes "EMPTY", record { kind = Standard; lines = [] })
            ∷ [];
      };
    })
unfolding read_by step decided decisive_row global global_forms global_refused global_ignored interface interface_forms interface_refused interface_ignored access_list access_list_forms access_list_refused access_list_ignored route_map route_map_forms route_map_refused route_map_ignored ospf ospf_forms ospf_refused ospf_ignored bgp bgp_forms bgp_refused bgp_ignored words_of is_banner mask_len type_of protocol_names port_names of_access_lists refused_in_entry refused_in_list of_ospf digits
access_lists = refl

-- prefix lists by number, also where a line is written later, with the next five where none is written; community lists in file order, and a numbered one by its number. Below a description lines are passed over.
pub policy_lists :
    Makes (codes "hostname X\nip prefix-list P seq 20 deny 10.1.2.3/16 ge 20 le 24\nip prefix-list P permit 0.0.0.0/0 le 32\nip prefix-list P seq 5 permit 10.0.0.0/08\nip prefix-list P description nothing\n passed over\nip prefix-list sequence-number\n passed over\nip community-list 7 permit 65000:1 no-export\nip community-list standard NAMED permit no-advertise\nip community-list standard 7 deny 65000:2\nip community-list 007 deny 5\n")
    (record x {
      lists = record no_lists {
        prefix_lists = (
          codes "P",
          record {
            lines =
                record { sequence = 5; action = Permit; prefix = record { network = 0x0a000000; len = 8 }; ge = None; le = None }
                ∷ record { sequence = 20; action = Deny; prefix = record { network = 0x0a010000; len = 16 }; ge = Some 20; le = Some 24 }
                ∷ record { sequence = 25; action = Permit; prefix = record { network = 0; len = 0 }; ge = None; le = Some 32 }
                ∷ [];
          },
        )
            ∷ [];
        community_lists = (
          codes "7",
          record {
            lines =
                record { action = Permit; communities = 4259840001 ∷ 0xffffff01 ∷ [] }
                ∷ record { action = Deny; communities = 4259840002 ∷ [] }
                ∷ record { action = Deny; communities = 5 ∷ [] }
                ∷ [];
          },
        )
            ∷ (codes "NAMED", record { lines = record { action = Permit; communities = 0xffffff02 ∷ [] } ∷ [] })
            ∷ [];
      };
    })
unfolding read_by step decided decisive_row global global_forms global_refused global_ignored interface interface_forms interface_refused interface_ignored access_list access_list_forms access_list_refused access_list_ignored route_map route_map_forms route_map_refused route_map_ignored ospf ospf_forms ospf_refused ospf_ignored bgp bgp_forms bgp_refused bgp_ignored words_of is_banner mask_len type_of protocol_names port_names of_access_lists refused_in_entry refused_in_list of_ospf digits
policy_lists = refl

-- route maps: an entry that is opened again has the later action and keeps its lines, of two values of one kind the later counts, and names stand with their lines
pub route_maps :
    Makes (codes "hostname X\nroute-map M permit 20\n match ip address 5 A\n description nothing\n set tag 5\n exit\nroute-map M deny 10\n match ip address prefix-list P\n match community 7 C\n set local-preference 200\n set metric 5\n set metric 6\n set metric-type type-1\n set weight 7\n set origin incomplete\n set community 65000:1 no-export additive\n set as-path prepend 65000 65001\nroute-map EMPTY permit 0\nroute-map M permit 10\n match ip address 5\n set metric-type type-2\n set origin igp\n")
    (record x {
      route_maps = (
        codes "M",
        record {
          entries =
              record {
                number = 10;
                action = Permit;
                access_lists = named (codes "5") 20 ∷ [];
                prefix_lists = named (codes "P") 8 ∷ [];
                community_lists = named (codes "7") 9 ∷ named (codes "C") 9 ∷ [];
                sets = record { local_preference = Some 200; metric = Some 6; metric_type = Some Type2; weight = Some 7; origin = Some Igp; communities = Add (4259840001 ∷ 0xffffff01 ∷ []); prepended = 65000 ∷ 65001 ∷ [] };
              }
              ∷ record (fresh_entry 20 Permit) { access_lists = named (codes "5") 3 ∷ named (codes "A") 3 ∷ [] }
              ∷ [];
        },
      )
          ∷ (codes "EMPTY", record { entries = fresh_entry 0 Permit ∷ [] })
          ∷ [];
    })
unfolding read_by step decided decisive_row global global_forms global_refused global_ignored interface interface_forms interface_refused interface_ignored access_list access_list_forms access_list_refused access_list_ignored route_map route_map_forms route_map_refused route_map_ignored ospf ospf_forms ospf_refused ospf_ignored bgp bgp_forms bgp_refused bgp_ignored words_of is_banner mask_len type_of protocol_names port_names of_access_lists refused_in_entry refused_in_list of_ospf digits
route_maps = refl

-- an OSPF process and its interfaces: of two lines about one area, one source or one setting the later counts, and a process that is opened again keeps its lines
pub ospf_process :
    Makes (codes "hostname X\nrouter ospf 7\n router-id 1.1.1.1\n network 10.0.0.0 0.0.0.255 area 0\n network 10.0.1.0 0.0.0.255 area 0.0.0.3\n passive-interface default\n no passive-interface Serial0/0\n auto-cost reference-bandwidth 1000\n area 0.0.0.3 stub no-summary\n area 3 stub\n redistribute static metric 5 subnets\n redistribute connected\n redistribute static route-map M\n default-information originate always\n log-adjacency-changes\ninterface Serial0/0\n ip ospf cost 10\n ip ospf cost 20\n ip ospf hello-interval 5\n ip ospf network broadcast\n ip ospf network point-to-point\n ip ospf priority 0\n ip ospf 7 area 0.0.1.0\nrouter ospf 7\n network 0.0.0.0 255.255.255.255 area 9\n")
    (record x {
      interfaces = (codes "Serial0/0", record fresh { ospf = record no_settings { cost = Some 20; hello = Some 5; network = Some PointToPoint; areas = record { process = 7; area = 256 } ∷ [] } }) ∷ [];
      ospf = Some (record {
        process = 7;
        router_id = Some 0x01010101;
        networks =
            record { address = 0x0a000000; wildcard = 255; area = 0 }
            ∷ record { address = 0x0a000100; wildcard = 255; area = 3 }
            ∷ record { address = 0; wildcard = 0xffffffff; area = 9 }
            ∷ [];
        passive_default = true;
        passive = (codes "Serial0/0", false) ∷ [];
        reference_bandwidth = 1000;
        stub_areas = record { area = 3; no_summary = false } ∷ [];
        redistributions =
            record { source = source.Connected; metric = None; metric_type = None; subnets = false; route_map = None }
            ∷ record { source = source.Static; metric = None; metric_type = None; subnets = false; route_map = Some (named (codes "M") 13) }
            ∷ [];
        default_information = Some (record { always = true; metric = None; metric_type = None });
      });
    })
unfolding read_by step decided decisive_row global global_forms global_refused global_ignored interface interface_forms interface_refused interface_ignored access_list access_list_forms access_list_refused access_list_ignored route_map route_map_forms route_map_refused route_map_ignored ospf ospf_forms ospf_refused ospf_ignored bgp bgp_forms bgp_refused bgp_ignored words_of is_banner mask_len type_of protocol_names port_names of_access_lists refused_in_entry refused_in_list of_ospf digits
ospf_process = refl

-- a BGP process: a network without a mask is that of its class, neighbours stand by address, other address families are passed over, the later AS of a neighbour counts, and a process that is opened again keeps its lines
pub bgp_process :
    Makes (codes "hostname X\nrouter bgp 65001\n bgp router-id 1.1.1.1\n bgp log-neighbor-changes\n network 10.9.1.7 mask 255.255.255.0\n network 172.16.5.9\n neighbor 10.0.0.2 remote-as 65001\n neighbor 10.0.0.1 remote-as 65002\n neighbor 2001:db8::1 remote-as 65003\n neighbor 10.0.0.2 remote-as 65000\n!\ninterface Loopback0\n ip address 2.2.2.2 255.255.255.255\nrouter bgp 65001\n neighbor 10.0.0.3 shutdown\n")
    (record x {
      interfaces = (codes "Loopback0", record fresh { primary = Some (record { addr = 0x02020202; len = 32 }) }) ∷ [];
      bgp = Some (record (no_bgp_lines 65001) {
        router_id = Some 0x01010101;
        networks = record { network = 0x0a090100; len = 24 } ∷ record { network = 0xac100000; len = 16 } ∷ [];
        neighbors =
            record (fresh_neighbor 0x0a000001) { settings = record no_neighbor_settings { remote_as = Some 65002 } }
            ∷ record (fresh_neighbor 0x0a000002) { settings = record no_neighbor_settings { remote_as = Some 65000 } }
            ∷ record (fresh_neighbor 0x0a000003) { settings = record no_neighbor_settings { is_shutdown = true } }
            ∷ [];
      });
    })
unfolding read_by step decided decisive_row global global_forms global_refused global_ignored interface interface_forms interface_refused interface_ignored access_list access_list_forms access_list_refused access_list_ignored route_map route_map_forms route_map_refused route_map_ignored ospf ospf_forms ospf_refused ospf_ignored bgp bgp_forms bgp_refused bgp_ignored words_of is_banner mask_len type_of protocol_names port_names of_access_lists refused_in_entry refused_in_list of_ospf digits
bgp_process = refl

-- the settings of a neighbour, and its activity; a description says nothing, and nor do extended communities
pub bgp_neighbor :
    Makes (codes "hostname X\nrouter bgp 65001\n neighbor 10.0.0.2 update-source Loopback0\n neighbor 10.0.0.1 ebgp-multihop 2\n neighbor 10.0.0.1 description towards Y\n neighbor 10.0.0.1 activate\n neighbor 10.0.0.1 route-map M in\n neighbor 10.0.0.1 prefix-list P out\n neighbor 10.0.0.1 weight 7\n neighbor 10.0.0.1 send-community\n neighbor 10.0.0.1 send-community extended\n")
    (record x {
      bgp = Some (record (no_bgp_lines 65001) {
        neighbors =
            record (fresh_neighbor 0x0a000001) { settings = record no_neighbor_settings { is_multihop = true; send_community = true; weight = Some 7; map_in = Some (named (codes "M") 7); list_out = Some (named (codes "P") 8) } }
            ∷ record (fresh_neighbor 0x0a000002) { settings = record no_neighbor_settings { update_source = Some (codes "Loopback0") } }
            ∷ [];
        peering = record no_peering { activities = record { address = 0x0a000001; is_active = true } ∷ [] };
      });
    })
unfolding read_by step decided decisive_row global global_forms global_refused global_ignored interface interface_forms interface_refused interface_ignored access_list access_list_forms access_list_refused access_list_ignored route_map route_map_forms route_map_refused route_map_ignored ospf ospf_forms ospf_refused ospf_ignored bgp bgp_forms bgp_refused bgp_ignored words_of is_banner mask_len type_of protocol_names port_names of_access_lists refused_in_entry refused_in_list of_ospf digits
bgp_neighbor = refl

-- what is redistributed, with a metric and a map, and external routes of type 1 alone
pub bgp_redistributions :
    Makes (codes "hostname X\nrouter bgp 65001\n redistribute static metric 5 route-map M\n redistribute ospf 1 match external 1\n")
    (record x {
      bgp = Some (record (no_bgp_lines 65001) {
        redistributions = record {
          connected = None;
          static_routes = Some (record { metric = Some 5; route_map = Some (named (codes "M") 3) });
          ospf = record { process = 1; kinds = record { internal = false; external_1 = true; external_2 = false }; redistribution = record { metric = None; route_map = None } } ∷ [];
        };
      });
    })
unfolding read_by step decided decisive_row global global_forms global_refused global_ignored interface interface_forms interface_refused interface_ignored access_list access_list_forms access_list_refused access_list_ignored route_map route_map_forms route_map_refused route_map_ignored ospf ospf_forms ospf_refused ospf_ignored bgp bgp_forms bgp_refused bgp_ignored words_of is_banner mask_len type_of protocol_names port_names of_access_lists refused_in_entry refused_in_list of_ospf digits
bgp_redistributions = refl

-- the lines of two OSPF processes are those of two sources: each keeps its own map, in whichever order they stand
abbrev of_process : ℕ → ℕ → OspfRedistribution
of_process process line = record {
  process = process;
  kinds = record { internal = true; external_1 = false; external_2 = false };
  redistribution = record { metric = None; route_map = Some (named (if process == 1 then codes "A" else codes "B") line) };
}

pub two_processes :
    Makes (codes "hostname X\nrouter bgp 65001\n redistribute ospf 1 route-map A\n redistribute ospf 2 route-map B\n")
    (record x { bgp = Some (record (no_bgp_lines 65001) { redistributions = record { connected = None; static_routes = None; ospf = of_process 1 3 ∷ of_process 2 4 ∷ [] } }) })
unfolding read_by step decided decisive_row global global_forms global_refused global_ignored interface interface_forms interface_refused interface_ignored access_list access_list_forms access_list_refused access_list_ignored route_map route_map_forms route_map_refused route_map_ignored ospf ospf_forms ospf_refused ospf_ignored bgp bgp_forms bgp_refused bgp_ignored words_of is_banner mask_len type_of protocol_names port_names of_access_lists refused_in_entry refused_in_list of_ospf digits
two_processes = refl

pub two_processes_in_turn :
    Makes (codes "hostname X\nrouter bgp 65001\n redistribute ospf 2 route-map B\n redistribute ospf 1 route-map A\n")
    (record x { bgp = Some (record (no_bgp_lines 65001) { redistributions = record { connected = None; static_routes = None; ospf = of_process 1 4 ∷ of_process 2 3 ∷ [] } }) })
unfolding read_by step decided decisive_row global global_forms global_refused global_ignored interface interface_forms interface_refused interface_ignored access_list access_list_forms access_list_refused access_list_ignored route_map route_map_forms route_map_refused route_map_ignored ospf ospf_forms ospf_refused ospf_ignored bgp bgp_forms bgp_refused bgp_ignored words_of is_banner mask_len type_of protocol_names port_names of_access_lists refused_in_entry refused_in_list of_ospf digits
two_processes_in_turn = refl

-- a line of a process says nothing where there is none
pub no_process : after empty (OspfLine (ReferenceBandwidth 5)) ≡ empty
no_process = refl

-- a last line without a line end counts
pub without_line_end :
    Refuses (codes "") 0 NoHostName
    × Makes (codes "hostname X") x
    × Refuses (codes "hostname X\nhostname X") 2 (Line BadValue)
    × Refuses (codes "hostname X\n shutdown") 2 (Line OutOfPlace)
    × Refuses (codes "hostname X\nbanner motd #\nfrobnicate") 2 OpenBanner
unfolding read_by step decided decisive_row global global_forms global_refused global_ignored interface interface_forms interface_refused interface_ignored access_list access_list_forms access_list_refused access_list_ignored route_map route_map_forms route_map_refused route_map_ignored ospf ospf_forms ospf_refused ospf_ignored bgp bgp_forms bgp_refused bgp_ignored words_of is_banner mask_len type_of protocol_names port_names of_access_lists refused_in_entry refused_in_list of_ospf digits
without_line_end = (refl, refl, refl, refl, refl)

-- a line has at most 4096 bytes, one that is passed over and one of a banner too
pub long_lines :
    Refuses (codes "banner motd #\n" ++ replicate 4096 33) 1 OpenBanner
    × Refuses (codes "banner motd #\n#\n" ++ replicate 4097 33) 3 LineTooLong
    × Refuses (codes "hostname X\n" ++ replicate 4097 33) 2 LineTooLong
    × Makes (codes "hostname X\n" ++ replicate 4096 33) x
unfolding read_by step decided decisive_row global global_forms global_refused global_ignored interface interface_forms interface_refused interface_ignored access_list access_list_forms access_list_refused access_list_ignored route_map route_map_forms route_map_refused route_map_ignored ospf ospf_forms ospf_refused ospf_ignored bgp bgp_forms bgp_refused bgp_ignored words_of is_banner mask_len type_of protocol_names port_names of_access_lists refused_in_entry refused_in_list of_ospf digits
long_lines = (refl, refl, refl, refl)

-- a file with so many interfaces
abbrev with_interfaces : ℕ → RouterText
with_interfaces count = record empty { interfaces = map (λ n. (codes "Serial" ++ decimal n, fresh)) (range_with_len 0 count) }

-- a file has at most 256 interfaces, and each of them may be opened again
pub most_interfaces :
    (is_one_too_many (with_interfaces 255) (Some (codes "Serial255")) ≡ false)
    × (is_one_too_many (with_interfaces 256) (Some (codes "Serial256")) ≡ true)
    × (is_one_too_many (with_interfaces 256) (Some (codes "Serial0")) ≡ false)
    × (is_one_too_many (with_interfaces 256) (Some (codes "Serial255")) ≡ false)
unfolding digits
most_interfaces = (refl, refl, refl, refl)

-- the numbers of the causes that no line has
pub numbers : (cause_code LineTooLong ≡ 5) × (cause_code NoHostName ≡ 6) × (cause_code OpenBanner ≡ 7) × (cause_code TooManyInterfaces ≡ 12)
numbers = (refl, refl, refl, refl)
