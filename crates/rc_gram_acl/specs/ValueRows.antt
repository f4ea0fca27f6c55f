-- Protocols and ports with what they are, by computation.
use Rattle.std.specs.Prelude.{◌≡◌, refl, false, true, [], ◌∷◌, map, Some, None, codes}
use Rattle.rc_openings.specs.Words.{words_of}
use Rattle.rc_config.specs.declared.access_list.ProtocolTest.TheVariants.{Any, Is}
use Rattle.rc_gram_acl.specs.NumberName.{icmp_type_names, protocol_names, port_names}
use Rattle.rc_gram_acl.specs.Values.{icmp_number_of, icmp_type_of, protocol_of, port_of, is_unknown_port}

-- each name of a protocol
pub protocols_by_name :
    map protocol_of (words_of (codes "ip icmp igmp tcp udp gre esp ahp eigrp ospf pim"))
    ≡ Some Any ∷ map (λ n. Some (Is n)) (1 ∷ 2 ∷ 6 ∷ 17 ∷ 47 ∷ 50 ∷ 51 ∷ 88 ∷ 89 ∷ 103 ∷ [])
unfolding words_of protocol_names
protocols_by_name = refl

-- each name of a port
pub ports_by_name :
    map port_of (words_of (codes "echo discard daytime chargen ftp-data ftp telnet smtp time whois tacacs domain bootps bootpc tftp gopher finger www pop3 sunrpc ident nntp ntp netbios-ns netbios-dgm netbios-ss snmp snmptrap bgp irc isakmp exec login cmd syslog lpd rip uucp non500-isakmp"))
    ≡ map Some (7 ∷ 9 ∷ 13 ∷ 19 ∷ 20 ∷ 21 ∷ 23 ∷ 25 ∷ 37 ∷ 43 ∷ 49 ∷ 53 ∷ 67 ∷ 68 ∷ 69 ∷ 70 ∷ 79 ∷ 80 ∷ 110 ∷ 111 ∷ 113 ∷ 119 ∷ 123 ∷ 137 ∷ 138 ∷ 139 ∷ 161 ∷ 162 ∷ 179 ∷ 194 ∷ 500 ∷ 512 ∷ 513 ∷ 514 ∷ 514 ∷ 515 ∷ 520 ∷ 540 ∷ 4500 ∷ [])
unfolding words_of port_names
ports_by_name = refl

-- numbers to 255, also with zeros in front; names in small letters alone
pub protocols :
    (protocol_of (codes "0") ≡ Some (Is 0))
    × (protocol_of (codes "255") ≡ Some (Is 255))
    × (protocol_of (codes "256") ≡ None)
    × (protocol_of (codes "006") ≡ Some (Is 6))
    × (protocol_of (codes "-1") ≡ None)
    × (protocol_of (codes "TCP") ≡ None)
    × (protocol_of (codes "tcpx") ≡ None)
    × (protocol_of (codes "telnet") ≡ None)
unfolding protocol_names
protocols = (refl, refl, refl, refl, refl, refl, refl, refl)

-- numbers to 65535; names in small letters alone
pub ports :
    (port_of (codes "0") ≡ Some 0)
    × (port_of (codes "65535") ≡ Some 65535)
    × (port_of (codes "65536") ≡ None)
    × (port_of (codes "0080") ≡ Some 80)
    × (port_of (codes "80x") ≡ None)
    × (port_of (codes "WWW") ≡ None)
    × (port_of (codes "tcp") ≡ None)
unfolding port_names
ports = (refl, refl, refl, refl, refl, refl, refl)

-- ICMP types have four names, and are numbers to 255; a code is a number
pub icmp_types :
    (map icmp_type_of (words_of (codes "echo-reply unreachable echo time-exceeded 0 255")) ≡ map Some (0 ∷ 3 ∷ 8 ∷ 11 ∷ 0 ∷ 255 ∷ []))
    × (map icmp_type_of (words_of (codes "256 redirect Echo echo-request")) ≡ None ∷ None ∷ None ∷ None ∷ [])
    × (map icmp_number_of (words_of (codes "0 255 256 echo")) ≡ Some 0 ∷ Some 255 ∷ None ∷ None ∷ [])
unfolding words_of icmp_type_names
icmp_types = (refl, refl, refl)

-- only a word that begins with a letter is a name
pub unknown_ports :
    (is_unknown_port (codes "foo") ≡ true)
    × (is_unknown_port (codes "any") ≡ true)
    × (is_unknown_port (codes "www") ≡ false)
    × (is_unknown_port (codes "65536") ≡ false)
    × (is_unknown_port (codes "8foo") ≡ false)
    × (is_unknown_port (codes "-") ≡ false)
unfolding port_names
unknown_ports = (refl, refl, refl, refl, refl, refl)
