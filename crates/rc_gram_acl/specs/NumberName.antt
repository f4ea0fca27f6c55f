-- The names of protocols, ports and ICMP types (IANA), and the numbers that they stand for.
use Rattle.std.specs.Prelude.{ℕ, List, [], ◌∷◌, Option, codes}
use Rattle.std.specs.List.{find}
use Rattle.std.specs.Option.{option_map}
use Rattle.std.specs.Str.{bytes_eq}
use Rattle.rc_gram_acl.specs.declared.number_name.NumberName.{NumberName}

-- a name and its number
pub record Row : Type 0 where
  pub name : List ℕ
  pub number : ℕ

-- what a row of the program says
abbrev pub row_of : NumberName → Row
row_of r = record { name = r.name.now; number = r.number }

abbrev pub row : List ℕ → ℕ → Row
row name number = record { name = name; number = number }

-- the number of the row with this name
abbrev pub number_named : List Row → List ℕ → Option ℕ
number_named rows word = option_map (λ r. r.number) (find (λ r. bytes_eq r.name word) rows)

-- the protocols (RFC 791 s.3.1, IANA protocol numbers)
unfoldable pub protocol_names : List Row
protocol_names =
    row (codes "icmp") 1
    ∷ row (codes "igmp") 2
    ∷ row (codes "tcp") 6
    ∷ row (codes "udp") 17
    ∷ row (codes "gre") 47
    ∷ row (codes "esp") 50
    ∷ row (codes "ahp") 51
    ∷ row (codes "eigrp") 88
    ∷ row (codes "ospf") 89
    ∷ row (codes "pim") 103
    ∷ []

-- the ports of tcp and udp alike (RFC 6335 s.6)
unfoldable pub port_names : List Row
port_names =
    row (codes "ftp-data") 20
    ∷ row (codes "ftp") 21
    ∷ row (codes "telnet") 23
    ∷ row (codes "smtp") 25
    ∷ row (codes "tacacs") 49
    ∷ row (codes "domain") 53
    ∷ row (codes "bootps") 67
    ∷ row (codes "bootpc") 68
    ∷ row (codes "tftp") 69
    ∷ row (codes "www") 80
    ∷ row (codes "pop3") 110
    ∷ row (codes "ntp") 123
    ∷ row (codes "snmp") 161
    ∷ row (codes "snmptrap") 162
    ∷ row (codes "bgp") 179
    ∷ row (codes "isakmp") 500
    ∷ row (codes "syslog") 514
    ∷ row (codes "echo") 7
    ∷ row (codes "discard") 9
    ∷ row (codes "daytime") 13
    ∷ row (codes "chargen") 19
    ∷ row (codes "time") 37
    ∷ row (codes "whois") 43
    ∷ row (codes "gopher") 70
    ∷ row (codes "finger") 79
    ∷ row (codes "sunrpc") 111
    ∷ row (codes "ident") 113
    ∷ row (codes "nntp") 119
    ∷ row (codes "netbios-ns") 137
    ∷ row (codes "netbios-dgm") 138
    ∷ row (codes "netbios-ss") 139
    ∷ row (codes "irc") 194
    ∷ row (codes "exec") 512
    ∷ row (codes "login") 513
    ∷ row (codes "cmd") 514
    ∷ row (codes "lpd") 515
    ∷ row (codes "rip") 520
    ∷ row (codes "uucp") 540
    ∷ row (codes "non500-isakmp") 4500
    ∷ []

-- the types of ICMP messages that have names here (RFC 792)
unfoldable pub icmp_type_names : List Row
icmp_type_names = row (codes "echo-reply") 0 ∷ row (codes "unreachable") 3 ∷ row (codes "echo") 8 ∷ row (codes "time-exceeded") 11 ∷ []
