-- The words of an access list that are values: protocols, ports and ICMP types, by number or by name.
use Rattle.std.specs.Prelude.{ℕ, Bool, ◌&&◌, List, Option, Some, None, if◌then◌else◌, is_none, codes}
use Rattle.std.specs.Option.{option_map}
use Rattle.std.specs.Str.{bytes_eq}
use Rattle.rc_openings.specs.Values.{at_most, begins_with_letter, number_of, number_within}
use Rattle.rc_config.specs.declared.access_list.ProtocolTest.{ProtocolTest}
use Rattle.rc_config.specs.declared.access_list.ProtocolTest.TheVariants as protocol
use Rattle.rc_gram_acl.specs.NumberName.{Row, icmp_type_names, number_named, protocol_names, port_names}

abbrev pub number_or_name : List Row → List ℕ → Option ℕ → Option ℕ
number_or_name rows word (Some n) = Some n
number_or_name rows word None = number_named rows word

-- the number that a word is or names, up to a limit
abbrev pub number_up_to : ℕ → List Row → List ℕ → Option ℕ
number_up_to limit rows word = at_most limit (number_or_name rows word (number_of word))

-- a port from 0 to 65535
abbrev pub port_of : List ℕ → Option ℕ
port_of word = number_up_to 65535 port_names word

-- `ip` is every protocol; any other word is one from 0 to 255
abbrev pub protocol_of : List ℕ → Option ProtocolTest
protocol_of word = if bytes_eq word (codes "ip") then Some protocol.Any else option_map protocol.Is (number_up_to 255 protocol_names word)

-- an ICMP type (RFC 792) by its number or its name
abbrev pub icmp_type_of : List ℕ → Option ℕ
icmp_type_of word = number_up_to 255 icmp_type_names word

-- the number of an ICMP type, or of a code
abbrev pub icmp_number_of : List ℕ → Option ℕ
icmp_number_of word = number_within 0 255 word

-- a name of no ICMP type that is known here
abbrev pub is_unknown_icmp_type : List ℕ → Bool
is_unknown_icmp_type word = begins_with_letter word && is_none (icmp_type_of word)

-- a name of no port that is known here
abbrev pub is_unknown_port : List ℕ → Bool
is_unknown_port word = begins_with_letter word && is_none (port_of word)
