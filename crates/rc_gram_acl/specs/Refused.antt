-- The words that make a line of an access list one that isn't modelled, where it fits no row.
use Rattle.std.specs.Prelude.{ℕ, Bool, false, ◌||◌, ◌&&◌, ◌==◌, not, List, [], ◌∷◌, Option, Some, None, if◌then◌else◌, take, codes}
use Rattle.std.specs.List.{list_any}
use Rattle.rc_openings.specs.Words.{words_of, is_none_left}
use Rattle.rc_openings.specs.Part.{Part}
use Rattle.rc_config.specs.AccessList.{has_ports}
use Rattle.rc_config.specs.declared.access_list.AddressTest.{AddressTest}
use Rattle.rc_config.specs.declared.access_list.ProtocolTest.{ProtocolTest}
use Rattle.rc_config.specs.declared.access_list.ProtocolTest.TheVariants as proto
use Rattle.rc_gram_acl.specs.declared.ports.EndPoint.{EndPoint}
use Rattle.rc_gram_acl.specs.declared.ports.Operator.{Operator}
use Rattle.rc_gram_acl.specs.declared.ports.Operator.TheVariants.{Equal, NotEqual, Below, Above, Within}
use Rattle.rc_gram_acl.specs.declared.ports.Side.{Side}
use Rattle.rc_gram_acl.specs.declared.ports.Side.TheVariants.{Source, Destination}
use Rattle.rc_gram_acl.specs.Address.{address}
use Rattle.rc_gram_acl.specs.Further.{is_log}
use Rattle.rc_gram_acl.specs.Port.{operator_of, listed, end_point}
use Rattle.rc_openings.specs.Values.{begins_with_letter}
use Rattle.rc_gram_acl.specs.Values.{is_unknown_icmp_type, is_unknown_port, protocol_of}

-- these words anywhere behind the opening
unfoldable pub refused_words : List (List ℕ)
refused_words = words_of (codes "fragments dscp tos precedence time-range object-group ttl option reflect dynamic match-any match-all ack rst syn fin psh urg")

-- the words that stand for ports behind an operator
abbrev pub port_words : Operator → Side → List (List ℕ) → List (List ℕ)
port_words Equal side rest = listed side rest
port_words NotEqual side rest = listed side rest
port_words Below side rest = take 1 rest
port_words Above side rest = take 1 rest
port_words Within side rest = take 2 rest

abbrev pub unknown_behind : Option Operator → Side → List (List ℕ) → Bool
unknown_behind None side rest = false
unknown_behind (Some operator) side rest = list_any is_unknown_port (port_words operator side rest)

-- a name of no port stands where ports are named
abbrev pub has_unknown_port : Side → List (List ℕ) → Bool
has_unknown_port side [] = false
has_unknown_port side (w ∷ rest) = unknown_behind (operator_of w) side rest

-- a name of no ICMP type that is known here
abbrev pub is_refused_message : List ℕ → Bool
is_refused_message w = is_unknown_icmp_type w && not (is_log w)

-- behind the destination: in an icmp line names of no ICMP type, in an igmp line each word, in tcp and udp lines names of no port
abbrev pub has_refused_word : ProtocolTest → List (List ℕ) → Bool
has_refused_word proto.Any rest = false
has_refused_word (proto.Is n) rest =
    if n == 1 then list_any is_refused_message rest
    else (if n == 2 then not (is_none_left rest) else has_ports (proto.Is n) && has_unknown_port Destination rest)

-- behind the address of the source: a name of no port
abbrev pub refused_behind_source : ProtocolTest → Part AddressTest → Bool
refused_behind_source p None = false
refused_behind_source p (Some a) = has_ports p && has_unknown_port Source a.1

-- behind the address of the destination
abbrev pub refused_behind_destination : ProtocolTest → Part AddressTest → Bool
refused_behind_destination p None = false
refused_behind_destination p (Some a) = has_refused_word p a.1

-- behind the source, where it is one
abbrev pub refused_from_destination : ProtocolTest → Part EndPoint → Bool
refused_from_destination p None = false
refused_from_destination p (Some from) = refused_behind_destination p (address from.1)

abbrev pub refused_behind_protocol : ProtocolTest → List (List ℕ) → Bool
refused_behind_protocol p rest = refused_behind_source p (address rest) || refused_from_destination p (end_point p Source rest)

abbrev pub refused_by : Option ProtocolTest → List ℕ → List (List ℕ) → Bool
refused_by None w rest = begins_with_letter w
refused_by (Some p) w rest = refused_behind_protocol p rest

-- an extended line, read as far as it fits, names a protocol, a port or an ICMP type that isn't known here, or has a message of igmp
abbrev pub has_refused_place : List (List ℕ) → Bool
has_refused_place [] = false
has_refused_place (w ∷ rest) = refused_by (protocol_of w) w rest
