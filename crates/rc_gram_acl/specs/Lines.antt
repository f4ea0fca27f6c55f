-- The lines of access lists, by their words behind `permit` or `deny`: what they test.
use Rattle.std.specs.Prelude.{ℕ, Bool, true, false, List, [], ◌∷◌, Option, Some, None, if◌then◌else◌, codes}
use Rattle.std.specs.Option.{option_map}
use Rattle.std.specs.Str.{bytes_eq}
use Rattle.rc_openings.specs.Part.{Part, and_then, before}
use Rattle.rc_config.specs.AccessList.{any_address, IsLawfulLine, IsSequence}
use Rattle.rc_config.specs.declared.access_list.AccessListKind.{AccessListKind}
use Rattle.rc_config.specs.declared.access_list.Action.{Action}
use Rattle.rc_config.specs.declared.access_list.AddressTest.{AddressTest}
use Rattle.rc_config.specs.declared.access_list.AccessListLine.{AccessListLine}
use Rattle.rc_config.specs.declared.access_list.FurtherTest.TheVariants as further_test
use Rattle.rc_config.specs.declared.access_list.PortTest.TheVariants as port
use Rattle.rc_config.specs.declared.access_list.ProtocolTest.{ProtocolTest}
use Rattle.rc_config.specs.declared.access_list.ProtocolTest.TheVariants as proto
use Rattle.rc_gram_acl.specs.declared.lines.LineTests.{LineTests}
use Rattle.rc_gram_acl.specs.declared.ports.EndPoint.{EndPoint}
use Rattle.rc_gram_acl.specs.declared.ports.Side.TheVariants.{Source, Destination}
use Rattle.rc_gram_acl.specs.Address.{source}
use Rattle.rc_gram_acl.specs.Further.{further}
use Rattle.rc_gram_acl.specs.Port.{end_point}
use Rattle.rc_gram_acl.specs.Values.{protocol_of}

-- the line of these tests, with its number and its action
abbrev pub line_with : ℕ → Action → LineTests → AccessListLine
line_with n action t =
    record {
      sequence = n;
      action = action;
      protocol = t.protocol;
      source = t.source.addr;
      source_port = t.source.port;
      destination = t.destination.addr;
      destination_port = t.destination.port;
      further = t.further;
    }

-- each line of these tests is lawful in a list of this kind
abbrev pub MakeLawfulLines : AccessListKind → LineTests → Type 0
MakeLawfulLines kind t = (n : ℕ) (action : Action) → IsSequence n → IsLawfulLine kind (line_with n action t)

-- a standard line asks for the source alone
abbrev pub of_source : AddressTest → LineTests
of_source a = record { protocol = proto.Any; source = record { addr = a; port = port.Any }; destination = record { addr = any_address; port = port.Any }; further = further_test.Any }

-- a standard line ends here, or with `log`
abbrev pub ends_standard : List (List ℕ) → Bool
ends_standard [] = true
ends_standard (w ∷ []) = bytes_eq w (codes "log")
ends_standard _ = false

-- `SRC [log]`
abbrev pub standard : List (List ℕ) → Option LineTests
standard words = and_then (source words) (λ a rest. if ends_standard rest then Some (of_source a) else None)

-- the first word of an extended line
abbrev pub protocol : List (List ℕ) → Part ProtocolTest
protocol [] = None
protocol (w ∷ rest) = before rest (protocol_of w)

-- `ADDR [PORT] [MORE] [log|log-input]`, behind a protocol and the source
abbrev pub from_destination : ProtocolTest → EndPoint → List (List ℕ) → Option LineTests
from_destination p from words =
    and_then (end_point p Destination words) (λ to rest. option_map (λ more. record { protocol = p; source = from; destination = to; further = more }) (further p rest))

-- `PROTO ADDR [PORT] ADDR [PORT] [MORE] [log|log-input]`
abbrev pub extended : List (List ℕ) → Option LineTests
extended words = and_then (protocol words) (λ p behind. and_then (end_point p Source behind) (λ from rest. from_destination p from rest))
