-- Lines of access lists that fit, and some that fit no row, by computation.
use Rattle.std.specs.Prelude.{◌≡◌, refl, ℕ, ◌+◌, List, [], ◌∷◌, Option, Some, None, Result, Ok, Err, codes}
use Rattle.rc_openings.specs.Reading.{judged}
use Rattle.rc_openings.specs.Words.{words_of}
use Rattle.rc_openings.specs.declared.reading.LineRefusal.{LineRefusal}
use Rattle.rc_openings.specs.declared.reading.LineRefusal.TheVariants.{BadValue}
use Rattle.rc_config.specs.ActionWord.{action_of}
use Rattle.rc_config.specs.AccessList.{any_address, host_address, standard_line}
use Rattle.rc_config.specs.declared.access_list.Action.{Action}
use Rattle.rc_config.specs.declared.access_list.Action.TheVariants.{Permit, Deny}
use Rattle.rc_config.specs.declared.access_list.AddressTest.{AddressTest}
use Rattle.rc_config.specs.declared.access_list.AccessListKind.{AccessListKind}
use Rattle.rc_config.specs.declared.access_list.AccessListKind.TheVariants.{Standard, Extended}
use Rattle.rc_config.specs.declared.access_list.AccessListLine.{AccessListLine}
use Rattle.rc_config.specs.declared.access_list.FurtherTest.{FurtherTest}
use Rattle.rc_config.specs.declared.access_list.FurtherTest.TheVariants as further
use Rattle.rc_config.specs.declared.access_list.PortTest.{PortTest}
use Rattle.rc_config.specs.declared.access_list.PortTest.TheVariants as port
use Rattle.rc_config.specs.declared.access_list.ProtocolTest.{ProtocolTest}
use Rattle.rc_config.specs.declared.access_list.ProtocolTest.TheVariants as protocol
use Rattle.rc_gram_acl.specs.Lines.{line_with}
use Rattle.rc_gram_acl.specs.NumberName.{icmp_type_names, protocol_names, port_names}
use Rattle.rc_gram_acl.specs.Entry.{Entry, entry}
use Rattle.rc_gram_acl.specs.Refused.{refused_words}

-- a line of number 10, or why it is none
abbrev pub Line : Type 0
Line = Result AccessListLine LineRefusal

abbrev pub numbered : Action → Entry → Line
numbered action (Ok tests) = Ok (line_with 10 action tests)
numbered action (Err refusal) = Err refusal

-- the line by its words from `permit` or `deny` on
abbrev pub line_by : AccessListKind → Option Action → List (List ℕ) → Line
line_by kind (Some action) rest = numbered action (entry kind rest)
line_by kind None rest = Err BadValue

abbrev pub line_from : AccessListKind → List (List ℕ) → Line
line_from kind [] = Err BadValue
line_from kind (w ∷ rest) = line_by kind (action_of w) rest

-- and what the refused words make of it
abbrev pub line_answer : AccessListKind → List (List ℕ) → Line
line_answer kind words = judged refused_words words (line_from kind words)

-- a line of a standard list, and of an extended one, says this
abbrev pub SaysStandard : List ℕ → Line → Type 0
SaysStandard text answer = line_answer Standard (words_of text) ≡ answer

abbrev pub SaysExtended : List ℕ → Line → Type 0
SaysExtended text answer = line_answer Extended (words_of text) ≡ answer

abbrev pub from_source : Action → AddressTest → Line
from_source action source = Ok (standard_line 10 action source)

abbrev pub tests : Action → ProtocolTest → AddressTest → PortTest → AddressTest → PortTest → Line
tests action p from from_port to to_port =
    Ok (record { sequence = 10; action = action; protocol = p; source = from; source_port = from_port; destination = to; destination_port = to_port; further = further.Any })

-- 10.0.0.n with this wildcard
abbrev pub under : ℕ → ℕ → AddressTest
under n wildcard = record { addr = 0x0a000000 + n; wildcard = wildcard }

-- a line of tcp from anywhere to ports anywhere
abbrev pub to_ports : PortTest → Line
to_ports test = tests Permit (protocol.Is 6) any_address port.Any any_address test

-- the source: `any`, `host A`, `A` or `A W`; any dotted word is a wildcard, and the address stays whole
pub standard_lines :
    SaysStandard (codes "permit any") (from_source Permit any_address)
    × SaysStandard (codes "deny host 10.0.0.1") (from_source Deny (host_address 0x0a000001))
    × SaysStandard (codes "permit 10.0.0.1") (from_source Permit (host_address 0x0a000001))
    × SaysStandard (codes "permit 10.0.0.1 0.0.255.0") (from_source Permit (under 1 0x0000ff00))
    × SaysStandard (codes "permit any log") (from_source Permit any_address)
    × SaysStandard (codes "permit 10.0.0.1 log") (from_source Permit (host_address 0x0a000001))
    × SaysStandard (codes "permit 10.0.0.1 0.0.0.255 log") (from_source Permit (under 1 255))
unfolding words_of protocol_names port_names icmp_type_names refused_words
standard_lines = (refl, refl, refl, refl, refl, refl, refl)

-- what is no source, or goes on behind it; standard lists have no protocols and no ports
pub standard_misfits :
    SaysStandard (codes "permit") (Err BadValue)
    × SaysStandard (codes "permit host") (Err BadValue)
    × SaysStandard (codes "permit host any") (Err BadValue)
    × SaysStandard (codes "permit 10.0.0.256") (Err BadValue)
    × SaysStandard (codes "permit host 10.0.0.1 0.0.0.255") (Err BadValue)
    × SaysStandard (codes "permit any any") (Err BadValue)
    × SaysStandard (codes "permit any log log") (Err BadValue)
    × SaysStandard (codes "permit any log-input") (Err BadValue)
    × SaysStandard (codes "permit foo") (Err BadValue)
    × SaysStandard (codes "permit 10.0.0.1 foo") (Err BadValue)
    × SaysStandard (codes "permit icmp any any echo") (Err BadValue)
    × SaysStandard (codes "remark any") (Err BadValue)
unfolding words_of protocol_names port_names icmp_type_names refused_words
standard_misfits = (refl, refl, refl, refl, refl, refl, refl, refl, refl, refl, refl, refl)

-- the protocol: a name, or a number from 0 to 255
pub protocols_of_lines :
    SaysExtended (codes "permit ip any any") (tests Permit protocol.Any any_address port.Any any_address port.Any)
    × SaysExtended (codes "deny ospf any any log") (tests Deny (protocol.Is 89) any_address port.Any any_address port.Any)
    × SaysExtended (codes "permit 0 any any log-input") (tests Permit (protocol.Is 0) any_address port.Any any_address port.Any)
    × SaysExtended (codes "permit 255 any any") (tests Permit (protocol.Is 255) any_address port.Any any_address port.Any)
    × SaysExtended (codes "permit icmp any any log") (tests Permit (protocol.Is 1) any_address port.Any any_address port.Any)
    × SaysExtended (codes "permit igmp any any") (tests Permit (protocol.Is 2) any_address port.Any any_address port.Any)
    × SaysExtended (codes "permit 256 any any") (Err BadValue)
    × SaysExtended (codes "permit") (Err BadValue)
    × SaysExtended (codes "permit ip") (Err BadValue)
    × SaysExtended (codes "permit ip any any log log") (Err BadValue)
unfolding words_of protocol_names port_names icmp_type_names refused_words
protocols_of_lines = (refl, refl, refl, refl, refl, refl, refl, refl, refl, refl)

-- addresses: an extended line has none without `host` or a wildcard
pub addresses_of_lines :
    SaysExtended (codes "permit ip host 10.0.0.1 10.0.0.2 255.0.255.0") (tests Permit protocol.Any (host_address 0x0a000001) port.Any (under 2 0xff00ff00) port.Any)
    × SaysExtended (codes "permit ip 10.0.0.3 0.0.0.0 any") (tests Permit protocol.Any (under 3 0) port.Any any_address port.Any)
    × SaysExtended (codes "permit ip 10.0.0.1 any") (Err BadValue)
    × SaysExtended (codes "permit ip any 10.0.0.1") (Err BadValue)
    × SaysExtended (codes "permit ip any host") (Err BadValue)
unfolding words_of protocol_names port_names icmp_type_names refused_words
addresses_of_lines = (refl, refl, refl, refl, refl)

-- ports at both ends, one to ten behind `eq` and `neq`
pub port_lists :
    SaysExtended (codes "permit tcp any eq www 443 host 10.0.0.1 neq telnet log") (tests Permit (protocol.Is 6) any_address (port.Equal (80 ∷ 443 ∷ [])) (host_address 0x0a000001) (port.NotEqual (23 ∷ [])))
    × SaysExtended (codes "permit 17 any neq 5 10.0.0.0 0.0.0.255 eq ntp log-input") (tests Permit (protocol.Is 17) any_address (port.NotEqual (5 ∷ [])) (under 0 255) (port.Equal (123 ∷ [])))
    × SaysExtended (codes "permit tcp any any eq 1 2 3 4 5 6 7 8 9 10") (to_ports (port.Equal (1 ∷ 2 ∷ 3 ∷ 4 ∷ 5 ∷ 6 ∷ 7 ∷ 8 ∷ 9 ∷ 10 ∷ [])))
    × SaysExtended (codes "permit tcp any any neq 1 2 3 4 5 6 7 8 9 10") (to_ports (port.NotEqual (1 ∷ 2 ∷ 3 ∷ 4 ∷ 5 ∷ 6 ∷ 7 ∷ 8 ∷ 9 ∷ 10 ∷ [])))
    × SaysExtended (codes "permit tcp any any eq 5 5") (to_ports (port.Equal (5 ∷ 5 ∷ [])))
    × SaysExtended (codes "permit tcp any any eq 1 2 3 4 5 6 7 8 9 10 11") (Err BadValue)
    × SaysExtended (codes "permit tcp any any eq") (Err BadValue)
    × SaysExtended (codes "permit tcp any any eq 65536") (Err BadValue)
    × SaysExtended (codes "permit tcp any eq 1 2 3 4 5 6 7 8 9 10 11 any") (Err BadValue)
unfolding words_of protocol_names port_names icmp_type_names refused_words
port_lists = (refl, refl, refl, refl, refl, refl, refl, refl, refl)

-- one port behind `lt` and `gt`, two behind `range`, the first at most the second
pub port_ranges :
    SaysExtended (codes "permit 6 any any lt 0") (to_ports (port.Below 0))
    × SaysExtended (codes "permit tcp any any gt 65535 log") (to_ports (port.Above 65535))
    × SaysExtended (codes "permit tcp any any range 5 5") (to_ports (port.Within 5 5))
    × SaysExtended (codes "permit tcp any any range 4 www") (to_ports (port.Within 4 80))
    × SaysExtended (codes "permit tcp any gt 1023 any lt 1024") (tests Permit (protocol.Is 6) any_address (port.Above 1023) any_address (port.Below 1024))
    × SaysExtended (codes "permit udp any range 1 2 any") (tests Permit (protocol.Is 17) any_address (port.Within 1 2) any_address port.Any)
    × SaysExtended (codes "permit udp any any range 5 4") (Err BadValue)
    × SaysExtended (codes "permit tcp any any range 5") (Err BadValue)
    × SaysExtended (codes "permit tcp any any lt") (Err BadValue)
    × SaysExtended (codes "permit tcp any any lt 5 6") (Err BadValue)
    × SaysExtended (codes "permit tcp any any gt 65536") (Err BadValue)
unfolding words_of protocol_names port_names icmp_type_names refused_words
port_ranges = (refl, refl, refl, refl, refl, refl, refl, refl, refl, refl, refl)

-- only tcp and udp have ports
pub portless :
    SaysExtended (codes "permit ip any any eq 80") (Err BadValue)
    × SaysExtended (codes "permit gre any eq 80 any") (Err BadValue)
    × SaysExtended (codes "permit 7 any any eq 80") (Err BadValue)
unfolding words_of protocol_names port_names icmp_type_names refused_words
portless = (refl, refl, refl)

-- a line from anywhere to anywhere with a further test
abbrev pub anywhere_with : ℕ → FurtherTest → Line
anywhere_with p test =
    Ok (record { sequence = 10; action = Permit; protocol = protocol.Is p; source = any_address; source_port = port.Any; destination = any_address; destination_port = port.Any; further = test })

-- `established` in lines of tcp, by name and by number, also behind ports
pub established_lines :
    SaysExtended (codes "permit tcp any any established") (anywhere_with 6 further.Established)
    × SaysExtended (codes "permit 6 any any established log") (anywhere_with 6 further.Established)
    × SaysExtended (codes "permit tcp any any established log-input") (anywhere_with 6 further.Established)
    × SaysExtended (codes "deny tcp any gt 1023 any eq 22 80 established")
    (Ok (record { sequence = 10; action = Deny; protocol = protocol.Is 6; source = any_address; source_port = port.Above 1023; destination = any_address; destination_port = port.Equal (22 ∷ 80 ∷ []); further = further.Established }))
    × SaysExtended (codes "permit tcp any any lt 5 established log")
    (Ok (record { sequence = 10; action = Permit; protocol = protocol.Is 6; source = any_address; source_port = port.Any; destination = any_address; destination_port = port.Below 5; further = further.Established }))
unfolding words_of protocol_names port_names icmp_type_names refused_words
established_lines = (refl, refl, refl, refl, refl)

-- elsewhere it is a word that doesn't fit, and so are other words beside it
pub established_misfits :
    SaysExtended (codes "permit udp any any established") (Err BadValue)
    × SaysExtended (codes "permit udp any any eq 23 established") (Err BadValue)
    × SaysExtended (codes "permit ip any any established") (Err BadValue)
    × SaysExtended (codes "permit tcp any established any") (Err BadValue)
    × SaysExtended (codes "permit tcp any any established established") (Err BadValue)
    × SaysExtended (codes "permit tcp any any established foo") (Err BadValue)
    × SaysExtended (codes "permit tcp any any log established") (Err BadValue)
    × SaysExtended (codes "permit tcp any any Established") (Err BadValue)
    × SaysStandard (codes "permit any established") (Err BadValue)
unfolding words_of protocol_names port_names icmp_type_names refused_words
established_misfits = (refl, refl, refl, refl, refl, refl, refl, refl, refl)

-- an ICMP type by its name or its number, and the code behind a number
pub icmp_lines :
    SaysExtended (codes "permit icmp any any echo-reply") (anywhere_with 1 (further.Icmp 0 None))
    × SaysExtended (codes "permit icmp any any unreachable log") (anywhere_with 1 (further.Icmp 3 None))
    × SaysExtended (codes "permit icmp any any echo") (anywhere_with 1 (further.Icmp 8 None))
    × SaysExtended (codes "permit 1 any any time-exceeded log-input") (anywhere_with 1 (further.Icmp 11 None))
    × SaysExtended (codes "permit icmp any any 0") (anywhere_with 1 (further.Icmp 0 None))
    × SaysExtended (codes "permit 1 any any 255 log") (anywhere_with 1 (further.Icmp 255 None))
    × SaysExtended (codes "permit icmp any any 3 0") (anywhere_with 1 (further.Icmp 3 (Some 0)))
    × SaysExtended (codes "permit icmp any any 3 255 log") (anywhere_with 1 (further.Icmp 3 (Some 255)))
unfolding words_of protocol_names port_names icmp_type_names refused_words
icmp_lines = (refl, refl, refl, refl, refl, refl, refl, refl)

-- types and codes are at most 255, a name tests the type alone, and at most one word that logs stands last; other lines have no types
pub icmp_misfits :
    SaysExtended (codes "permit icmp any any 256") (Err BadValue)
    × SaysExtended (codes "permit icmp any any 3 256") (Err BadValue)
    × SaysExtended (codes "permit icmp any any 256 0") (Err BadValue)
    × SaysExtended (codes "permit icmp any any echo 0") (Err BadValue)
    × SaysExtended (codes "permit icmp any any 8 echo") (Err BadValue)
    × SaysExtended (codes "permit icmp any any 3 1 2") (Err BadValue)
    × SaysExtended (codes "permit icmp any any log 8") (Err BadValue)
    × SaysExtended (codes "permit icmp any any log log") (Err BadValue)
    × SaysExtended (codes "permit icmp any any 3 1 log log") (Err BadValue)
    × SaysExtended (codes "permit tcp any any echo") (Err BadValue)
    × SaysExtended (codes "permit ip any any 8") (Err BadValue)
unfolding words_of protocol_names port_names icmp_type_names refused_words
icmp_misfits = (refl, refl, refl, refl, refl, refl, refl, refl, refl, refl, refl)
