-- Worked cases of access lists, each by computation.
use Rattle.std.specs.Prelude.{◌≡◌, ℕ, ◌+◌, ◌*◌, Bool, true, false, List, [], ◌∷◌, map, Some, None, codes, refl}
use Rattle.rc_base.specs.Fields.{zeros}
use Rattle.rc_base.specs.declared.header.Header.{Header}
use Rattle.rc_config.specs.declared.access_list.Action.{Action}
use Rattle.rc_config.specs.declared.access_list.Action.TheVariants.{Permit, Deny}
use Rattle.rc_config.specs.declared.access_list.AddressTest.{AddressTest}
use Rattle.rc_config.specs.declared.access_list.AccessList.{AccessList}
use Rattle.rc_config.specs.declared.access_list.AccessListKind.TheVariants.{Extended}
use Rattle.rc_config.specs.declared.access_list.AccessListLine.{AccessListLine}
use Rattle.rc_config.specs.declared.access_list.FurtherTest.{FurtherTest}
use Rattle.rc_config.specs.declared.access_list.FurtherTest.TheVariants as further
use Rattle.rc_config.specs.declared.access_list.PortTest.{PortTest}
use Rattle.rc_config.specs.declared.access_list.PortTest.TheVariants.{Any, Equal, NotEqual, Below, Above, Within}
use Rattle.rc_config.specs.declared.access_list.ProtocolTest.TheVariants as protocol
use Rattle.rc_config.specs.AccessList.{any_address, host_address, no_lines, standard_line, with_line}
use Rattle.rc_filter.specs.Verdict.{same_bits, matches, matches_address, matches_protocol, matches_port, verdict, passes}

-- a.b.c.d
abbrev address : ℕ → ℕ → ℕ → ℕ → ℕ
address a b c d = a * 16777216 + b * 65536 + c * 256 + d

-- ---- addresses: 10.0.0.1 0.0.255.0 leaves the third octet out
abbrev third_octet_free : AddressTest
third_octet_free = record { addr = address 10 0 0 1; wildcard = address 0 0 255 0 }

pub no_front_matches : matches_address third_octet_free (address 10 0 7 1) ≡ true
unfolding same_bits
no_front_matches = refl

pub no_front_fails : matches_address third_octet_free (address 10 0 7 2) ≡ false
unfolding same_bits
no_front_fails = refl

pub first_bit_counts : matches_address third_octet_free (address 138 0 7 1) ≡ false
unfolding same_bits
first_bit_counts = refl

-- every second address: 10.0.0.1 0.0.0.254
pub odd_matches : matches_address (record { addr = address 10 0 0 1; wildcard = 254 }) (address 10 0 0 77) ≡ true
unfolding same_bits
odd_matches = refl

pub even_fails : matches_address (record { addr = address 10 0 0 1; wildcard = 254 }) (address 10 0 0 76) ≡ false
unfolding same_bits
even_fails = refl

-- bits of the test's address under the wildcard don't count: 10.0.0.99 0.0.0.255 is 10.0.0.0 0.0.0.255
pub host_bits_do_not_count : matches_address (record { addr = address 10 0 0 99; wildcard = 255 }) (address 10 0 0 1) ≡ true
unfolding same_bits
host_bits_do_not_count = refl

pub past_the_block : matches_address (record { addr = address 10 0 0 99; wildcard = 255 }) (address 10 0 1 99) ≡ false
unfolding same_bits
past_the_block = refl

-- a wildcard isn't a mask: 10.0.0.1 255.255.255.0 compares the last octet alone
pub mask_as_wildcard : matches_address (record { addr = address 10 0 0 1; wildcard = address 255 255 255 0 }) (address 192 168 3 1) ≡ true
unfolding same_bits
mask_as_wildcard = refl

pub any_matches : matches_address any_address (address 203 0 113 255) ≡ true
unfolding same_bits
any_matches = refl

pub host_matches : matches_address (host_address (address 10 0 0 1)) (address 10 0 0 1) ≡ true
unfolding same_bits
host_matches = refl

pub host_fails : matches_address (host_address (address 10 0 0 1)) (address 10 0 0 0) ≡ false
unfolding same_bits
host_fails = refl

-- ---- protocols
pub ip_takes_all : matches_protocol protocol.Any 89 ≡ true
ip_takes_all = refl

pub tcp_takes_tcp : matches_protocol (protocol.Is 6) 6 ≡ true
tcp_takes_tcp = refl

pub tcp_takes_no_udp : matches_protocol (protocol.Is 6) 17 ≡ false
tcp_takes_no_udp = refl

-- protocol number 0 is one protocol, and not `ip`
pub zero_is_a_protocol : matches_protocol (protocol.Is 0) 6 ≡ false
zero_is_a_protocol = refl

-- ---- ports, at the edges of each test
pub any_port : matches_port Any 65535 ≡ true
any_port = refl

pub equal_there : matches_port (Equal (22 ∷ 80 ∷ 443 ∷ [])) 443 ≡ true
equal_there = refl

pub equal_not_there : matches_port (Equal (22 ∷ 80 ∷ 443 ∷ [])) 81 ≡ false
equal_not_there = refl

-- `neq` of several is none of them
pub not_the_first : matches_port (NotEqual (22 ∷ 80 ∷ [])) 22 ≡ false
not_the_first = refl

pub not_the_last : matches_port (NotEqual (22 ∷ 80 ∷ [])) 80 ≡ false
not_the_last = refl

pub neither : matches_port (NotEqual (22 ∷ 80 ∷ [])) 23 ≡ true
neither = refl

pub below_under : matches_port (Below 1024) 1023 ≡ true
below_under = refl

pub below_at : matches_port (Below 1024) 1024 ≡ false
below_at = refl

pub below_over : matches_port (Below 1024) 1025 ≡ false
below_over = refl

pub below_zero : matches_port (Below 0) 0 ≡ false
below_zero = refl

pub above_under : matches_port (Above 1023) 1022 ≡ false
above_under = refl

pub above_at : matches_port (Above 1023) 1023 ≡ false
above_at = refl

pub above_over : matches_port (Above 1023) 1024 ≡ true
above_over = refl

pub above_all : matches_port (Above 65535) 65535 ≡ false
above_all = refl

pub within_under : matches_port (Within 20 22) 19 ≡ false
within_under = refl

pub within_low : matches_port (Within 20 22) 20 ≡ true
within_low = refl

pub within_high : matches_port (Within 20 22) 22 ≡ true
within_high = refl

pub within_over : matches_port (Within 20 22) 23 ≡ false
within_over = refl

pub within_one : matches_port (Within 21 21) 21 ≡ true
within_one = refl

pub within_one_under : matches_port (Within 21 21) 20 ≡ false
within_one_under = refl

pub within_one_over : matches_port (Within 21 21) 22 ≡ false
within_one_over = refl

-- ---- lines: a packet from 10.0.0.1 to 192.0.2.1
abbrev packet : ℕ → ℕ → ℕ → Header
packet proto sport dport = record zeros { dst = address 192 0 2 1; src = address 10 0 0 1; proto = proto; sport = sport; dport = dport }

-- permit tcp host 10.0.0.1 gt 1023 host 192.0.2.1 eq 22
abbrev ssh : AccessListLine
ssh = record {
  sequence = 10;
  action = Permit;
  protocol = protocol.Is 6;
  source = host_address (address 10 0 0 1);
  source_port = Above 1023;
  destination = host_address (address 192 0 2 1);
  destination_port = Equal (22 ∷ []);
  further = further.Any;
}

pub all_tests_pass : matches ssh (packet 6 40000 22) ≡ true
unfolding matches same_bits
all_tests_pass = refl

pub protocol_counts : matches ssh (packet 17 40000 22) ≡ false
unfolding matches same_bits
protocol_counts = refl

pub source_counts : matches (record ssh { source = host_address (address 10 0 0 2) }) (packet 6 40000 22) ≡ false
unfolding matches same_bits
source_counts = refl

pub source_port_counts : matches ssh (packet 6 1023 22) ≡ false
unfolding matches same_bits
source_port_counts = refl

pub destination_counts : matches (record ssh { destination = host_address (address 10 0 0 1) }) (packet 6 40000 22) ≡ false
unfolding matches same_bits
destination_counts = refl

pub destination_port_counts : matches ssh (packet 6 40000 23) ≡ false
unfolding matches same_bits
destination_port_counts = refl

-- ---- lists
abbrev list : List AccessListLine → AccessList
list lines = record { kind = Extended; lines = lines }

-- a line for everything
abbrev all : ℕ → Action → AccessListLine
all n action = standard_line n action any_address

-- the first line that matches decides, whatever stands behind it
pub first_denies : verdict (list (record ssh { action = Deny } ∷ all 20 Permit ∷ [])) (packet 6 40000 22) ≡ false
unfolding matches same_bits
first_denies = refl

pub first_permits : verdict (list (ssh ∷ all 20 Deny ∷ [])) (packet 6 40000 22) ≡ true
unfolding matches same_bits
first_permits = refl

-- a line that doesn't match is passed over
pub second_decides : verdict (list (record ssh { action = Deny } ∷ all 20 Permit ∷ [])) (packet 6 40000 23) ≡ true
unfolding matches same_bits
second_decides = refl

-- the end denies
pub end_denies : verdict (list (ssh ∷ [])) (packet 6 40000 23) ≡ false
unfolding matches same_bits
end_denies = refl

pub no_line_denies : verdict (list []) (packet 6 40000 22) ≡ false
no_line_denies = refl

-- ---- access groups
abbrev lists : List (List ℕ × AccessList)
lists = (codes "101", list (ssh ∷ [])) ∷ (codes "102", list []) ∷ []

pub group_permits : passes lists (Some (codes "101")) (packet 6 40000 22) ≡ true
unfolding matches same_bits
group_permits = refl

pub group_denies : passes lists (Some (codes "101")) (packet 6 40000 23) ≡ false
unfolding matches same_bits
group_denies = refl

-- an empty list passes everything, and so do a list that isn't there and no group
pub empty_list_passes : passes lists (Some (codes "102")) (packet 6 40000 23) ≡ true
empty_list_passes = refl

pub missing_list_passes : passes lists (Some (codes "103")) (packet 6 40000 23) ≡ true
missing_list_passes = refl

pub no_group_passes : passes lists None (packet 6 40000 23) ≡ true
no_group_passes = refl

-- ---- a list as a file puts it together: tcp to port 22 is denied by line 10, written behind line 20 for all tcp
abbrev tcp : ℕ → Action → PortTest → AccessListLine
tcp n action test = record { sequence = n; action = action; protocol = protocol.Is 6; source = any_address; source_port = Any; destination = any_address; destination_port = test; further = further.Any }

abbrev no_ssh : AccessList
no_ssh = with_line (with_line (no_lines Extended) (tcp 20 Permit Any)) (tcp 10 Deny (Equal (22 ∷ [])))

pub lower_number_first : verdict no_ssh (packet 6 40000 22) ≡ false
unfolding matches same_bits
lower_number_first = refl

pub other_ports_behind : verdict no_ssh (packet 6 40000 23) ≡ true
unfolding matches same_bits
other_ports_behind = refl

-- port 22 at the edges of the tests of a line
pub edges_at_22 : map (λ test. matches (tcp 10 Permit test) (packet 6 40000 22)) (Below 23 ∷ Below 22 ∷ Above 21 ∷ Above 22 ∷ Within 22 22 ∷ Within 20 21 ∷ []) ≡ true ∷ false ∷ true ∷ false ∷ true ∷ false ∷ []
unfolding matches same_bits
edges_at_22 = refl

-- ---- what is tested further: lines from anywhere to anywhere
abbrev with_further : ℕ → Action → FurtherTest → AccessListLine
with_further p action test = record (standard_line 10 action any_address) { protocol = protocol.Is p; further = test }

-- a segment of tcp with these flags, and a message of icmp
abbrev segment : Bool → Bool → Header
segment ack rst = record (packet 6 40000 22) { ack = ack; rst = rst }

abbrev message : ℕ → ℕ → Header
message icmp_type code = record (packet 1 0 0) { icmp_type = icmp_type; icmp_code = code }

-- `established`: ACK alone, RST alone, both, none
pub acknowledged_or_reset :
    map (matches (with_further 6 Permit further.Established)) (segment true false ∷ segment false true ∷ segment true true ∷ segment false false ∷ []) ≡ true ∷ true ∷ true ∷ false ∷ []
unfolding matches same_bits
acknowledged_or_reset = refl

-- the flags don't count in a line that doesn't test them, and the protocol counts in one that does
pub flags_are_free : map (matches (with_further 6 Permit further.Any)) (segment true true ∷ segment false false ∷ []) ≡ true ∷ true ∷ []
unfolding matches same_bits
flags_are_free = refl

pub flags_of_tcp_alone : matches (with_further 6 Permit further.Established) (record (packet 17 1 1) { ack = true }) ≡ false
unfolding matches same_bits
flags_of_tcp_alone = refl

-- a type alone takes each code: echo-reply (0), unreachable (3), echo (8), time-exceeded (11), and 255
pub types_take_each_code :
    map (λ t. matches (with_further 1 Permit (further.Icmp t None)) (message t 0)) (0 ∷ 3 ∷ 8 ∷ 11 ∷ 255 ∷ []) ≡ true ∷ true ∷ true ∷ true ∷ true ∷ []
unfolding matches same_bits
types_take_each_code = refl

pub codes_are_free : map (matches (with_further 1 Permit (further.Icmp 3 None))) (message 3 0 ∷ message 3 255 ∷ message 8 0 ∷ message 0 0 ∷ []) ≡ true ∷ true ∷ false ∷ false ∷ []
unfolding matches same_bits
codes_are_free = refl

-- a code is tested too where it is given, also the codes 0 and 255
pub codes_count :
    map (matches (with_further 1 Permit (further.Icmp 3 (Some 0)))) (message 3 0 ∷ message 3 1 ∷ message 0 0 ∷ []) ≡ true ∷ false ∷ false ∷ []
unfolding matches same_bits
codes_count = refl

pub greatest_code : map (matches (with_further 1 Permit (further.Icmp 3 (Some 255)))) (message 3 255 ∷ message 3 254 ∷ message 255 3 ∷ []) ≡ true ∷ false ∷ false ∷ []
unfolding matches same_bits
greatest_code = refl

-- what is established is denied before all is permitted, and new sessions pass
pub established_denied_first :
    map (verdict (list (with_further 6 Deny further.Established ∷ all 20 Permit ∷ []))) (segment true false ∷ segment false true ∷ segment false false ∷ message 8 0 ∷ []) ≡ false ∷ false ∷ true ∷ true ∷ []
unfolding matches same_bits
established_denied_first = refl

-- pings are denied, and what answers them passes
pub echo_denied_first : map (verdict (list (with_further 1 Deny (further.Icmp 8 None) ∷ all 20 Permit ∷ []))) (message 8 0 ∷ message 8 1 ∷ message 0 0 ∷ []) ≡ false ∷ false ∷ true ∷ []
unfolding matches same_bits
echo_denied_first = refl
