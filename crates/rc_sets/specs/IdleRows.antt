-- Idle lines by computation: who decides before them, and who doesn't.
use Rattle.std.specs.Prelude.{◌≡◌, refl, ℕ, ◌-◌, ◌^◌, List, [], ◌∷◌, length, None}
use Rattle.rc_config.specs.AccessList.{any_address, standard_line}
use Rattle.rc_config.specs.declared.access_list.AccessListLine.{AccessListLine}
use Rattle.rc_config.specs.declared.access_list.Action.{Action}
use Rattle.rc_config.specs.declared.access_list.Action.TheVariants.{Permit, Deny}
use Rattle.rc_config.specs.declared.access_list.AddressTest.{AddressTest}
use Rattle.rc_config.specs.declared.access_list.FurtherTest.{FurtherTest}
use Rattle.rc_config.specs.declared.access_list.FurtherTest.TheVariants as further
use Rattle.rc_config.specs.declared.access_list.PortTest.{PortTest}
use Rattle.rc_config.specs.declared.access_list.PortTest.TheVariants.{Any, Below, Above, Within}
use Rattle.rc_config.specs.declared.access_list.ProtocolTest.{ProtocolTest}
use Rattle.rc_config.specs.declared.access_list.ProtocolTest.TheVariants as protocol
use Rattle.rc_trees.specs.Combine as trees
use Rattle.rc_trees.specs.Fields.{masked, under}
use Rattle.rc_sets.specs.AccessLists.{line_set}
use Rattle.rc_sets.specs.IdleLines.{decided, idle_lines, idle_sets, nodes_of, shared}
use Rattle.rc_sets.specs.declared.idle_line.IdleLine.{IdleLine}

-- a line that tests the protocol, and the first bits of the source: an address whose wildcard leaves so many of them in
abbrev line : ℕ → Action → ProtocolTest → AddressTest → PortTest → FurtherTest → AccessListLine
line n a p s port t = record { sequence = n; action = a; protocol = p; source = s; source_port = Any; destination = any_address; destination_port = port; further = t }

abbrev under_bits : ℕ → ℕ → AddressTest
under_bits addr count = record { addr = addr; wildcard = 2 ^ (32 - count) - 1 }

-- 0.0.0.0/1, 0.0.0.0/2, 64.0.0.0/2 and 128.0.0.0/1
abbrev lower : AddressTest
lower = under_bits 0 1

abbrev first_quarter : AddressTest
first_quarter = under_bits 0 2

abbrev second_quarter : AddressTest
second_quarter = under_bits 1073741824 2

abbrev upper : AddressTest
upper = under_bits 2147483648 1

abbrev from : ℕ → Action → AddressTest → AccessListLine
from n a s = line n a protocol.Any s Any further.Any

abbrev of_protocol : ℕ → Action → ℕ → AccessListLine
of_protocol n a p = line n a (protocol.Is p) any_address Any further.Any

abbrev behind : ℕ → List ℕ → IdleLine
behind n numbers = record { sequence = n; by = numbers }

-- no lines, and a line alone
none_idle : (idle_lines [] ≡ []) × (idle_lines (of_protocol 10 Permit 6 ∷ []) ≡ [])
unfolding idle_lines decided line_set masked trees.and trees.or trees.minus
none_idle = (refl, refl)

-- of two equal lines the second, whatever they do
twice : idle_lines (of_protocol 10 Permit 6 ∷ of_protocol 20 Deny 6 ∷ []) ≡ behind 20 (10 ∷ []) ∷ []
unfolding idle_lines decided shared line_set masked trees.and trees.or trees.minus
twice = refl

-- by three lines together, of which one denies
by_three : idle_lines (from 10 Permit first_quarter ∷ from 20 Deny second_quarter ∷ from 30 Permit upper ∷ from 40 Deny any_address ∷ []) ≡ behind 40 (10 ∷ 20 ∷ 30 ∷ []) ∷ []
unfolding idle_lines decided shared line_set masked trees.and trees.or trees.minus
by_three = refl

-- two of the three leave something to it
by_two_in_part : idle_lines (from 10 Permit first_quarter ∷ from 20 Deny second_quarter ∷ from 40 Deny any_address ∷ []) ≡ []
unfolding idle_lines decided shared line_set masked trees.and trees.or trees.minus
by_two_in_part = refl

-- a line that matches nothing of it isn't named, nor is one that decides nothing of it: what 20 matches 10 decides
not_named : idle_lines (from 10 Permit lower ∷ from 20 Permit first_quarter ∷ from 30 Permit upper ∷ from 40 Permit first_quarter ∷ []) ≡ behind 20 (10 ∷ []) ∷ behind 40 (10 ∷ []) ∷ []
unfolding idle_lines decided shared line_set masked trees.and trees.or trees.minus
not_named = refl

-- a later line makes no line idle
not_by_later : idle_lines (from 10 Permit first_quarter ∷ from 20 Permit lower ∷ []) ≡ []
unfolding idle_lines decided shared line_set masked trees.and trees.or trees.minus
not_by_later = refl

-- a line that no header matches names none, and may be the first
unmatched : idle_lines (line 10 Permit (protocol.Is 17) any_address (Below 0) further.Any ∷ line 20 Permit (protocol.Is 6) any_address (Above 65535) further.Any ∷ line 30 Deny (protocol.Is 6) any_address (Within 80 79) further.Any ∷ [])
    ≡ behind 10 [] ∷ behind 20 [] ∷ behind 30 [] ∷ []
unfolding idle_lines decided shared line_set masked under trees.and trees.or trees.minus
unmatched = refl

-- `established` behind all of tcp, and all of tcp behind it
established_behind : idle_lines (of_protocol 10 Permit 6 ∷ line 20 Deny (protocol.Is 6) any_address Any further.Established ∷ []) ≡ behind 20 (10 ∷ []) ∷ []
unfolding idle_lines decided shared line_set masked trees.and trees.or trees.minus
established_behind = refl

tcp_behind_established : idle_lines (line 10 Permit (protocol.Is 6) any_address Any further.Established ∷ of_protocol 20 Deny 6 ∷ []) ≡ []
unfolding idle_lines decided shared line_set masked trees.and trees.or trees.minus
tcp_behind_established = refl

-- a code of a type behind the type
code_behind_type : idle_lines (line 10 Permit (protocol.Is 1) any_address Any (further.Icmp 3 None) ∷ line 20 Permit (protocol.Is 1) any_address Any (further.Icmp 8 None) ∷ line 30 Permit (protocol.Is 1) any_address Any (further.Icmp 3 None) ∷ []) ≡ behind 30 (10 ∷ []) ∷ []
unfolding idle_lines decided shared line_set masked trees.and trees.or trees.minus
code_behind_type = refl

-- lines of a standard list
standard : idle_lines (standard_line 10 Deny upper ∷ standard_line 20 Permit any_address ∷ standard_line 30 Deny lower ∷ []) ≡ behind 30 (20 ∷ []) ∷ []
unfolding idle_lines decided shared line_set masked trees.and trees.or trees.minus
standard = refl

-- what is made on the way: each line's set of one node, the set of the two together, which is every header, and what the third shares with each before it
nodes_on_the_way : length (nodes_of (idle_sets (from 10 Permit lower ∷ from 20 Permit upper ∷ from 30 Permit first_quarter ∷ []))) ≡ 4
unfolding idle_sets nodes_of decided shared line_set masked trees.and trees.or trees.minus
nodes_on_the_way = refl
