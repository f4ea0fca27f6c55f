-- What an access list does with a packet (IOS `access-list`): the first line that matches decides, and the end denies.
use Rattle.std.specs.Prelude.{ℕ, ◌==◌, Bool, true, false, not, ◌&&◌, ◌||◌, List, [], ◌∷◌, Option, Some, None, nat_lt, nat_le}
use Rattle.std.specs.Int.{bit_at}
use Rattle.std.specs.List.{list_any, list_all, find, range_with_len}
use Rattle.std.specs.Option.{option_map_or}
use Rattle.rc_base.specs.declared.header.Header.{Header}
use Rattle.rc_config.specs.declared.access_list.Action.{Action}
use Rattle.rc_config.specs.declared.access_list.Action.TheVariants.{Permit, Deny}
use Rattle.rc_config.specs.declared.access_list.AddressTest.{AddressTest}
use Rattle.rc_config.specs.declared.access_list.AccessList.{AccessList}
use Rattle.rc_config.specs.declared.access_list.AccessListLine.{AccessListLine}
use Rattle.rc_config.specs.declared.access_list.FurtherTest.{FurtherTest}
use Rattle.rc_config.specs.declared.access_list.FurtherTest.TheVariants as further
use Rattle.rc_config.specs.declared.access_list.PortTest.{PortTest}
use Rattle.rc_config.specs.declared.access_list.PortTest.TheVariants.{Any, Equal, NotEqual, Below, Above, Within}
use Rattle.rc_config.specs.declared.access_list.ProtocolTest.{ProtocolTest}
use Rattle.rc_config.specs.declared.access_list.ProtocolTest.TheVariants as protocol
use Rattle.rc_config.specs.Named.{named}

-- the k-th bit of two addresses is the same, or its wildcard bit is 1
abbrev pub is_same_bit : ℕ → ℕ → ℕ → ℕ → Bool
is_same_bit wildcard a b k = bit_at wildcard k == 1 || bit_at a k == bit_at b k

-- of the last so many bits, each whose wildcard bit is 0 is the same
unfoldable pub same_bits : ℕ → ℕ → ℕ → ℕ → Bool
same_bits count wildcard a b = list_all (is_same_bit wildcard a b) (range_with_len 0 count)

-- an address passes a test: each bit whose wildcard bit is 0 is the same
abbrev pub matches_address : AddressTest → ℕ → Bool
matches_address t a = same_bits 32 t.wildcard t.addr a

-- `ip` takes every protocol
abbrev pub matches_protocol : ProtocolTest → ℕ → Bool
matches_protocol protocol.Any p = true
matches_protocol (protocol.Is q) p = p == q

-- `eq`, `neq`, `lt`, `gt` and `range`, which has both its ends
abbrev pub matches_port : PortTest → ℕ → Bool
matches_port Any p = true
matches_port (Equal ports) p = list_any (λ q. p == q) ports
matches_port (NotEqual ports) p = not (list_any (λ q. p == q) ports)
matches_port (Below q) p = nat_lt p q
matches_port (Above q) p = nat_lt q p
matches_port (Within low high) p = nat_le low p && nat_le p high

-- the ICMP code (RFC 792), where a line gives one
abbrev pub matches_code : Option ℕ → ℕ → Bool
matches_code None c = true
matches_code (Some n) c = c == n

-- `established` takes what has ACK or RST (RFC 9293 s.3.1); a type takes that ICMP type (RFC 792)
abbrev pub matches_further : FurtherTest → Header → Bool
matches_further further.Any h = true
matches_further further.Established h = h.ack || h.rst
matches_further (further.Icmp icmp_type code) h = h.icmp_type == icmp_type && matches_code code h.icmp_code

-- a header passes all tests of a line: protocol, addresses, ports, and what is tested further
unfoldable pub matches : AccessListLine → Header → Bool
matches l h =
    matches_protocol l.protocol h.proto && matches_address l.source h.src && matches_port l.source_port h.sport && matches_address l.destination h.dst && matches_port l.destination_port h.dport && matches_further l.further h

-- the action is `permit`
abbrev pub permits : Action → Bool
permits Permit = true
permits Deny = false

-- the action of the first line that matches a header, else deny
abbrev pub first_action : List AccessListLine → Header → Bool
first_action lines h = option_map_or (λ (l : AccessListLine). permits l.action) (find (λ l. matches l h) lines) false

-- whether an access list permits a header: by the first line that matches, and the end denies
abbrev pub verdict : AccessList → Header → Bool
verdict f h = first_action f.lines h

-- what a list passes as an access group: everything where it has no line
abbrev pub group_verdict : List AccessListLine → Header → Bool
group_verdict [] h = true
group_verdict (l ∷ lines) h = first_action (l ∷ lines) h

-- whether an access group passes a header: everything where none is named, or no list of its name is there or has a line, else what its
-- list permits
abbrev pub passes : List (List ℕ × AccessList) → Option (List ℕ) → Header → Bool
passes access_lists None h = true
passes access_lists (Some name) h = option_map_or (λ (f : AccessList). group_verdict f.lines h) (named access_lists name) true
