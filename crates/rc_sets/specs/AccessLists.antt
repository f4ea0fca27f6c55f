-- The headers that access lists permit (IOS `access-list`), as recipes of trees.
use Rattle.std.specs.Prelude.{ℕ, List, [], ◌∷◌, Option, Some, None}
use Rattle.std.specs.Option.{option_map_or}
use Rattle.rc_base.specs.Header.{last_bit}
use Rattle.rc_base.specs.declared.field.Field.TheVariants.{Dst, Src, Proto, Sport, Dport, IcmpType, IcmpCode, Ack, Rst}
use Rattle.rc_config.specs.Named.{named}
use Rattle.rc_config.specs.declared.access_list.Action.{Action}
use Rattle.rc_config.specs.declared.access_list.Action.TheVariants.{Permit, Deny}
use Rattle.rc_config.specs.declared.access_list.AddressTest.{AddressTest}
use Rattle.rc_config.specs.declared.access_list.AccessList.{AccessList}
use Rattle.rc_config.specs.declared.access_list.AccessListLine.{AccessListLine}
use Rattle.rc_config.specs.declared.access_list.FurtherTest.{FurtherTest}
use Rattle.rc_config.specs.declared.access_list.FurtherTest.TheVariants as further
use Rattle.rc_config.specs.declared.access_list.PortTest.{PortTest}
use Rattle.rc_config.specs.declared.access_list.PortTest.TheVariants.{Any, Equal, NotEqual, Below, Above, Within}
use Rattle.rc_config.specs.declared.access_list.ProtocolTest.{ProtocolTest}
use Rattle.rc_config.specs.declared.access_list.ProtocolTest.TheVariants as protocol
use Rattle.rc_trees.specs.Trees.{Tree, never, always, node}
use Rattle.rc_trees.specs.Combine as trees
use Rattle.rc_trees.specs.Recipes.{Recipe, given, and, or, minus, union_of}
use Rattle.rc_trees.specs.Fields.{masked, exact, below, at_most}

-- ---- tests: of each the number's last bit stands at a variable

abbrev pub address_set : ℕ → AddressTest → Recipe
address_set last t = given (masked last 32 t.wildcard t.addr)

abbrev pub protocol_set : ProtocolTest → Recipe
protocol_set protocol.Any = given always
protocol_set (protocol.Is n) = given (exact (last_bit Proto) 8 n)

-- `eq` joins its ports, and `neq` takes them away; each other test is given: `gt` is all but the ports up to its own, and `range`
-- those up to its end without those below its start
abbrev pub port_set : ℕ → PortTest → Recipe
port_set last Any = given always
port_set last (Equal ports) = union_of (λ n. given (exact last 16 n)) ports
port_set last (NotEqual ports) = minus (given always) (union_of (λ n. given (exact last 16 n)) ports)
port_set last (Below n) = given (below last 16 n)
port_set last (Above n) = given (trees.minus always (at_most last 16 n))
port_set last (Within low high) = given (trees.minus (at_most last 16 high) (below last 16 low))

-- the headers with ACK or RST (RFC 9293 s.3.1)
abbrev pub established : Tree
established = node (last_bit Ack) (node (last_bit Rst) never always) always

-- a type and a code of ICMP (RFC 792) are tested for equality, and all headers pass where a line doesn't test them
abbrev pub type_set : FurtherTest → Recipe
type_set (further.Icmp icmp_type code) = given (exact (last_bit IcmpType) 8 icmp_type)
type_set further.Any = given always
type_set further.Established = given always

abbrev pub code_of : Option ℕ → Recipe
code_of (Some code) = given (exact (last_bit IcmpCode) 8 code)
code_of None = given always

abbrev pub code_set : FurtherTest → Recipe
code_set (further.Icmp icmp_type code) = code_of code
code_set further.Any = given always
code_set further.Established = given always

-- `established` takes the headers with ACK or RST
abbrev pub flag_set : FurtherTest → Recipe
flag_set further.Established = given established
flag_set further.Any = given always
flag_set (further.Icmp icmp_type code) = given always

-- ---- lines and lists

-- the headers that pass a line's tests of protocol, addresses and ports
abbrev pub way_set : AccessListLine → Recipe
way_set l =
    and (and (and (and (protocol_set l.protocol) (address_set (last_bit Src) l.source)) (port_set (last_bit Sport) l.source_port)) (address_set (last_bit Dst) l.destination)) (port_set (last_bit Dport) l.destination_port)

-- the headers that a line matches
unfoldable pub line_set : AccessListLine → Recipe
line_set l = and (and (and (way_set l) (type_set l.further)) (code_set l.further)) (flag_set l.further)

-- a line in front of a set: permit adds what it matches, deny takes it away
abbrev pub with_line : Action → Recipe → Recipe → Recipe
with_line Permit matched r = or r matched
with_line Deny matched r = minus r matched

-- the headers that lines permit, from the last one to the first; the end denies
abbrev pub lines_set : List AccessListLine → Recipe
lines_set [] = given never
lines_set (l ∷ lines) = with_line l.action (line_set l) (lines_set lines)

-- what a list passes as an access group: everything where it has no line
abbrev pub group_set : List AccessListLine → Recipe
group_set [] = given always
group_set (l ∷ lines) = lines_set (l ∷ lines)

-- what an access group passes: everything where there is none, or none of its name is there, else what its list passes
abbrev pub passing_set : List (List ℕ × AccessList) → Option (List ℕ) → Recipe
passing_set access_lists None = given always
passing_set access_lists (Some name) = option_map_or (λ (f : AccessList). group_set f.lines) (named access_lists name) (given always)
