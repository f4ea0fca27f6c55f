-- Sets by computation: tests at their edges, nested prefixes, holes.
use Rattle.std.specs.Prelude.{◌≡◌, refl, ℕ, Bool, true, false, List, [], ◌∷◌, length, map, Some, None}
use Rattle.rc_base.specs.Fields.{zeros}
use Rattle.rc_base.specs.Header.{bit, last_bit}
use Rattle.rc_base.specs.Prefix.{prefix_at}
use Rattle.rc_base.specs.declared.field.Field.TheVariants.{Proto, Dport, Ack, Rst}
use Rattle.rc_base.specs.declared.header.Header.{Header}
use Rattle.rc_config.specs.AccessList.{any_address}
use Rattle.rc_config.specs.declared.access_list.AccessListLine.{AccessListLine}
use Rattle.rc_config.specs.declared.access_list.Action.TheVariants.{Permit}
use Rattle.rc_config.specs.declared.access_list.AddressTest.{AddressTest}
use Rattle.rc_config.specs.declared.access_list.FurtherTest.{FurtherTest}
use Rattle.rc_config.specs.declared.access_list.FurtherTest.TheVariants as further
use Rattle.rc_config.specs.declared.access_list.PortTest.TheVariants.{Any, Below, Above, Within}
use Rattle.rc_config.specs.declared.access_list.ProtocolTest.{ProtocolTest}
use Rattle.rc_config.specs.declared.access_list.ProtocolTest.TheVariants as protocol
use Rattle.rc_fib.specs.Entry.{Entry}
use Rattle.rc_route.specs.declared.route.Hop.TheVariants.{Null}
use Rattle.rc_trees.specs.Trees.{never, always}
use Rattle.rc_trees.specs.Combine as trees
use Rattle.rc_trees.specs.Recipes.{nodes, tree}
use Rattle.rc_trees.specs.Recipes as recipe
use Rattle.rc_trees.specs.Fields.{exact, masked, under}
use Rattle.rc_sets.specs.AccessLists.{established, line_set, port_set, way_set}
use Rattle.rc_sets.specs.Regions.{region, hop_set}

-- ---- ports at their edges

all_ports : tree (port_set (last_bit Dport) (Within 0 65535)) ≡ always
unfolding under trees.minus
all_ports = refl

no_port_is_below_0 : tree (port_set (last_bit Dport) (Below 0)) ≡ never
unfolding under
no_port_is_below_0 = refl

no_port_is_above_the_last : tree (port_set (last_bit Dport) (Above 65535)) ≡ never
unfolding under trees.minus
no_port_is_above_the_last = refl

an_empty_range : tree (port_set (last_bit Dport) (Within 80 79)) ≡ never
unfolding under trees.minus
an_empty_range = refl

-- the ports of one half test one bit
the_upper_half : length (nodes (port_set (last_bit Dport) (Above 32767))) ≡ 1
unfolding nodes under trees.minus
the_upper_half = refl

one_port : length (nodes (port_set (last_bit Dport) (Within 80 80))) ≡ 16
unfolding nodes under trees.minus
one_port = refl

-- ---- the nodes of a line, by which it is told when a table is full

abbrev odd : AddressTest
odd = record { addr = 1; wildcard = 4294967294 }

-- Each address test has one node, the protocol eight, each port test one: twelve. Protocol and source make one more, the source's; with the
-- source port the source's and the protocol's are made anew, nine; with the destination its own; and with its port all but this one, eleven.
five_tests : length (nodes (line_set (record { sequence = 10; action = Permit; protocol = protocol.Is 6; source = odd; source_port = Above 32767; destination = odd; destination_port = Above 32767; further = further.Any }))) ≡ 34
unfolding line_set nodes masked under trees.and trees.minus
five_tests = refl

-- ---- what a line tests behind its ports

-- a line that tests nothing but its protocol and one thing more
abbrev line : ProtocolTest → FurtherTest → AccessListLine
line p t = record { sequence = 10; action = Permit; protocol = p; source = any_address; source_port = Any; destination = any_address; destination_port = Any; further = t }

-- where a line tests nothing more, its set is node for node that of the five tests
nothing_more : (tree (line_set (line (protocol.Is 6) further.Any)) ≡ exact (last_bit Proto) 8 6) × (nodes (line_set (line (protocol.Is 6) further.Any)) ≡ nodes (way_set (line (protocol.Is 6) further.Any)))
unfolding line_set nodes masked trees.and
nothing_more = (refl, refl)

-- tcp with these flags, and a message of ICMP with this type and code
abbrev flags : Bool → Bool → Header
flags ack rst = record zeros { proto = 6; ack = ack; rst = rst }

abbrev message : ℕ → ℕ → Header
message icmp_type code = record zeros { proto = 1; icmp_type = icmp_type; icmp_code = code }

-- which of these headers a line's set holds
abbrev held : AccessListLine → List Header → List Bool
held l headers = map (recipe.has (line_set l)) headers

-- `established` is the one reduced tree of ACK or RST
one_or_the_other : trees.or (exact (last_bit Ack) 1 1) (exact (last_bit Rst) 1 1) ≡ established
unfolding masked trees.or
one_or_the_other = refl

-- ACK alone, RST alone, both, none; and on any protocol
by_flags : (held (line (protocol.Is 6) further.Established) (flags true false ∷ flags false true ∷ flags true true ∷ flags false false ∷ []) ≡ true ∷ true ∷ true ∷ false ∷ [])
    × (held (line protocol.Any further.Established) (flags true false ∷ record (flags false true) { proto = 17 } ∷ flags false false ∷ message 8 0 ∷ []) ≡ true ∷ true ∷ false ∷ false ∷ [])
unfolding line_set masked bit trees.and
by_flags = (refl, refl)

-- a type without a code takes every code of it
by_type : held (line (protocol.Is 1) (further.Icmp 3 None)) (message 3 0 ∷ message 3 255 ∷ message 8 0 ∷ record (message 3 0) { proto = 6 } ∷ []) ≡ true ∷ true ∷ false ∷ false ∷ []
unfolding line_set masked bit trees.and
by_type = refl

-- and with a code that one alone; the flags are free
by_code : (held (line (protocol.Is 1) (further.Icmp 3 (Some 0))) (message 3 0 ∷ message 3 255 ∷ message 8 0 ∷ record (message 3 0) { ack = true } ∷ []) ≡ true ∷ false ∷ false ∷ true ∷ [])
    × (held (line protocol.Any (further.Icmp 255 (Some 255))) (message 255 255 ∷ message 255 0 ∷ message 0 255 ∷ record (message 255 255) { proto = 17 } ∷ []) ≡ true ∷ false ∷ false ∷ true ∷ [])
unfolding line_set masked bit trees.and
by_code = (refl, refl)

-- nodes: of the flags two; of a type eight; a code makes eight, and the type's are made anew above it
nodes_of_more : map (λ t. length (nodes (line_set (line protocol.Any t)))) (further.Any ∷ further.Established ∷ further.Icmp 8 None ∷ further.Icmp 8 (Some 0) ∷ []) ≡ 0 ∷ 2 ∷ 8 ∷ 24 ∷ []
unfolding line_set nodes masked trees.and
nodes_of_more = refl

-- ---- hops: a default, 10.0.0.0/8 to another hop, and 10.1.0.0/16 to the default's again

abbrev default : Entry
default = record { prefix = prefix_at 0 0; hops = Null ∷ [] }

abbrev other : Entry
other = record { prefix = prefix_at 167772160 8; hops = [] }

abbrev back : Entry
back = record { prefix = prefix_at 167837696 16; hops = Null ∷ [] }

abbrev table : List Entry
table = default ∷ other ∷ back ∷ []

abbrev packet : ℕ → Header
packet to = record zeros { dst = to; proto = 6; sport = 1024; dport = 80 }

by_the_default : recipe.has (hop_set table Null) (packet 184549376) ≡ true
unfolding hop_set region masked bit trees.or trees.minus
by_the_default = refl

in_the_hole : recipe.has (hop_set table Null) (packet 167772161) ≡ false
unfolding hop_set region masked bit trees.or trees.minus
in_the_hole = refl

inside_the_hole : recipe.has (hop_set table Null) (packet 167837697) ≡ true
unfolding hop_set region masked bit trees.or trees.minus
inside_the_hole = refl
