-- Trees by computation.
use Rattle.std.specs.Prelude.{◌≡◌, refl, true, false, length, filter}
use Rattle.std.specs.List.{list_any}
use Rattle.rc_base.specs.Fields.{zeros}
use Rattle.rc_base.specs.Header.{bit, last_bit}
use Rattle.rc_base.specs.Prefix.{Cidr}
use Rattle.rc_base.specs.declared.field.Field.TheVariants.{Proto, Sport, Dport, IcmpType, IcmpCode, Ack, Rst}
use Rattle.rc_base.specs.declared.header.Header.{Header}
use Rattle.rc_trees.specs.Trees.{Tree, never, always, node, holds, same_tree}
use Rattle.rc_trees.specs.Combine.{and, or, minus}
use Rattle.rc_trees.specs.Recipes.{nodes, has, tree}
use Rattle.rc_trees.specs.Fields.{masked, under, exact, below, at_most, chain, host}

-- ---- operations

-- tests of bit 3 and of bit 5
abbrev three : Tree
three = node 3 never always

abbrev five : Tree
five = node 5 never always

both_tested : and three five ≡ node 3 never (node 5 never always)
unfolding and
both_tested = refl

one_tested : or five three ≡ node 3 (node 5 never always) always
unfolding or
one_tested = refl

first_alone : minus three five ≡ node 3 never (node 5 always never)
unfolding minus
first_alone = refl

second_alone : minus five three ≡ node 3 (node 5 never always) never
unfolding minus
second_alone = refl

-- a test whose sides come out equal is left out
nothing_left : minus five five ≡ never
unfolding minus
nothing_left = refl

all_there : or five (minus always five) ≡ always
unfolding or minus
all_there = refl

-- ---- prefixes

-- 10.0.0.0/24, 11.0.0.0/24, and every address
abbrev ten : Cidr
ten = record { network = 167772160; len = 24 }

abbrev eleven : Cidr
eleven = record { network = 184549376; len = 24 }

abbrev all : Cidr
all = record { network = 0; len = 0 }

chain_of_all : tree (chain all) ≡ always
unfolding masked
chain_of_all = refl

-- a chain has a node for each bit of its prefix
nodes_of_24 : length (nodes (chain ten)) ≡ 24
unfolding nodes masked
nodes_of_24 = refl

nodes_of_host : length (nodes (host 167772161)) ≡ 32
unfolding nodes masked
nodes_of_host = refl

-- the two chains share the nodes of bits 8 to 23
shared_nodes : length (filter (λ t. list_any (same_tree t) (nodes (chain eleven))) (nodes (chain ten))) ≡ 16
unfolding nodes masked
shared_nodes = refl

-- ---- headers

-- tcp from 11.0.0.1 port 1024 to 10.0.0.7 port 80
abbrev packet : Header
packet = record zeros { dst = 167772167; src = 184549377; proto = 6; sport = 1024; dport = 80 }

to_ten : has (chain ten) packet ≡ true
unfolding masked bit
to_ten = refl

not_to_eleven : has (chain eleven) packet ≡ false
unfolding masked bit
not_to_eleven = refl

of_tcp : holds (exact (last_bit Proto) 8 6) packet ≡ true
unfolding masked bit
of_tcp = refl

not_of_udp : holds (exact (last_bit Proto) 8 17) packet ≡ false
unfolding masked bit
not_of_udp = refl

source_port_below : holds (below (last_bit Sport) 16 1024) packet ≡ false
unfolding under bit
source_port_below = refl

source_port_at_most : holds (at_most (last_bit Sport) 16 1024) packet ≡ true
unfolding under bit
source_port_at_most = refl

-- type 8 of ICMP with code 0, and the flag RST alone
abbrev echo : Header
echo = record zeros { proto = 1; icmp_type = 8 }

abbrev reset : Header
reset = record zeros { proto = 6; rst = true }

abbrev of_echo : Tree
of_echo = exact (last_bit IcmpType) 8 8

abbrev of_code_zero : Tree
of_code_zero = exact (last_bit IcmpCode) 8 0

by_type_and_code : (holds of_echo echo ≡ true) × (holds of_echo reset ≡ false) × (holds of_code_zero echo ≡ true) × (holds of_code_zero (record echo { icmp_code = 255 }) ≡ false)
unfolding masked bit
by_type_and_code = (refl, refl, refl, refl)

-- a flag is one bit, the last two of a header
flags_last : (exact (last_bit Ack) 1 1 ≡ node 120 never always) × (exact (last_bit Rst) 1 0 ≡ node 121 always never)
unfolding masked
flags_last = (refl, refl)

by_flag : (holds (exact (last_bit Ack) 1 1) reset ≡ false) × (holds (exact (last_bit Rst) 1 1) reset ≡ true)
unfolding masked bit
by_flag = (refl, refl)

-- a number of more bits than the field has: none is it, all are below it
none_is_more : exact (last_bit Dport) 16 65536 ≡ never
none_is_more = refl

all_are_below : below (last_bit Dport) 16 65536 ≡ always
all_are_below = refl
