-- Worked cases of links, takers and own addresses, each by computation.
use Rattle.std.specs.Prelude.{◌≡◌, ℕ, ◌+◌, ◌*◌, ◌/◌, ◌%◌, ◌==◌, true, false, not, List, [], ◌∷◌, filter, map, Some, None, codes, refl}
use Rattle.std.specs.List.{fold, range_with_len}
use Rattle.rc_base.specs.declared.position.IfId.{IfId}
use Rattle.rc_config.specs.declared.command.Command.{Command}
use Rattle.rc_config.specs.declared.command.Command.TheVariants.{Interface, InterfaceLine}
use Rattle.rc_config.specs.declared.interface.InterfaceLine.TheVariants as interface_line
use Rattle.rc_config.specs.declared.if_type.IfType.TheVariants as types
use Rattle.rc_config.specs.declared.router_text.RouterText.{RouterText}
use Rattle.rc_config.specs.Cuts.{uncut}
use Rattle.rc_config.specs.IfType.{type_of}
use Rattle.rc_config.specs.Update.{after, empty}
use Rattle.rc_topology.specs.Links.{are_linked, holds, is_own, kind_of, linked, port_is, takers}
use Rattle.rc_topology.specs.Ports.{is_loopback, is_serial, links_of}
use Rattle.rc_topology.specs.Topology.{Topology}

abbrev eth : List ℕ
eth = codes "Ethernet0"

abbrev sub : List ℕ
sub = codes "Ethernet0.10"

abbrev other : List ℕ
other = codes "Ethernet1"

abbrev loopback : List ℕ
loopback = codes "Loopback0"

-- 10.0.0.0 and so many more
abbrev ten : ℕ → ℕ
ten n = 10 * 16777216 + n

-- `ip address` in the block of an interface, with a mask of this length
abbrev primary : List ℕ → ℕ → ℕ → Command
primary name n len = InterfaceLine name (interface_line.Address (record { addr = ten n; len = len }) false)

abbrev secondary : List ℕ → ℕ → ℕ → Command
secondary name n len = InterfaceLine name (interface_line.Address (record { addr = ten n; len = len }) true)

abbrev file : List Command → RouterText
file commands = fold after empty commands

-- the links of two routers, and of three
abbrev two : List Command → List Command → Topology
two a b = links_of (uncut ((codes "a", file a) ∷ (codes "b", file b) ∷ []))

abbrev three : List Command → List Command → List Command → Topology
three a b c = links_of (uncut ((codes "a", file a) ∷ (codes "b", file b) ∷ (codes "c", file c) ∷ []))

abbrev at : ℕ → ℕ → IfId
at r n = record { router = r; index = n }

-- ---- links

-- two interfaces of two routers with one prefix share a link
pub one_prefix : linked (two (primary eth 1 24 ∷ []) (primary eth 2 24 ∷ [])) (at 0 0) ≡ at 1 0 ∷ []
unfolding links_of type_of
one_prefix = refl

-- a secondary address counts as a primary one does
pub primary_with_secondary : linked (two (primary eth 1 24 ∷ []) (primary eth 513 24 ∷ secondary eth 2 24 ∷ [])) (at 0 0) ≡ at 1 0 ∷ []
unfolding links_of type_of
primary_with_secondary = refl

-- two interfaces of one router share none
pub one_router : linked (two (primary eth 1 24 ∷ primary other 2 24 ∷ []) []) (at 0 0) ≡ []
unfolding links_of type_of
one_router = refl

-- a loopback shares none, from either side
pub from_loopback : linked (two (primary loopback 1 24 ∷ []) (primary eth 2 24 ∷ [])) (at 0 0) ≡ []
unfolding links_of type_of
from_loopback = refl

pub to_loopback : linked (two (primary loopback 1 24 ∷ []) (primary eth 2 24 ∷ [])) (at 1 0) ≡ []
unfolding links_of type_of
to_loopback = refl

-- nor does an interface that is shut, from either side
pub from_shut : linked (two (primary eth 1 24 ∷ InterfaceLine eth (interface_line.Shutdown true) ∷ []) (primary eth 2 24 ∷ [])) (at 0 0) ≡ []
unfolding links_of type_of
from_shut = refl

pub to_shut : linked (two (primary eth 1 24 ∷ InterfaceLine eth (interface_line.Shutdown true) ∷ []) (primary eth 2 24 ∷ [])) (at 1 0) ≡ []
unfolding links_of type_of
to_shut = refl

-- nor a subinterface whose parent is shut
pub parent_shut : linked (two (InterfaceLine eth (interface_line.Shutdown true) ∷ primary sub 1 24 ∷ []) (primary eth 2 24 ∷ [])) (at 1 0) ≡ []
unfolding links_of type_of
parent_shut = refl

-- the masks have one length: an address in the other's prefix is not enough
pub other_length : linked (two (primary eth 1 24 ∷ []) (primary eth 2 25 ∷ [])) (at 0 0) ≡ []
unfolding links_of type_of
other_length = refl

-- and one network
pub other_network : linked (two (primary eth 1 24 ∷ []) (primary eth 257 24 ∷ [])) (at 0 0) ≡ []
unfolding links_of type_of
other_network = refl

-- in position order, whatever the order of the prefixes, and each once
pub in_position_order : linked (three (primary eth 513 24 ∷ secondary eth 1 24 ∷ []) (primary eth 2 24 ∷ primary other 514 24 ∷ secondary other 3 24 ∷ []) (primary eth 515 24 ∷ [])) (at 0 0)
    ≡ at 1 0 ∷ at 1 1 ∷ at 2 0 ∷ []
unfolding links_of type_of
in_position_order = refl

-- an interface without an address shares none: one of a type that has no addresses is such
pub no_address : linked (two (primary eth 1 24 ∷ []) (Interface (codes "Tunnel0") 1 ∷ [])) (at 0 0) ≡ []
unfolding links_of type_of
no_address = refl

-- ---- takers

abbrev lan : Topology
lan = three (primary eth 1 24 ∷ primary other 769 24 ∷ []) (primary eth 2 24 ∷ primary other 3 24 ∷ []) (primary eth 3 24 ∷ primary loopback 4 24 ∷ [])

-- only who has the address takes it, and only on a link
pub one_taker : takers lan (at 0 0) (ten 2) ≡ at 1 0 ∷ []
unfolding links_of type_of
one_taker = refl

pub another_link : takers lan (at 0 1) (ten 2) ≡ []
unfolding links_of type_of
another_link = refl

-- several may take one address, in position order
pub two_takers : takers lan (at 0 0) (ten 3) ≡ at 1 1 ∷ at 2 0 ∷ []
unfolding links_of type_of
two_takers = refl

-- a loopback takes none, and no interface its own router's
pub loopback_takes_none : takers lan (at 0 0) (ten 4) ≡ []
unfolding links_of type_of
loopback_takes_none = refl

pub own_takes_none : takers lan (at 1 0) (ten 3) ≡ at 2 0 ∷ []
unfolding links_of type_of
own_takes_none = refl

-- whoever shares a link takes each of its addresses, also one of another prefix
pub any_address : takers (two (primary eth 1 24 ∷ []) (primary eth 2 24 ∷ secondary eth 769 32 ∷ [])) (at 0 0) (ten 769) ≡ at 1 0 ∷ []
unfolding links_of type_of
any_address = refl

-- an address that is written twice is taken once
pub taken_once : takers (two (primary eth 1 24 ∷ []) (primary eth 2 24 ∷ secondary eth 2 24 ∷ [])) (at 0 0) (ten 2) ≡ at 1 0 ∷ []
unfolding links_of type_of
taken_once = refl

-- ---- own addresses, prefixes and types

pub own_primary : is_own lan 1 (ten 3) ≡ true
unfolding links_of type_of
own_primary = refl

pub own_secondary : is_own (two (primary eth 1 24 ∷ secondary eth 769 24 ∷ []) []) 0 (ten 769) ≡ true
unfolding links_of type_of
own_secondary = refl

pub own_loopback : is_own lan 2 (ten 4) ≡ true
unfolding links_of type_of
own_loopback = refl

pub another_router : is_own lan 0 (ten 3) ≡ false
unfolding links_of type_of
another_router = refl

-- a prefix of its own isn't enough
pub no_own_host : is_own lan 0 (ten 5) ≡ false
unfolding links_of type_of
no_own_host = refl

-- an interface that is down owns none
pub down_owns_none : is_own (two (primary eth 1 24 ∷ InterfaceLine eth (interface_line.Shutdown true) ∷ []) []) 0 (ten 1) ≡ false
unfolding links_of type_of
down_owns_none = refl

pub down_with_parent_owns_none : is_own (two (InterfaceLine eth (interface_line.Shutdown true) ∷ primary sub 1 24 ∷ []) []) 0 (ten 1) ≡ false
unfolding links_of type_of
down_with_parent_owns_none = refl

-- an address lies in the prefix of a secondary address too
pub holds_secondary : holds (two (primary eth 1 24 ∷ secondary eth 513 24 ∷ []) []) (at 0 0) (ten 600) ≡ true
unfolding links_of type_of
holds_secondary = refl

pub holds_no_other : holds (two (primary eth 1 24 ∷ secondary eth 513 24 ∷ []) []) (at 0 0) (ten 300) ≡ false
unfolding links_of type_of
holds_no_other = refl

pub holds_none : holds lan (at 0 2) (ten 1) ≡ false
unfolding links_of type_of
holds_none = refl

pub of_loopback : kind_of lan (at 2 1) ≡ Some types.Loopback
unfolding links_of type_of
of_loopback = refl

pub of_tunnel : kind_of (two (Interface (codes "Tunnel0") 1 ∷ []) []) (at 0 0) ≡ None
unfolding links_of type_of
of_tunnel = refl

pub of_none : kind_of lan (at 3 0) ≡ None
unfolding links_of type_of
of_none = refl

-- ---- three routers: on the first one Ethernet0 is on three subnets, a serial line leads to the second one, and Ethernet1 is shut

abbrev serial : List ℕ
serial = codes "Serial0"

abbrev sites : Topology
sites =
    three (primary eth 1 24 ∷ secondary eth 513 24 ∷ secondary eth 257 24 ∷ primary loopback 2305 32 ∷ primary serial 2561 30 ∷ primary other 772 24 ∷ InterfaceLine other (interface_line.Shutdown true) ∷ [])
    (primary eth 2 24 ∷ primary other 514 24 ∷ primary serial 2562 30 ∷ [])
    (primary eth 259 24 ∷ secondary eth 3 24 ∷ primary loopback 9 24 ∷ primary other 2 24 ∷ primary (codes "Ethernet2") 773 24 ∷ primary (codes "Tunnel0") 2563 29 ∷ [])

-- by three subnets, in position order; over the line; a loopback has no link, nor has what faces an interface that is shut, nor what isn't there
pub links_of_sites : map (linked sites) (at 0 0 ∷ at 0 2 ∷ at 2 1 ∷ at 2 3 ∷ at 3 0 ∷ []) ≡ (at 1 0 ∷ at 1 1 ∷ at 2 0 ∷ at 2 2 ∷ []) ∷ (at 1 2 ∷ []) ∷ [] ∷ [] ∷ [] ∷ []
unfolding links_of type_of
links_of_sites = refl

-- from either side, and never within a router
pub linked_back : are_linked sites (at 2 0) (at 0 0) ≡ true
unfolding links_of type_of
linked_back = refl

pub linked_within : are_linked sites (at 2 0) (at 2 2) ≡ false
unfolding links_of type_of
linked_within = refl

-- two have 10.0.0.2; nobody on the line has it, nor a loopback's address on a subnet
pub takers_at_sites : takers sites (at 0 0) (ten 2) ≡ at 1 0 ∷ at 2 2 ∷ []
unfolding links_of type_of
takers_at_sites = refl

pub takers_on_the_line : takers sites (at 0 2) (ten 2) ≡ []
unfolding links_of type_of
takers_on_the_line = refl

pub takers_of_a_loopback : takers sites (at 0 0) (ten 9) ≡ []
unfolding links_of type_of
takers_of_a_loopback = refl

-- own: a loopback's address, one that two routers have, a secondary one; not a neighbour's, nor one of an interface that is shut, nor anything where there is no router
pub owners_of_sites : map (λ (a : ℕ × ℕ). is_own sites a.0 (ten a.1)) ((2, 9) ∷ (1, 2) ∷ (2, 2) ∷ (0, 257) ∷ (0, 2) ∷ (0, 772) ∷ (3, 2) ∷ []) ≡ true ∷ true ∷ true ∷ true ∷ false ∷ false ∷ false ∷ []
unfolding links_of type_of
owners_of_sites = refl

-- in a secondary subnet, up to its end; in a loopback's; not where there is no interface
pub held_at_sites : map (λ (a : ℕ × ℕ). holds sites (at 0 a.0) (ten a.1)) ((0, 767) ∷ (0, 1023) ∷ (1, 2305) ∷ (9, 1) ∷ []) ≡ true ∷ false ∷ true ∷ false ∷ []
unfolding links_of type_of
held_at_sites = refl

-- a tunnel has no kind, nor what is no interface
pub kinds_at_sites : map (kind_of sites) (at 0 2 ∷ at 2 4 ∷ at 2 5 ∷ []) ≡ Some types.Serial ∷ None ∷ None ∷ []
unfolding links_of type_of
kinds_at_sites = refl

pub serial_at_sites : map (port_is sites is_serial) (at 0 2 ∷ at 0 1 ∷ []) ≡ true ∷ false ∷ []
unfolding links_of type_of
serial_at_sites = refl

pub loopbacks_at_sites : map (port_is sites is_loopback) (at 0 1 ∷ at 0 0 ∷ []) ≡ true ∷ false ∷ []
unfolding links_of type_of
loopbacks_at_sites = refl

-- ---- 64 routers on one subnet, r00 to r63: each is linked with all others, and an address has its one taker

abbrev crowd : Topology
crowd = links_of (uncut (map (λ n. (114 ∷ (48 + n / 10) ∷ (48 + n % 10) ∷ [], file (primary (codes "Vlan1") (256 + n) 16 ∷ []))) (range_with_len 0 64)))

pub all_others : linked crowd (at 5 0) ≡ map (λ n. at n 0) (filter (λ n. not (n == 5)) (range_with_len 0 64))
unfolding links_of type_of
all_others = refl

pub one_of_the_crowd : takers crowd (at 5 0) (ten 319) ≡ at 63 0 ∷ []
unfolding links_of type_of
one_of_the_crowd = refl

pub not_itself : takers crowd (at 5 0) (ten 261) ≡ []
unfolding links_of type_of
not_itself = refl
