-- Worked cases of cuts and of the pairs that share a link, each by computation.
use Rattle.std.specs.Prelude.{◌≡◌, ℕ, ◌+◌, ◌*◌, true, false, List, [], ◌∷◌, map, Some, codes, refl}
use Rattle.std.specs.List.{fold, list_any}
use Rattle.rc_base.specs.Prefix.{Cidr}
use Rattle.rc_base.specs.declared.position.IfId.{IfId}
use Rattle.rc_config.specs.declared.command.Command.{Command}
use Rattle.rc_config.specs.declared.command.Command.TheVariants.{InterfaceLine}
use Rattle.rc_config.specs.declared.interface.InterfaceLine.TheVariants as interface_line
use Rattle.rc_config.specs.declared.network.Network.{Network}
use Rattle.rc_config.specs.declared.network.Pair.{Pair}
use Rattle.rc_config.specs.declared.router_text.RouterText.{RouterText}
use Rattle.rc_config.specs.Cuts.{uncut, with_cut}
use Rattle.rc_config.specs.IfType.{type_of}
use Rattle.rc_config.specs.Update.{after, empty}
use Rattle.rc_topology.specs.Links.{are_linked, is_cut, is_named, is_own, linked, pairs, port_is, takers}
use Rattle.rc_topology.specs.Ports.{is_on, links_of}
use Rattle.rc_topology.specs.Topology.{Topology}

abbrev eth : List ℕ
eth = codes "Ethernet0"

abbrev other : List ℕ
other = codes "Ethernet1"

-- `ip address 10.0.A.B` in the block of an interface, with a mask of 24 bits
abbrev addressed : List ℕ → ℕ → ℕ → Command
addressed name a b = InterfaceLine name (interface_line.Address (record { addr = 10 * 16777216 + 256 * a + b; len = 24 }) false)

abbrev secondary : List ℕ → ℕ → ℕ → Command
secondary name a b = InterfaceLine name (interface_line.Address (record { addr = 10 * 16777216 + 256 * a + b; len = 24 }) true)

abbrev file : List Command → RouterText
file commands = fold after empty commands

abbrev at : ℕ → ℕ → IfId
at r n = record { router = r; index = n }

abbrev between : IfId → IfId → Pair
between i j = record { first = i; second = j }

-- a and b by two subnets, and c on the second one of them too
abbrev net : Network
net = uncut (
    (codes "a", file (addressed eth 1 1 ∷ addressed other 2 1 ∷ []))
    ∷ (codes "b", file (addressed other 2 2 ∷ addressed eth 1 2 ∷ []))
    ∷ (codes "c", file (addressed eth 2 3 ∷ [])) ∷ [])

abbrev whole : Topology
whole = links_of net

-- without the pair of a and b on the second subnet
abbrev without : Topology
without = links_of (with_cut net (at 0 1) (at 1 0))

-- the pairs of a subnet of three are three, and each pair stands once, behind those whose first interface stands before its own
pub all_pairs : pairs whole ≡ between (at 0 0) (at 1 1) ∷ between (at 0 1) (at 1 0) ∷ between (at 0 1) (at 2 0) ∷ between (at 1 0) (at 2 0) ∷ []
unfolding links_of type_of
all_pairs = refl

pub one_pair_less : pairs without ≡ between (at 0 0) (at 1 1) ∷ between (at 0 1) (at 2 0) ∷ between (at 1 0) (at 2 0) ∷ []
unfolding links_of type_of
one_pair_less = refl

-- a network is cut nowhere from the start
pub cut_nowhere : is_cut whole (at 0 1) (at 1 0) ≡ false
unfolding links_of
cut_nowhere = refl

-- a cut is one both ways
pub cut_one_way : are_linked without (at 0 1) (at 1 0) ≡ false
unfolding links_of type_of
cut_one_way = refl

pub cut_other_way : are_linked without (at 1 0) (at 0 1) ≡ false
unfolding links_of type_of
cut_other_way = refl

-- it is the same whichever of the two is named first
pub named_turned : pairs (links_of (with_cut net (at 1 0) (at 0 1))) ≡ pairs without
unfolding links_of type_of
named_turned = refl

-- both are linked with the others of their subnet as before
pub others_stay : map (linked without) (at 0 1 ∷ at 1 0 ∷ at 2 0 ∷ []) ≡ (at 2 0 ∷ []) ∷ (at 2 0 ∷ []) ∷ (at 0 1 ∷ at 1 0 ∷ []) ∷ []
unfolding links_of type_of
others_stay = refl

-- nobody takes an address over a cut, and it stays its owner's
pub no_taker : takers without (at 0 1) (10 * 16777216 + 514) ≡ []
unfolding links_of type_of
no_taker = refl

pub taken_elsewhere : takers without (at 2 0) (10 * 16777216 + 514) ≡ at 1 0 ∷ []
unfolding links_of type_of
taken_elsewhere = refl

pub own_as_before : is_own without 1 (10 * 16777216 + 514) ≡ true
unfolding links_of
own_as_before = refl

-- the pair of two interfaces that share two subnets is one, and its cut takes both away
abbrev double : Network
double = uncut ((codes "a", file (addressed eth 1 1 ∷ secondary eth 2 1 ∷ [])) ∷ (codes "b", file (addressed eth 1 2 ∷ secondary eth 2 2 ∷ [])) ∷ [])

pub one_pair : pairs (links_of double) ≡ between (at 0 0) (at 1 0) ∷ []
unfolding links_of type_of
one_pair = refl

pub cut_whole : pairs (links_of (with_cut double (at 0 0) (at 1 0))) ≡ []
unfolding links_of type_of
cut_whole = refl

-- a second cut leaves the first one
pub cut_twice : pairs (links_of (with_cut (with_cut net (at 0 1) (at 1 0)) (at 0 0) (at 1 1))) ≡ between (at 0 1) (at 2 0) ∷ between (at 1 0) (at 2 0) ∷ []
unfolding links_of type_of
cut_twice = refl

-- both interfaces of a cut pair are named by the cut, whichever of them it names first, and no other one is
pub both_are_named : map (λ i. list_any (is_named i) without.cuts) (at 0 0 ∷ at 0 1 ∷ at 1 0 ∷ at 2 0 ∷ []) ≡ false ∷ true ∷ true ∷ false ∷ []
unfolding links_of type_of
both_are_named = refl

abbrev second_subnet : Cidr
second_subnet = record { network = 10 * 16777216 + 512; len = 24 }

-- interfaces are on the subnets of their addresses, cut or not, and on no others; one that isn't there is on none
pub on_their_subnets : map (port_is without (is_on second_subnet)) (at 0 0 ∷ at 0 1 ∷ at 1 0 ∷ at 1 1 ∷ at 2 0 ∷ at 2 1 ∷ []) ≡ false ∷ true ∷ true ∷ false ∷ true ∷ false ∷ []
unfolding links_of type_of
on_their_subnets = refl
