-- Interfaces are adjacent that agree, take neighbours and share a link.
use Rattle.std.proofs.Common.{refl, ◌≡◌, ap, sym, ◌==◌, Bool, true, false, not, ◌&&◌}
use Rattle.std.specs.Bool.{beq}
use Rattle.rc_base.specs.Prefix.{same_prefix}
use Rattle.rc_topology.specs.Links.{are_linked}
use Rattle.rc_topology.specs.Topology.{Topology}
use Rattle.rc_ospf_interfaces.specs.declared.interface.OspfInterface.{OspfInterface}
use Rattle.rc_link_state.specs.Adjacency.{is_adjacent, is_same_network}
use Rattle.rc_link_state.specs.Listing.{is_neighbour}

never : (a : Bool) → (a && false) ≡ false
never true = refl
never false = refl

sorted_out : (a e f g h k b c d : Bool) → ((a && (e && (f && (g && (h && k))))) && (c && (d && b))) ≡ (a && b && c && d && e && f && g && h && k)
sorted_out false e f g h k b c d = refl
sorted_out true false f g h k b c d = sym (ap (λ t. t && f && g && h && k) (never (b && c && d)))
sorted_out true true false g h k b c d = sym (ap (λ t. t && g && h && k) (never (b && c && d && true)))
sorted_out true true true false h k b c d = sym (ap (λ t. t && h && k) (never (b && c && d && true && true)))
sorted_out true true true true false k b c d = sym (ap (λ t. t && k) (never (b && c && d && true && true && true)))
sorted_out true true true true true false b c d = sym (never (b && c && d && true && true && true && true))
sorted_out true true true true true true true true true = refl
sorted_out true true true true true true true true false = refl
sorted_out true true true true true true true false d = refl
sorted_out true true true true true true false true true = refl
sorted_out true true true true true true false true false = refl
sorted_out true true true true true true false false d = refl

pub neighbours_are_adjacent : (links : Topology) (i j : OspfInterface) → is_neighbour links i j ≡ is_adjacent links i j
neighbours_are_adjacent links i j = sorted_out (same_prefix i.prefix j.prefix) (i.area == j.area) (beq i.is_stub j.is_stub) (is_same_network i.network j.network) (i.hello == j.hello) (i.dead == j.dead)
    (are_linked links i.id j.id) (not i.is_passive) (not j.is_passive)
