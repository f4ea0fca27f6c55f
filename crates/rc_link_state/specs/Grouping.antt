-- Interfaces by segment: each stands with those that take neighbours and agree with it.
use Rattle.std.specs.Prelude.{◌≡◌, Bool, not, ◌&&◌, List, [], ◌∷◌, ◌++◌, filter, Option, Some, None, unwrap_or}
use Rattle.std.specs.BTreeMap.{BTreeMap, IsOrdered, get}
use Rattle.std.specs.Ordering.{is_eq}
use Rattle.std.specs.declared.cmp.Ordering.{Ordering}
use Rattle.rc_config.specs.declared.ospf.NetworkType.TheVariants.{Broadcast}
use Rattle.rc_topology.specs.Links.{port_is}
use Rattle.rc_topology.specs.Ports.{is_loopback}
use Rattle.rc_topology.specs.Topology.{Topology}
use Rattle.rc_ospf_interfaces.specs.declared.interface.OspfInterface.{OspfInterface}
use Rattle.rc_link_state.specs.Adjacency.{is_same_network}
use Rattle.rc_link_state.specs.contracts.segment.SegmentOrd.TheImpl as segment_ord
use Rattle.rc_link_state.specs.declared.segment.Segment.{Segment}

-- what an interface has to agree on with an adjacent one
abbrev pub segment_of : OspfInterface → Segment
segment_of i = record { prefix = i.prefix; area = i.area; hello = i.hello; dead = i.dead; is_stub = i.is_stub; is_broadcast = is_same_network i.network Broadcast }

-- the order in which the code keeps segments
abbrev pub segment_cmp : Segment → Segment → Ordering
segment_cmp = (segment_ord.ghosts).cmp

-- it takes neighbours: it isn't passive, and no loopback
abbrev pub is_active : Topology → OspfInterface → Bool
is_active links i = not i.is_passive && not (port_is links is_loopback i.id)

-- it is of the segment
abbrev pub is_of : Segment → OspfInterface → Bool
is_of s i = is_eq (segment_cmp (segment_of i) s)

-- those of a segment that take neighbours
abbrev pub interfaces_of : Topology → Segment → List OspfInterface → List OspfInterface
interfaces_of links s interfaces = filter (is_of s) (filter (is_active links) interfaces)

abbrev pub with_interface : Option (List OspfInterface) → OspfInterface → List OspfInterface
with_interface None i = i ∷ []
with_interface (Some known) i = known ++ i ∷ []

-- what stands under a segment
abbrev pub members : BTreeMap Segment (List OspfInterface) → Segment → List OspfInterface
members rows s = unwrap_or (get segment_cmp rows s) []

-- one interface more stands under its segment, and nothing else changes
pub record IsPut (old : BTreeMap Segment (List OspfInterface)) (i : OspfInterface) (new : BTreeMap Segment (List OspfInterface)) : Type 0 where
  pub members_with : (s : Segment) → members new s ≡ members old s ++ filter (is_of s) (i ∷ [])

-- under each segment stand those of it that take neighbours
pub record AreRows (links : Topology) (interfaces : List OspfInterface) (rows : BTreeMap Segment (List OspfInterface)) : Type 0 where
  pub ordered : IsOrdered segment_cmp rows
  pub members_of : (s : Segment) → members rows s ≡ interfaces_of links s interfaces
