-- Interfaces that stand together on a transit network: by them all their routers are adjacent to one another.
use Rattle.std.specs.Prelude.{◌≡◌, ◌==◌, ◌⊎◌, Bool, true, not, ◌&&◌, List, Contains}
use Rattle.std.specs.Bool.{beq}
use Rattle.std.specs.List.{list_any}
use Rattle.rc_base.specs.Prefix.{same_prefix}
use Rattle.rc_topology.specs.Links.{is_named, port_is}
use Rattle.rc_topology.specs.Ports.{is_on}
use Rattle.rc_topology.specs.Topology.{Topology}
use Rattle.rc_ospf_interfaces.specs.declared.interface.OspfInterface.{OspfInterface}
use Rattle.rc_link_state.specs.Adjacency.{is_adjacent, is_same_network, step_over}
use Rattle.rc_link_state.specs.declared.step.Step.{Step}
use Rattle.rc_link_state.specs.declared.transit.Attached.{Attached}
use Rattle.rc_link_state.specs.declared.transit.Transit.{Transit}

-- it takes neighbours, it is on the prefix of its primary address and no loopback, and no cut names it
abbrev pub is_whole : Topology → OspfInterface → Bool
is_whole links i = not i.is_passive && (port_is links (is_on i.prefix) i.id && not (list_any (is_named i.id) links.cuts))

-- prefix, area, stub flag of the area, network type and intervals are the same
abbrev pub agree : OspfInterface → OspfInterface → Bool
agree i j = same_prefix i.prefix j.prefix && ((i.area == j.area) && (beq i.is_stub j.is_stub && (is_same_network i.network j.network && ((i.hello == j.hello) && (i.dead == j.dead)))))

pub record AreTogether (links : Topology) (i j : OspfInterface) : Type 0 where
  pub first : is_whole links i ≡ true
  pub second : is_whole links j ≡ true
  pub alike : agree i j ≡ true

abbrev pub attached_of : OspfInterface → Attached
attached_of i = record { out = i.id; cost = i.cost; gateway = i.addr }

-- the step is one between two of some interfaces
pub record IsStepBetween (links : Topology) (interfaces : List OspfInterface) (x : Step) : Type 0 where
  pub source : OspfInterface
  pub target : OspfInterface
  pub has_source : Contains interfaces source
  pub has_target : Contains interfaces target
  pub adjacent : is_adjacent links source target ≡ true
  pub step : step_over source target ≡ x

-- both interfaces are attached to one of the networks
pub record HasBoth (transits : List Transit) (i j : OspfInterface) : Type 0 where
  pub network : Transit
  pub has : Contains transits network
  pub area : network.area ≡ i.area
  pub source : Contains network.attached (attached_of i)
  pub target : Contains network.attached (attached_of j)

-- what is attached to the network are two of some interfaces that stand together
pub record AreAttached (links : Topology) (interfaces : List OspfInterface) (t : Transit) (a b : Attached) : Type 0 where
  pub source : OspfInterface
  pub target : OspfInterface
  pub has_source : Contains interfaces source
  pub has_target : Contains interfaces target
  pub together : AreTogether links source target
  pub area : t.area ≡ source.area
  pub first : attached_of source ≡ a
  pub second : attached_of target ≡ b

-- steps that are listed and networks make up the steps between some interfaces
pub record AreSplit (links : Topology) (interfaces : List OspfInterface) (listed : List Step) (transits : List Transit) : Type 0 where
  pub each_listed : (x : Step) → Contains listed x → IsStepBetween links interfaces x
  pub each_network : (t : Transit) (a b : Attached) → Contains transits t → Contains t.attached a → Contains t.attached b → AreAttached links interfaces t a b
  pub each_step : (i j : OspfInterface) → Contains interfaces i → Contains interfaces j → is_adjacent links i j ≡ true → Contains listed (step_over i j) ⊎ HasBoth transits i j
