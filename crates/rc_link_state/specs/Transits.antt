-- Steps by transit networks (RFC 2328 s.2.1): a network stands for a step between each two interfaces of different routers.
use Rattle.std.specs.Prelude.{◌≡◌, ℕ, ◌+◌, ◌≤◌, ◌⊎◌, ◌↔◌, List, Option, None, Some, MatchOption, Contains}
use Rattle.rc_route.specs.declared.route.Hop.{Hop}
use Rattle.rc_route.specs.declared.route.Hop.TheVariants.{Via}
use Rattle.rc_link_state.specs.Towards.{LeadsOn}
use Rattle.rc_link_state.specs.declared.step.Step.{Step}
use Rattle.rc_link_state.specs.declared.transit.Attached.{Attached}
use Rattle.rc_link_state.specs.declared.transit.Transit.{Transit}

-- the step over a network from one of its interfaces to another one
abbrev pub across : ℕ → Attached → Attached → Step
across area i j = record { area = area; out = i.out; to = j.out.router; cost = i.cost; gateway = j.gateway }

-- it is one over the network, between interfaces of different routers
pub record IsAcross (t : Transit) (x : Step) : Type 0 where
  pub source : Attached
  pub target : Attached
  pub has_source : Contains t.attached source
  pub has_target : Contains t.attached target
  pub apart : ¬ (source.out.router ≡ target.out.router)
  pub step : across t.area source target ≡ x

-- over some network
abbrev pub IsAcrossSome : List Transit → Step → Type 0
IsAcrossSome transits x = (t : Transit) × Contains transits t × IsAcross t x

-- the steps are those that are listed, and those over the networks
abbrev pub AreStepsBy : List Step → List Transit → List Step → Type 0
AreStepsBy listed transits steps = (x : Step) → Contains steps x ↔ (Contains listed x ⊎ IsAcrossSome transits x)

-- what is left from a network on: the least of what is left from the routers attached to it, and nothing where none has anything left
abbrev pub IsLeftFrom : (ℕ → Option ℕ) → Transit → Option ℕ → Type 0
IsLeftFrom costs t left = MatchOption left ((i : Attached) → Contains t.attached i → costs i.out.router ≡ None)
    (λ l. ((i : Attached) × Contains t.attached i × (costs i.out.router ≡ Some l)) × ((i : Attached) (c : ℕ) → Contains t.attached i → costs i.out.router ≡ Some c → l ≤ c))

-- So much a router's interface on the network costs with what is left from there, and so little is left from a router attached to it:
-- the hop is the second one's primary address, over the first one.
pub record LeadsAcross (t : Transit) (r : ℕ) (costs : ℕ → Option ℕ) (cost : ℕ) (h : Hop) : Type 0 where
  pub left : ℕ
  pub is_left : IsLeftFrom costs t (Some left)
  pub source : Attached
  pub has_source : Contains t.attached source
  pub leaves : source.out.router ≡ r
  pub sum : left + source.cost ≡ cost
  pub target : Attached
  pub has_target : Contains t.attached target
  pub has_left : costs target.out.router ≡ Some left
  pub hop : Via target.gateway (Some source.out) ≡ h

-- by a step that is listed, or over a network of the area
abbrev pub LeadsOnBy : List Step → List Transit → ℕ → ℕ → (ℕ → Option ℕ) → ℕ → Hop → Type 0
LeadsOnBy listed transits area r costs cost h =
    LeadsOn listed area r costs cost h ⊎ ((t : Transit) × Contains transits t × (t.area ≡ area) × LeadsAcross t r costs cost h)

-- each interface costs something to leave by
abbrev pub CostSomething : List Transit → Type 0
CostSomething transits = (t : Transit) (i : Attached) → Contains transits t → Contains t.attached i → 1 ≤ i.cost
