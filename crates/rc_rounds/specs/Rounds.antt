-- Rounds of tables: in each of them all routers read the state of the round before alone.
use Rattle.std.specs.Prelude.{◌≡◌, ◌≢◌, ℕ, zero, suc, ◌+◌, ◌-◌, ◌^◌, ◌≤◌, ◌<◌, List, [], map, nat_lt, if◌then◌else◌}
use Rattle.rc_config.specs.declared.network.Network.{Network}
use Rattle.rc_config.specs.Members.{router_ids}
use Rattle.rc_ospf.specs.declared.model.Internal.{Internal}
use Rattle.rc_route.specs.declared.state.RouterState.{RouterState}
use Rattle.rc_ospf.specs.Internal.{IsInternal}
use Rattle.rc_rib.specs.Next.{next_state}
use Rattle.rc_topology.specs.Ports.{links_of}
use Rattle.rc_route.specs.declared.outcome.Outcome.{Outcome}
use Rattle.rc_route.specs.declared.outcome.Outcome.TheVariants.{Fixed, Repeats, Limit}

-- the state in which no router knows anything
abbrev pub empty_state : Network → List RouterState
empty_state net = map (λ _. record { table = []; paths = [] }) (router_ids net)

-- the state after k rounds, beside what OSPF gives without a state
abbrev pub state_after : Network → Internal → ℕ → List RouterState
state_after net internal zero = empty_state net
state_after net internal (suc k) = next_state net internal (state_after net internal k)

-- the greatest of the first n powers of two that is below k, and 0 where there is none
abbrev pub power_below : ℕ → ℕ → ℕ
power_below zero k = 0
power_below (suc n) k = if nat_lt (2 ^ n) k then 2 ^ n else power_below n k

-- the checkpoint of round k: the greatest power of two below k, and 0 for the first round
abbrev pub checkpoint : ℕ → ℕ
checkpoint k = power_below k k

-- the state after round k is neither that of the round before nor that of its checkpoint
pub record GoesOn (net : Network) (internal : Internal) (k : ℕ) : Type 0 where
  pub changes : state_after net internal k ≢ state_after net internal (k - 1)
  pub is_new : state_after net internal k ≢ state_after net internal (checkpoint k)

abbrev pub GoesOnBelow : Network → Internal → ℕ → Type 0
GoesOnBelow net internal k = (j : ℕ) → 1 ≤ j → j < k → GoesOn net internal j

-- The rounds end at the least k from 1 to the limit at which the state is that of the round before, or else that of the
-- checkpoint; without such a k they reach the limit.
abbrev pub EndsAs : Network → Internal → ℕ → Outcome → Type 0
EndsAs net internal limit (Fixed k state) = (1 ≤ k) × (k ≤ limit) × GoesOnBelow net internal k × (state ≡ state_after net internal k) × (state_after net internal k ≡ state_after net internal (k - 1))
EndsAs net internal limit (Repeats i k) =
    (1 ≤ k) × (k ≤ limit) × GoesOnBelow net internal k × (i ≡ checkpoint k) × (state_after net internal k ≢ state_after net internal (k - 1)) × (state_after net internal k ≡ state_after net internal i)
EndsAs net internal limit (Limit n) = (n ≡ limit) × GoesOnBelow net internal (limit + 1)

-- how the rounds of a network end within a limit: at a fixed point, at a state that was there before, or at the limit
pub record IsOutcome (net : Network) (limit : ℕ) (outcome : Outcome) : Type 0 where
  pub internal : Internal
  pub links : internal.links ≡ links_of net
  pub is_internal : IsInternal net internal
  pub ends : EndsAs net internal limit outcome

-- a network has one outcome within a limit
abbrev pub HasOneOutcome : Type 0
HasOneOutcome = (net : Network) (limit : ℕ) (this that : Outcome) → IsOutcome net limit this → IsOutcome net limit that → this ≡ that
