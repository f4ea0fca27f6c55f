-- How far the rounds are, and what is kept of them.
use Rattle.std.specs.Prelude.{◌≡◌, ◌≢◌, ◌⊎◌, ◌==◌, ℕ, ◌+◌, ◌-◌, ◌*◌, ◌^◌, ◌≤◌, ◌<◌, List, All, length, if◌then◌else◌}
use Rattle.rc_bgp.specs.Changes.{AreChanges}
use Rattle.rc_config.specs.declared.network.Network.{Network}
use Rattle.rc_ospf.specs.declared.model.Internal.{Internal}
use Rattle.rc_reads.specs.Stayed.{AreFlagged}
use Rattle.rc_rib.specs.Next.{next_state}
use Rattle.rc_route.specs.Tables.{IsRouterState, IsStateOf}
use Rattle.rc_route.specs.declared.state.RouterState.{RouterState}
use Rattle.rc_rounds.specs.Rounds.{state_after, GoesOnBelow}
use Rattle.rc_rounds.specs.declared.round.Round.{Round}
use Rattle.rc_rounds.specs.declared.progress.Progress.{Progress}
use Rattle.rc_rounds.specs.declared.progress.Same.{Same}
use Rattle.rc_rounds.specs.declared.progress.Same.TheVariants.{Last, Checkpoint, Neither}

-- 0 for the first round, else a power of two that is below k, and whose double is not
unfoldable pub IsPowerBelow : ℕ → ℕ → Type 0
IsPowerBelow k c = ((k ≡ 1) × (c ≡ 0)) ⊎ ((n : ℕ) × (c ≡ 2 ^ n) × (c < k) × (k ≤ 2 * c))

-- the state that is kept of the checkpoint
abbrev pub checkpoint_state : Progress → List RouterState
checkpoint_state p = if p.checkpoint == p.done then p.last else (if p.checkpoint + 1 == p.done then p.before else p.kept)

-- the last state and that of the checkpoint are those after their rounds, and no round so far has ended the rounds
pub record IsUnderWay (net : Network) (internal : Internal) (p : Progress) : Type 0 where
  pub last : p.last ≡ state_after net internal p.done
  pub in_order : IsStateOf (length net.routers) p.last
  pub before : p.checkpoint + 1 ≡ p.done → p.before ≡ state_after net internal p.checkpoint
  pub checkpoint : IsPowerBelow (p.done + 1) p.checkpoint
  pub within : p.checkpoint ≤ p.done
  pub kept : p.checkpoint + 1 < p.done → p.kept ≡ state_after net internal p.checkpoint
  pub earlier : GoesOnBelow net internal (p.done + 1)

-- the state before is that after its round too, all that the last round changed in best paths is told, and flags are set only where it changed
-- nothing
pub record IsProgress (net : Network) (internal : Internal) (p : Progress) : Type 0 where
  pub under_way : IsUnderWay net internal p
  pub before : 1 ≤ p.done → p.before ≡ state_after net internal (p.done - 1)
  pub before_in_order : All IsRouterState p.before
  pub changes : 1 ≤ p.done → AreChanges p.changes p.before p.last
  pub stayed : AreFlagged p.stayed p.before p.last

-- the next state is that of the round before, or else that of the checkpoint, or neither
abbrev pub IsSame : Progress → List RouterState → Same → Type 0
IsSame p next Last = next ≡ p.last
IsSame p next Checkpoint = (next ≢ p.last) × (next ≡ checkpoint_state p)
IsSame p next Neither = (next ≢ p.last) × (next ≢ checkpoint_state p)

-- a round from a state is put together
pub record IsRound (net : Network) (internal : Internal) (last : List RouterState) (round : Round) : Type 0 where
  pub state : round.state ≡ next_state net internal last
  pub in_order : IsStateOf (length net.routers) round.state
  pub changes : AreChanges round.changes last round.state
  pub stayed : AreFlagged round.stayed last round.state
