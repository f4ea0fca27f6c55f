-- What the workers of a round read.
use Rattle.std.specs.Prelude.{◌≡◌, List, Option, length, true}
use Rattle.rc_bgp.specs.Telling.{told_inside}
use Rattle.rc_external.specs.Externals.{externals, IsByPrefix}
use Rattle.rc_reads.specs.Stayed.{HaveStayed}
use Rattle.rc_reads.specs.declared.stayed.Stayed.{Stayed}
use Rattle.rc_rib.specs.Inputs.{IsEarlier}
use Rattle.rc_route.specs.Tables.{IsStateOf}
use Rattle.rc_route.specs.declared.best.Best.{Best}
use Rattle.rc_route.specs.declared.state.RouterState.{RouterState}
use Rattle.rc_rounds.specs.Setting.{IsSetting}
use Rattle.rc_rounds.specs.declared.parts.Setting.{Setting}

-- what no round changes; the state before, in order, what AS boundary routers send of it and what routers may tell inside of it; and
-- where there was a round earlier yet, the state from which that one came, and what changed since, and of that inside
pub record AreRead (s : Setting) (inside : List (Option (List Best))) (read before : List RouterState) : Type 0 where
  pub setting : IsSetting s.network.now s.internal.now s.sessions.now
  pub state : IsStateOf (length s.network.now.routers) read
  pub externals : s.externals.now ≡ externals s.network.now read
  pub by_prefix : IsByPrefix s.externals.now
  pub listed : inside ≡ told_inside s.sessions.now read
  pub earlier : s.has_earlier ≡ true → IsEarlier s.network.now s.internal.now read before s.changes.now s.changes_inside.now

-- the same, as workers hand it on, and who knew the same after that round as before it
unfoldable pub IsReady : Setting → List (Option (List Best)) → Stayed → List RouterState → List RouterState → Type 0
IsReady s inside stayed read before = AreRead s inside read before × (s.has_earlier ≡ true → HaveStayed s.network.now stayed before read)
