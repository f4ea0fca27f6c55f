-- What files give to what is asked, before it is written.
use Rattle.std.specs.Prelude.{ℕ, List}
use Rattle.rc_config.specs.declared.network.Network.{Network}
use Rattle.rc_network.specs.declared.refusal.NetRefusal.{NetRefusal}
use Rattle.rc_report.specs.declared.failures.FailRow.{FailRow}
use Rattle.rc_report.specs.declared.idle.RouterIdle.{RouterIdle}
use Rattle.rc_route.specs.declared.outcome.RoundsEnd.{RoundsEnd}
use Rattle.rc_route.specs.declared.state.RouterState.{RouterState}
use Rattle.rc_trees.specs.Trees.{Tree}
use Rattle.rc_moves.specs.declared.walk.Walk.{Walk}

-- what is shown after the outcome of the rounds
pub data Shown : Type 0 where
  nothing : Shown
  -- the routes of all routers in a state, or of one
  routes_of_all : List RouterState → Shown
  routes_of : List RouterState → ℕ → Shown
  -- a walk
  walk_of : Walk → Shown
  -- the cubes of a set of headers; the first ones have an example each, with its walks
  cubes_of : Tree → List (List Walk) → Shown
  -- how many routes all tables have, and the first cube of a set of headers
  first_cube_of : ℕ → Tree → Shown
  -- what each single link's failure does
  failures_of : List FailRow → Shown

-- the first refusal, or that there is no such place, or the lines of access lists that never decide, or a network with how its rounds ended and what is shown after it
pub data Given : Type 0 where
  refused : NetRefusal → Given
  no_place : Given
  idle : List RouterIdle → Given
  ended : Network → RoundsEnd → Shown → Given
