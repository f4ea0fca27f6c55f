-- What a network in which no router reads what any router knows is found to be.
use Rattle.std.specs.Prelude.{◌≡◌, ◌==◌, ℕ, List, if◌then◌else◌}
use Rattle.rc_config.specs.declared.network.Network.{Network}
use Rattle.rc_fib.specs.Entry.{Entry}
use Rattle.rc_moves.specs.Moves.{route_count, tables_of}
use Rattle.rc_rounds.specs.Rounds.{IsOutcome}
use Rattle.rc_route.specs.declared.outcome.Outcome.TheVariants.{Fixed}
use Rattle.rc_route.specs.declared.state.RouterState.{RouterState}
use Rattle.rc_topology.specs.Ports.{links_of}
use Rattle.rc_topology.specs.Topology.{Topology}

-- the round after which nothing changes any more: the first where there is no route, and else the second, which finds what the first has made
abbrev pub last_round : List (List Entry) → ℕ
last_round tables = if route_count tables == 0 then 1 else 2

-- its links, and the prepared tables of the state in which its rounds end within a limit: at a fixed point, after this round
pub record AreTablesAlone (net : Network) (limit : ℕ) (links : Topology) (tables : List (List Entry)) (round : ℕ) : Type 0 where
  pub state : List RouterState
  pub own : links ≡ links_of net
  pub outcome : IsOutcome net limit (Fixed round state)
  pub prepared : tables ≡ tables_of state
