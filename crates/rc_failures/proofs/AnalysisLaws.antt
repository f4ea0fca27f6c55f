-- The analysis of a network by what its routers know at one address.
use Rattle.std.proofs.Common.{refl, ◌≡◌, ℕ, ◌≤◌, Bool, true, List}
use Rattle.std.specs.Bool.{Decides}
use Rattle.std.specs.List.{list_all}
use Rattle.rc_base.specs.declared.ending.Ends.{Ends}
use Rattle.rc_base.specs.declared.header.Header.{Header}
use Rattle.rc_base.specs.declared.position.Pos.{Pos}
use Rattle.rc_config.specs.declared.network.Network.{Network}
use Rattle.rc_route.specs.declared.outcome.Outcome.TheVariants as ending
use Rattle.rc_route.specs.declared.outcome.RoundsEnd.TheVariants as rounds_end
use Rattle.rc_route.specs.declared.state.RouterState.{RouterState}
use Rattle.rc_rounds.specs.AtAddress.{IsKnownAt}
use Rattle.rc_topology.specs.Topology.{Topology}
use Rattle.rc_moves.specs.Moves.{plane_of}
use Rattle.rc_failures.specs.AtAddress.{knows_plain}
use Rattle.rc_failures.specs.Failures.{Arrives, IsAnalysis}
use Rattle.rc_failures.proofs.AgreeLaws.{decides_alike}

pub analysed : (net : Network) (limit : ℕ) → 2 ≤ limit → (place : Pos) (h : Header) (ends : Ends) (links : Topology) (state : List RouterState) → IsKnownAt net h.dst links state → list_all knows_plain state ≡ true
    → (arrives : Bool) → Decides arrives (Arrives (plane_of net state) place h ends) → IsAnalysis net limit place h ends (rounds_end.Fixed 2) arrives
analysed net limit within place h ends links state is plain arrives decides = record {
  outcome = ending.Fixed 2 is.whole;
  is_outcome = is.outcome limit within;
  ended = refl;
  arrival = decides_alike net h place ends is.whole state is.alike plain arrives decides;
}
