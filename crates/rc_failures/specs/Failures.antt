-- What the failure of each single link does to a packet.
use Rattle.std.specs.Prelude.{◌≡◌, ℕ, Bool, true, false, List}
use Rattle.std.specs.Bool.{Decides}
use Rattle.rc_base.specs.Positions.{is_among}
use Rattle.rc_base.specs.declared.ending.Ends.{Ends}
use Rattle.rc_base.specs.declared.ending.Kind.{Kind}
use Rattle.rc_base.specs.declared.header.Header.{Header}
use Rattle.rc_base.specs.declared.position.Pos.{Pos}
use Rattle.rc_config.specs.Cuts.{with_cut}
use Rattle.rc_config.specs.declared.network.Network.{Network}
use Rattle.rc_config.specs.declared.network.Pair.{Pair}
use Rattle.rc_shares.specs.Making.{AreMade}
use Rattle.rc_report.specs.declared.failures.FailRow.{FailRow}
use Rattle.rc_rounds.specs.Rounds.{IsOutcome}
use Rattle.rc_route.specs.Outcomes.{end_of}
use Rattle.rc_route.specs.declared.outcome.Outcome.{Outcome}
use Rattle.rc_route.specs.declared.outcome.Outcome.TheVariants.{Fixed, Repeats, Limit}
use Rattle.rc_route.specs.declared.outcome.RoundsEnd.{RoundsEnd}
use Rattle.rc_topology.specs.Links.{pairs}
use Rattle.rc_topology.specs.Ports.{links_of}
use Rattle.rc_moves.specs.Moves.{DataPlane, plane_of}
use Rattle.rc_moves.specs.Walks.{IsWalk}
use Rattle.rc_moves.specs.declared.walk.Stop.TheVariants.{At}
use Rattle.rc_moves.specs.declared.walk.Walk.{Walk}

-- some walk of a packet from a place, no position twice, may end in one of the endings
pub record Arrives (plane : DataPlane) (place : Pos) (h : Header) (ends : Ends) : Type 0 where
  pub walk : Walk
  pub kind : Kind
  pub is_walk : IsWalk plane h place walk
  pub stops : walk.stop ≡ At kind
  pub asked : is_among ends kind ≡ true

-- whether the packet arrives once the rounds of a network have ended: only a fixed point has walks
abbrev pub IsArrival : Network → Pos → Header → Ends → Outcome → Bool → Type 0
IsArrival net place h ends (Fixed k state) arrives = Decides arrives (Arrives (plane_of net state) place h ends)
IsArrival net place h ends (Repeats i k) arrives = arrives ≡ false
IsArrival net place h ends (Limit n) arrives = arrives ≡ false

-- how the rounds of a network end within a limit, and whether the packet arrives then
pub record IsAnalysis (net : Network) (limit : ℕ) (place : Pos) (h : Header) (ends : Ends) (end : RoundsEnd) (arrives : Bool) : Type 0 where
  pub outcome : Outcome
  pub is_outcome : IsOutcome net limit outcome
  pub ended : end ≡ end_of outcome
  pub arrival : IsArrival net place h ends outcome arrives

-- the row of a pair of interfaces: the analysis of the network that is cut between them
pub record IsFailRow (net : Network) (limit : ℕ) (place : Pos) (h : Header) (ends : Ends) (pair : Pair) (row : FailRow) : Type 0 where
  pub first : row.first ≡ pair.first
  pub second : row.second ≡ pair.second
  pub analysis : IsAnalysis (with_cut net pair.first pair.second) limit place h ends row.end row.arrives

-- one row for each pair of interfaces that share a link, in their order
abbrev pub AreFailures : Network → ℕ → Pos → Header → Ends → List FailRow → Type 0
AreFailures net limit place h ends rows = AreMade (IsFailRow net limit place h ends) (pairs (links_of net)) rows

-- a network has one such list
abbrev pub HasOneList : Type 0
HasOneList = (net : Network) (limit : ℕ) (place : Pos) (h : Header) (ends : Ends) (these those : List FailRow) → AreFailures net limit place h ends these → AreFailures net limit place h ends those → these ≡ those
