-- What the positions of a share send, and what may end at them.
use Rattle.std.specs.Prelude.{◌≡◌, ℕ, length}
use Rattle.rc_base.specs.declared.ending.Ends.{Ends}
use Rattle.rc_config.specs.Lawful.{IsLawful}
use Rattle.rc_config.specs.Members.{positions}
use Rattle.rc_config.specs.declared.network.Network.{Network}
use Rattle.rc_edges.specs.Prepare.{MayPrepare, edge_at, stops_at}
use Rattle.rc_nodes.specs.Seats.{TableView, SeatView}
use Rattle.rc_jobs.specs.declared.collected.Collected.{Collected}
use Rattle.rc_topology.specs.Ports.{links_of}
use Rattle.rc_moves.specs.Moves.{DataPlane}
use Rattle.rc_jobs.specs.Collecting.{IsCollected}

-- a lawful network's plane with its links, the places of its positions, and a table for its edges and the endings asked for
pub record IsReady (nodes : TableView) (plane : DataPlane) (places : Network) (ends : Ends) : Type 0 where
  pub lawful : IsLawful plane.network
  pub links : plane.links ≡ links_of plane.network
  pub same : places ≡ plane.network
  pub may : MayPrepare nodes.may plane ends

-- the seat knows what the positions of some numbers send to each position, and which endings asked for some header may have there
abbrev pub IsShare : SeatView → DataPlane → Ends → ℕ → ℕ → Collected → Type 0
IsShare seat plane ends a b share = IsCollected seat (edge_at plane) (stops_at plane ends) (length (positions plane.network)) a b share
