use Rattle.std.proofs.Common.{◌<◌, length}
use Rattle.rc_config.specs.Members.{positions}
use Rattle.rc_edges.specs.Sendings.{IsSending}
use Rattle.rc_edges.specs.Shares.{IsShare}
use Rattle.rc_nodes.specs.Seats.{Keeps}
use Rattle.rc_places.specs.Places.{position_at}
use Rattle.rc_edges.proofs.worker_shares.put_positions.Given as goal

-- so far the share is that of the first of its positions
abbrev pub invariant-loop-number : goal.invariant-loop-number
invariant-loop-number g l = record {
  keeps : Keeps l.fn.work l.work;
  last : l.last < length (positions l.places);
  sends : IsSending l.nodes l.work l.plane l.ends (position_at l.places l.last) l.sending;
  share : IsShare l.work l.plane l.ends l.from l.number l.share;
}
