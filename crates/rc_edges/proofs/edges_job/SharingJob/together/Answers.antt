use Rattle.std.proofs.Common.{ℕ, length}
use Rattle.std.proofs.lemmas.Result.{IfOk-weaker}
use Rattle.rc_config.specs.Members.{positions}
use Rattle.rc_nodes.specs.Seats.{SeatView}
use Rattle.rc_edges.specs.Prepare.{edge_at, stops_at}
use Rattle.rc_edges.specs.Shares.{IsShare}
use Rattle.rc_edges.proofs.edges_job.SharingJob.together.Goals as goal

pub returns : goal.returns
returns c =
    let s = c.args.self.now in
    IfOk-weaker c.with.result _ (λ whole. (seat : SeatView) (a b d : ℕ) → IsShare seat s.plane.now s.ends a b c.args.left → IsShare seat s.plane.now s.ends b d c.args.right → IsShare seat s.plane.now s.ends a d whole)
    (λ whole all seat a b d left right. all seat (edge_at s.plane.now) (stops_at s.plane.now s.ends) (length (positions s.plane.now.network)) a b d left right) c.with.ensures
