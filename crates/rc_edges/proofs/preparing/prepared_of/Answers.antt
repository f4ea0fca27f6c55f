use Rattle.std.proofs.Common.{length}
use Rattle.std.proofs.lemmas.Result.{IfOk-at_ok}
use Rattle.rc_config.specs.Members.{positions}
use Rattle.rc_edges.specs.Prepare.{edge_at, stops_at}
use Rattle.rc_edges.specs.Shares.{IsShare}
use Rattle.rc_edges.proofs.preparing.prepared_of.Goals as goal

pub returns-in-Ok-clause-prepared : goal.returns-in-Ok-clause-prepared
returns-in-Ok-clause-prepared c = λ seat plane ends made.
    let n = length (positions plane.network) in
    c.prepared.ensures seat (edge_at plane) (stops_at plane ends) n (IfOk-at_ok (IsShare seat plane ends 0 n) c.in-Ok.is made)
