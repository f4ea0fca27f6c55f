use Rattle.rc_moves.specs.Moves.{plane_with, route_count}
use Rattle.rc_answers.proofs.PutLaws.{plane_put}
use Rattle.rc_answers.proofs.packets.answer_over_tables.Goals as goal

pub returns-clause-put : goal.returns-clause-put
returns-clause-put g c =
    let plane = plane_with c.args.net.now c.args.tables in
    plane_put c.args.request.now c.of-plane.result plane c.args.end c.in-Ok.routes (route_count c.args.tables) c.args.packets.now c.of-plane.ensures c.in-Ok.ensures c.answer_over-status.ensures.put
