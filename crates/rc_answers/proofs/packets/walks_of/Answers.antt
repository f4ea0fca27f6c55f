use Rattle.std.proofs.Common.{IfOk, subst, sym}
use Rattle.rc_answers.specs.Written.{AreWalksOf}
use Rattle.rc_answers.proofs.packets.walks_of.Goals as goal

pub returns-in-Reaching : goal.returns-in-Reaching
returns-in-Reaching c = subst (λ asked. IfOk c.shortest_walks.result (AreWalksOf c.args.plane.now asked c.args.header.now)) (sym c.in-Reaching.is) c.shortest_walks.ensures
