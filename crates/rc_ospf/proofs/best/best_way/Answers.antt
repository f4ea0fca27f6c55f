use Rattle.rc_ospf.specs.Members.{reach_of}
use Rattle.rc_ospf.proofs.BestLaws.{is_best, has_best}
use Rattle.rc_ospf.proofs.best.best_way.Goals as goal

pub returns-clause-best : goal.returns-clause-best
returns-clause-best g c =
    let m = g.C.TellsCosts.member c.args.costs.now in
    is_best (reach_of m) c.args.others m.router c.args.offers.now c.best_of_few.result c.best_of_few.ensures.value

pub returns-clause-place : goal.returns-clause-place
returns-clause-place g c =
    let m = g.C.TellsCosts.member c.args.costs.now in
    has_best (reach_of m) c.args.others m.router c.args.offers.now c.best_of_few.result c.best_of_few.ensures.value
