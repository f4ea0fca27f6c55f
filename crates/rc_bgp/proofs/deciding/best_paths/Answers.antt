use Rattle.std.proofs.lemmas.Result.{IfOk-weaker}
use Rattle.rc_bgp.proofs.BestLaws.{best_in_order}
use Rattle.rc_bgp.proofs.deciding.best_paths.Goals as goal

pub returns-clause-in_order : goal.returns-clause-in_order
returns-clause-in_order c =
    IfOk-weaker c.all_best.result _ _ (best_in_order c.args.net.now c.args.previous.now c.maximum_of.result c.new-resolver.result c.as_slice.result.now c.as_slice-2.result.now) c.all_best.ensures
