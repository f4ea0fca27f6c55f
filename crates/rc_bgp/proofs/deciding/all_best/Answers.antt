use Rattle.std.proofs.Common.{◌∙◌}
use Rattle.std.proofs.lemmas.Result.{IfOk-weaker}
use Rattle.rc_bgp.proofs.GatheringLaws.{gathered_best}
use Rattle.rc_bgp.proofs.deciding.all_best.Goals as goal

pub returns : goal.returns
returns c =
    IfOk-weaker c.best_of_each.result _ _
    (λ paths made. gathered_best c.args.net.now c.args.resolver.now c.args.state.now c.args.most c.args.own.now c.args.sessions.now c.into_rows.result.entries paths c.requires.state c.requires.own (c.into_rows.ensures ∙ c.in_ok-rows.ensures) made)
    c.best_of_each.ensures
