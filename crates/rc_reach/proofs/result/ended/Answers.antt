use Rattle.std.proofs.Common.{ap, length, sym, subst}
use Rattle.std.proofs.lemmas.Result.{IfOk-at_ok}
use Rattle.rc_base.specs.Positions.{is_among}
use Rattle.rc_config.specs.Members.{positions}
use Rattle.rc_edges.specs.Prepare.{ends_at}
use Rattle.rc_jobs.specs.Flows.{KnowsFlows, flows_of, real_endings}
use Rattle.rc_spread.specs.Known.{KnowsShare}
use Rattle.rc_reach.specs.Rounds.{reached_at}
use Rattle.rc_reach.proofs.result.ended.Goals as goal

pub reaching_set-requires-clause-endings : goal.reaching_set-requires-clause-endings
reaching_set-requires-clause-endings g c =
    let plane = c.args.plane.now in
    let n = length (positions plane.network) in
    subst (λ fs. KnowsFlows c.args.work.now fs (real_endings (ends_at plane c.args.ends) n)) (sym (ap (flows_of (is_among c.args.ends)) c.as_slice.ensures)) c.requires.endings

pub reaching_set-requires-clause-sets : goal.reaching_set-requires-clause-sets
reaching_set-requires-clause-sets g c =
    let plane = c.args.plane.now in
    let n = length (positions plane.network) in
    let last = reached_at plane c.args.place.now n in
    subst (λ rs. KnowsShare c.args.work.now rs last 0 n) (sym c.as_slice-in-Ok.ensures.value) (IfOk-at_ok (λ v. KnowsShare c.args.work.now v.items last 0 n) c.in-Ok.is c.requires.sets)
