use Rattle.std.proofs.Common.{rules, ◌≡◌, length, sym, subst}
use Rattle.rc_base.specs.Positions.{is_among}
use Rattle.rc_config.specs.Members.{positions}
use Rattle.rc_edges.specs.Prepare.{ends_at}
use Rattle.rc_jobs.specs.Flows.{KnowsFlows, flows_of, real_endings}
use Rattle.rc_reach.proofs.result.reaching_set.Goals as goal

pub reaching_in-requires-clause-endings : goal.reaching_in-requires-clause-endings
reaching_in-requires-clause-endings g c =
    let plane = c.args.plane.now in
    let n = length (positions plane.network) in
    let same : c.as_slice.result.now ≡ flows_of (is_among c.args.ends) c.args.endings.now = search rules in
    subst (λ fs. KnowsFlows c.args.work.now fs (real_endings (ends_at plane c.args.ends) n)) (sym same) c.requires.endings
