use Rattle.std.proofs.Common.{◌∙◌}
use Rattle.rc_bgp.specs.Candidates.{candidates_at}
use Rattle.rc_bgp.specs.Listening.{candidates_by}
use Rattle.rc_bgp.proofs.HearLaws.{by_tellers}
use Rattle.rc_bgp.proofs.ListLaws.{one_listed}
use Rattle.rc_bgp.proofs.deciding.candidates_for.Goals as goal

pub loop-prefix-preserved : goal.loop-prefix-preserved
loop-prefix-preserved c = record {
  kept = one_listed (candidates_at c.args.net.now c.args.state.now c.args.resolver.now c.args.own.now c.args.sessions.now) c.args.prefixes.now c.loop-prefix.prefix-index c.prefix-item.result c.loop-prefix.all c.append.new.all _ c.candidates_at.new.paths.items
      c.loop-prefix-test.true c.prefix-item.is
      (c.in_ok-candidates_at.ensures.value ∙ (λ i. candidates_by (c.loop-prefix.invariant.same i) c.args.own.now (c.loop-prefix.invariant.senders i) c.prefix-item.result) ∙ by_tellers c.args.net.now c.args.state.now c.args.resolver.now c.args.own.now c.args.sessions.now c.prefix-item.result)
      c.in_ok-append.ensures c.loop-prefix.invariant.kept;
  same = c.in_ok-candidates_at.ensures.same ∙ c.loop-prefix.invariant.same;
  senders = c.in_ok-candidates_at.ensures.same_senders ∙ c.loop-prefix.invariant.senders;
}
