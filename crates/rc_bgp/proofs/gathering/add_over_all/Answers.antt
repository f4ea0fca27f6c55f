use Rattle.std.proofs.Common.{◌∙◌, ap}
use Rattle.rc_bgp.specs.Gathering.{heard_over, with_paths}
use Rattle.rc_bgp.proofs.GatheringLaws.{one_list}
use Rattle.rc_bgp.proofs.gathering.add_over_all.Goals as goal

pub loop-session-preserved : goal.loop-session-preserved
loop-session-preserved c = record {
  kept = one_list (heard_over c.args.net.now c.args.resolver.now c.args.state.now) c.args.sessions.now c.loop-session.session-index c.session-item.result c.loop-session.rows c.add_over.new.rows _ c.loop-session-test.true c.session-item.is
      (c.in_ok-add_over.ensures.value ∙ ap (λ t. with_paths c.loop-session.rows (heard_over c.args.net.now t c.args.state.now c.session-item.result)) c.loop-session.invariant.same) c.loop-session.invariant.kept;
  same = c.in_ok-add_over.ensures.same ∙ c.loop-session.invariant.same;
}
