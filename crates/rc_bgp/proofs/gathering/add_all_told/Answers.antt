use Rattle.std.proofs.Common.{◌∙◌, ap}
use Rattle.std.specs.Option.{option_to_list}
use Rattle.rc_bgp.specs.Gathering.{told_of, with_paths}
use Rattle.rc_bgp.specs.Listening.{Hearer}
use Rattle.rc_bgp.proofs.GatheringLaws.{one_told}
use Rattle.rc_bgp.proofs.gathering.add_all_told.Goals as goal

pub add_told-requires : goal.add_told-requires
add_told-requires c = ap (λ (l : Hearer). l.session) c.loop-best.invariant.listener ∙ c.requires

pub loop-best-preserved : goal.loop-best-preserved
loop-best-preserved c = record {
  kept = one_told (told_of c.args.listener.now.net c.args.resolver.now c.args.session.now) c.args.paths.now c.loop-best.best-index c.best-item.result c.loop-best.rows c.add_told.new.rows _ c.loop-best-test.true c.best-item.is
      (c.in_ok-add_told.ensures.value ∙ (λ i. with_paths c.loop-best.rows (option_to_list (told_of (c.loop-best.invariant.listener i).net (c.loop-best.invariant.same i) c.args.session.now c.best-item.result)))) c.loop-best.invariant.kept;
  same = c.in_ok-add_told.ensures.same ∙ c.loop-best.invariant.same;
  listener = c.in_ok-add_told.ensures.same_listener ∙ c.loop-best.invariant.listener;
}
