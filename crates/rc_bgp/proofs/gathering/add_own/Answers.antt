use Rattle.std.proofs.Common.{◌∙◌, ap}
use Rattle.rc_bgp.specs.Gathering.{with_paths}
use Rattle.rc_bgp.proofs.GatheringLaws.{one_list}
use Rattle.rc_bgp.proofs.gathering.add_own.Goals as goal

pub loop-paths-preserved : goal.loop-paths-preserved
loop-paths-preserved c =
    one_list (λ paths. paths) c.args.own.now c.loop-paths.paths-index c.paths-item.result c.loop-paths.rows c.add_copies.new.rows _ c.loop-paths-test.true c.paths-item.is
    (c.in_ok-add_copies.ensures ∙ ap (with_paths c.loop-paths.rows) c.as_slice.ensures) c.loop-paths.invariant
