use Rattle.std.proofs.Common.{◌∙◌, ap}
use Rattle.std.specs.List.{filter_map}
use Rattle.rc_bgp.specs.Gathering.{told_of, with_paths}
use Rattle.rc_bgp.specs.Listening.{Hearer}
use Rattle.rc_bgp.proofs.PieceLaws.{put_under}
use Rattle.rc_bgp.proofs.gathering.add_all_listed.Goals as goal

pub add_all_told-requires : goal.add_all_told-requires
add_all_told-requires c = ap (λ (l : Hearer). l.session) c.loop-piece.invariant.listener ∙ c.requires

pub loop-piece-preserved : goal.loop-piece-preserved
loop-piece-preserved c = record {
  kept = put_under (told_of c.args.listener.now.net c.args.resolver.now c.args.session.now) c.pieces-piece-items.result.now c.loop-piece.piece-index c.piece-item.result c.loop-piece.rows c.add_all_told.new.rows _ c.loop-piece-test.true c.piece-item.is
      (c.in_ok-add_all_told.ensures.value ∙ (λ i. with_paths c.loop-piece.rows (filter_map (told_of (c.loop-piece.invariant.listener i).net (c.loop-piece.invariant.same i) c.args.session.now) (c.as_slice.ensures.value i)))) c.loop-piece.invariant.kept;
  same = c.in_ok-add_all_told.ensures.same ∙ c.loop-piece.invariant.same;
  listener = c.in_ok-add_all_told.ensures.same_listener ∙ c.loop-piece.invariant.listener;
}
