use Rattle.std.proofs.Common.{◌∙◌, ◌++◌, ap}
use Rattle.std.specs.List.{filter_map}
use Rattle.rc_bgp.specs.Redistributing.{redistributed}
use Rattle.rc_bgp.proofs.PieceLaws.{mapped}
use Rattle.rc_bgp.proofs.redistributing.passed_paths.Goals as goal

pub loop-piece-preserved : goal.loop-piece-preserved
loop-piece-preserved c =
    let f = redistributed c.args.router c.args.file.now c.args.source c.args.kinds.now c.args.prefixes.now c.args.line.now in
    mapped f c.pieces-piece-items.result.now c.loop-piece.piece-index c.piece-item.result c.loop-piece.paths c.add_passed.new.paths _ c.loop-piece-test.true c.piece-item.is
    (c.in_ok-add_passed.ensures ∙ ap (λ routes. c.loop-piece.paths ++ filter_map f routes) c.as_slice-routes.ensures.value) c.loop-piece.invariant
