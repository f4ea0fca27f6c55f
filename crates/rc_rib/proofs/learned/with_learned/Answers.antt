use Rattle.std.proofs.Common.{arith, ◌≡◌, ap, ◌∙◌, [], ◌++◌, drop}
use Rattle.std.proofs.lemmas.List.{drop_all}
use Rattle.rc_pieces.specs.Pieces.{joined}
use Rattle.rc_rib.specs.Merging.{merged}
use Rattle.rc_rib.specs.Next.{learned_routes}
use Rattle.rc_rib.proofs.LearnedLaws.{all_learned, piece_placed}
use Rattle.rc_rib.proofs.MergingLaws.{with_none}
use Rattle.rc_rib.proofs.learned.with_learned.Goals as goal

pub returns-then-is_empty : goal.returns-then-is_empty
returns-then-is_empty c = with_none c.args.table (learned_routes c.args.paths.now) (ap learned_routes (c.is_empty.ensures.0 c.if-is_empty.true))

pub loop-piece-init : goal.loop-piece-init
loop-piece-init c = λ i. c.in_ok-made.ensures i ++ merged ((c.from-left.ensures.0 ∙ c.into_vec.ensures) i) (learned_routes (c.pieces-piece-items.ensures.whole i))

pub loop-piece-preserved : goal.loop-piece-preserved
loop-piece-preserved c =
    piece_placed c.pieces-piece-items.result.now c.loop-piece.piece-index c.piece-item.result c.as_slice.result.now c.loop-piece.left.items c.loop-piece.made c.place_all.new.left.items c.place_all.new.made _ c.loop-piece-test.true c.piece-item.is
    c.as_slice.ensures.value (c.in_ok-place_all.ensures) c.loop-piece.invariant

pub returns : goal.returns
returns c =
    let pieces = c.pieces-piece-items.result.now in
    let index = c.loop-piece.piece-index in
    let none : drop index pieces ≡ [] = drop_all index pieces (omega (arith, c.loop-piece-test.false)) in
    let pushed : c.append.new.made ≡ c.loop-piece.made ++ c.loop-piece.left.items = cc c.in_ok-append.ensures in
    all_learned c.loop-piece.left.items c.loop-piece.made (learned_routes (joined (drop index pieces))) c.append.new.made (merged c.args.table (learned_routes c.args.paths.now)) (ap (λ ps. learned_routes (joined ps)) none) c.loop-piece.invariant pushed
